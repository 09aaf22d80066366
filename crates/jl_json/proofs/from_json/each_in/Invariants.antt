use Rattle.std.proofs.Common.{◌≡◌, Some, take}
use Rattle.serde_json.specs.View.{items_view}
use Rattle.jl_json.specs.Members.{each_in}
use Rattle.jl_json.proofs.from_json.each_in.Given as goal

abbrev pub invariant-loop-item : goal.invariant-loop-item
invariant-loop-item g l = each_in g.T.FromJson.read (items_view (take l.item-index l.items)) ≡ Some l.list.items
