use Rattle.std.proofs.Common.{Ok, take, ◌+◌, ◌≤◌, length}
use Rattle.std.specs.Fn.{FnReturnsAt}
use Rattle.std.specs.List.{AllZip}
use Rattle.std.specs.Vec.{vec_len, vec_capacity}
use Rattle.jl_relink.proofs.items.fill.Given as goal

-- the items so far are made, and there is room for the others
abbrev pub invariant-loop-item : goal.invariant-loop-item
invariant-loop-item g l = record {
  made : AllZip (λ item one. FnReturnsAt g.F.Fn l.make item (Ok one)) (take l.item-index l.items) l.made.items;
  room : vec_len l.made + length l.items ≤ l.item-index + vec_capacity l.made;
}
