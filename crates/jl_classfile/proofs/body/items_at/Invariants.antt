use Rattle.std.proofs.Common.{◌≡◌, ◌-◌}
use Rattle.jl_classfile.specs.ForProofs.Bodies.{with_front, items_at}
use Rattle.jl_classfile.proofs.body.items_at.Given as goal

abbrev pub invariant-items : goal.invariant-items
invariant-items g l = with_front l.items.items (items_at g.T.Item.reader (l.count - l.counter) l.rest) ≡ items_at g.T.Item.reader l.count l.bytes
