use Rattle.std.proofs.Common.{◌≡◌, take}
use Rattle.jl_numbered.proofs.numbered.copies.Given as goal

abbrev pub invariant-loop-slot : goal.invariant-loop-slot
invariant-loop-slot g l = l.made.items ≡ take l.slot-index l.slots
