use Rattle.std.proofs.Common.{◌≡◌, ◌-◌, length, drop}
use Rattle.jl_numbered.specs.ForProofs.Placed.{placed}
use Rattle.jl_numbered.proofs.numbered.first_from.Given as goal

abbrev pub invariant-loop-slot : goal.invariant-loop-slot
invariant-loop-slot g l = record {
  left : placed l.from (drop l.from l.slots) ≡ placed l.place (drop l.place l.slots);
}

abbrev pub decreases-loop-slot : goal.decreases-loop-slot
decreases-loop-slot g l = length l.slots - l.place
