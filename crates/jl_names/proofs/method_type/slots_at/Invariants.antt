use Rattle.std.proofs.Common.{length}
use Rattle.jl_names.specs.ForProofs.MethodTypes.{SlotsStand}
use Rattle.jl_names.proofs.method_type.slots_at.Given as goal

abbrev pub invariant-loop-after : goal.invariant-loop-after
invariant-loop-after l = SlotsStand l.text l.slots l.rest

abbrev pub decreases-loop-after : goal.decreases-loop-after
decreases-loop-after l = length l.rest
