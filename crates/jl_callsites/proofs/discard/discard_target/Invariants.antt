use Rattle.jl_callsites.specs.ForProofs.{turns_left}
use Rattle.jl_callsites.proofs.discard.discard_target.Given as goal

abbrev pub decreases-loop-point : goal.decreases-loop-point
decreases-loop-point l = turns_left l.rest
