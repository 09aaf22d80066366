use Rattle.std.proofs.Common.{length}
use Rattle.jl_report.specs.ForProofs.Waiting.{queue}
use Rattle.jl_listing.proofs.breaks.add_further.Given as goal

abbrev pub decreases-loop-rounds : goal.decreases-loop-rounds
decreases-loop-rounds g l = length (queue l.rounds)
