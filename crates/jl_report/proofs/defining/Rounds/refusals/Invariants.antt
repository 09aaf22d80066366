use Rattle.std.proofs.Common.{length}
use Rattle.jl_report.proofs.GatherLaws.{AreToldOf}
use Rattle.jl_report.proofs.defining.Rounds.refusals.Given as goal

abbrev pub invariant-loop-one : goal.invariant-loop-one
invariant-loop-one l = AreToldOf l.classes l.fn.self.waiting.items l.waiting.items l.refused.items

abbrev pub decreases-loop-one : goal.decreases-loop-one
decreases-loop-one l = length l.waiting.items
