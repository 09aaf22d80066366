use Rattle.std.proofs.Common.{length}
use Rattle.jl_report.proofs.GatherLaws.{HadTurns}
use Rattle.jl_report.proofs.defining.Rounds.next_in_round.Given as goal

abbrev pub invariant-loop-one : goal.invariant-loop-one
invariant-loop-one l =
    HadTurns l.classes l.initial.self.waiting.items l.initial.self.left.items l.self.waiting.items l.self.left.items

abbrev pub decreases-loop-one : goal.decreases-loop-one
decreases-loop-one l = length l.self.waiting.items
