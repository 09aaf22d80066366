use Rattle.std.proofs.Common.{◌==◌, take}
use Rattle.jl_report.specs.ForProofs.Marking.{AreMarked}
use Rattle.jl_report.proofs.made.mark_all.Given as goal

abbrev pub invariant-loop-class : goal.invariant-loop-class
invariant-loop-class l = AreMarked (λ c d. d == c) (take l.class-index l.listed) l.initial.marks l.marks
