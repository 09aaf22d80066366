use Rattle.std.proofs.Common.{length}
use Rattle.jl_report.proofs.DropLaws.{OpenSoFar}
use Rattle.jl_report.proofs.breaking.keep_open.Given as goal

abbrev pub invariant-loop-row : goal.invariant-loop-row
invariant-loop-row l = OpenSoFar l.classes l.fn.rows.items l.rows.items l.initial.kept.items l.kept.items

abbrev pub decreases-loop-row : goal.decreases-loop-row
decreases-loop-row l = length l.rows.items
