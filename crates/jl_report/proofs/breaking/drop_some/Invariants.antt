use Rattle.std.proofs.Common.{length}
use Rattle.jl_report.proofs.DropLaws.{Parted}
use Rattle.jl_report.proofs.breaking.drop_some.Given as goal

abbrev pub invariant-loop-before : goal.invariant-loop-before
invariant-loop-before l =
    Parted l.classes l.keys l.fn.rows.items l.rows.items l.left.items l.fn.dropped.items l.dropped.items

abbrev pub decreases-loop-before : goal.decreases-loop-before
decreases-loop-before l = length l.rows.items
