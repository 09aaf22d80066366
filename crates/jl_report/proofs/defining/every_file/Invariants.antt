use Rattle.std.proofs.Common.{length}
use Rattle.jl_report.proofs.GatherLaws.{HavePlaces}
use Rattle.jl_report.proofs.defining.every_file.Given as goal

abbrev pub invariant-loop-file : goal.invariant-loop-file
invariant-loop-file l = HavePlaces l.fn.files.items l.files.items l.all.items

abbrev pub decreases-loop-file : goal.decreases-loop-file
decreases-loop-file l = length l.files.items
