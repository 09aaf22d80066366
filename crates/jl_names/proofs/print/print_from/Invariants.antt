use Rattle.std.proofs.Common.{length}
use Rattle.jl_names.specs.ForProofs.Prints.{print_from}
use Rattle.jl_names.proofs.PrintLaws.{Comes}
use Rattle.jl_names.proofs.print.print_from.Given as goal

abbrev pub invariant-loop-rest : goal.invariant-loop-rest
invariant-loop-rest l = Comes l.print l.rest (print_from l.before l.text)

abbrev pub decreases-loop-rest : goal.decreases-loop-rest
decreases-loop-rest l = length l.rest
