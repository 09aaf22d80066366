use Rattle.jl_relink.specs.Placed.{asking}
use Rattle.jl_report.specs.Methods.{run_on}
use Rattle.jl_report.proofs.MethodLaws.{Found}
use Rattle.jl_report.proofs.methods.methods_on.Given as goal

abbrev pub invariant-loop-receiver : goal.invariant-loop-receiver
invariant-loop-receiver l = Found (run_on (asking l.classes l.place)) l.receivers l.most l.receiver-index l.found.items
