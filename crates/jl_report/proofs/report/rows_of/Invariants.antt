use Rattle.std.proofs.Common.{◌≡◌, map, take}
use Rattle.jl_report.specs.Reports.{row_of}
use Rattle.jl_report.proofs.report.rows_of.Given as goal

abbrev pub invariant-loop-invocation : goal.invariant-loop-invocation
invariant-loop-invocation l = l.rows.items ≡ map (row_of l.classes) (take l.invocation-index l.invocations)
