use Rattle.jl_report.specs.Methods.{looked_at, runs}
use Rattle.jl_report.proofs.MethodLaws.{told_runs, told_apart}
use Rattle.jl_report.proofs.laws.told_methods_run.Goals as goal

pub returns-clause-run : goal.returns-clause-run
returns-clause-run c = λ cs row m. told_runs m (runs cs row (looked_at row.rests_on))

pub returns-clause-apart : goal.returns-clause-apart
returns-clause-apart c = λ cs row. told_apart (runs cs row (looked_at row.rests_on))
