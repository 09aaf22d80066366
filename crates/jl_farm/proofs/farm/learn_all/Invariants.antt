use Rattle.std.proofs.Common.{All, take}
use mathlib.Core.List.{IsPrefix}
use Rattle.jl_farm.specs.Reports.{lists_of}
use Rattle.jl_farm.proofs.farm.learn_all.Given as goal

-- the lists that the reports so far name begin what the caller has seen
abbrev pub invariant-loop-report : goal.invariant-loop-report
invariant-loop-report g l = All (λ report. All (λ list. IsPrefix list l.caller) (lists_of report.outcome)) (take l.report-index l.reports)
