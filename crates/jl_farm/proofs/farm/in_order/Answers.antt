use Rattle.std.proofs.Common.{rules}
use Rattle.std.proofs.lemmas.List.Sorted.{IsNonDecreasingBy-from_sort_by_key}
use Rattle.jl_farm.specs.declared.report.Report.{Report}
use Rattle.jl_farm.proofs.farm.in_order.Goals as goal

pub returns-clause-rising : goal.returns-clause-rising
returns-clause-rising g c =
    IsNonDecreasingBy-from_sort_by_key (λ (report : Report g.row.K.Denot). report.job) _ c.sort_unstable_by_key.ensures.sorted (λ a r q k. search rules)
