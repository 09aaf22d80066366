use Rattle.std.specs.Prelude.{length}
use Rattle.std.proofs.Common.{rules, arith}
use Rattle.std.proofs.lemmas.Iterator.{YieldsList-from_range}
use Rattle.std.proofs.lemmas.Iterator.Search.{any_from_yields_List}
use Rattle.jl_report.specs.Finals.{overrides_final}
use Rattle.jl_report.proofs.finals.some_overrides_final.Goals as goal

pub returns : goal.returns
returns c =
    let n = length c.args.classes.now.rows in
    any_from_yields_List (overrides_final c.args.classes.now) _ _ _ c.any.ensures.ran
    (YieldsList-from_range 0 n n (λ i. record { start = 0; end = c.count_in_order-count.ensures.count i }) (omega arith)) (λ x b q k. search rules)
