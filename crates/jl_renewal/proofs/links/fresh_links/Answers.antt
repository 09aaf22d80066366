use Rattle.std.specs.Prelude.{ℕ, Option, option_and_then}
use Rattle.std.proofs.Common.{ap, ◌∙◌}
use Rattle.jl_types.specs.Linkage.Links.{scratch}
use Rattle.jl_renewal.specs.Renewal.{row_of, fresh_row}
use Rattle.jl_renewal.proofs.AddLaws.{pushes_turn}
use Rattle.jl_renewal.proofs.links.fresh_links.Goals as goal

pub loop-one-preserved : goal.loop-one-preserved
loop-one-preserved c =
    pushes_turn _ c.args.linked.now c.loop-one.one-index c.one-item.result c.row_of.result _ _ c.loop-one-test.true
    (c.row_of.ensures
    ∙ (ap (λ (site : Option ℕ). option_and_then (λ s. row_of s (scratch c.args.fresh.now s)) site) c.site.ensures
    ∙ ap (fresh_row c.args.fresh.now c.args.numbers.now) c.one-item.is))
    c.loop-one.invariant c.in_ok-push_if_any.ensures
