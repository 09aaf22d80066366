use Rattle.std.specs.Prelude.{◌≡◌, ℕ, take, map, Some}
use Rattle.std.proofs.Common.{rules, of_calls, ◌∙◌, inl}
use Rattle.std.proofs.lemmas.Result.{err_from_is_err_and}
use Rattle.jl_types.specs.Linkage.Links.{scratch}
use Rattle.jl_types.specs.Events.Preparation.{link_fault}
use Rattle.jl_relink.specs.declared.outline.Outline.{Outline}
use Rattle.jl_relink.specs.ForProofs.Wide.{row_of_plan, IsPlanned, ArePlanned}
use Rattle.jl_relink.proofs.BatchLaws.{all_ready, first_unready, zip_each}
use Rattle.jl_relink.proofs.WideLaws.{plan_prepared}
use Rattle.jl_relink.proofs.outline.plan_of_batch.Goals as goal

pub returns-clause-plan : goal.returns-clause-plan
returns-clause-plan c =
    let w = c.args.world.now in
    let sites = c.args.sites.now in
    let plan = c.fill.new.made.items in
    let planned : ArePlanned w sites plan =
    zip_each _ (λ (s : ℕ) (row : ℕ × Outline). (row.0 ≡ s) × IsPlanned w s row.1) (λ s row k. search (rules, of_calls)) sites plan c.in_ok-fill.ensures.made
    in
    (c.in_ok-plan.ensures.checked ∙ all_ready w sites (map (row_of_plan w.classes) plan) (plan_prepared w sites plan planned), planned)

pub returns-in_err-fill-clause-fault : goal.returns-in_err-fill-clause-fault
returns-in_err-fill-clause-fault c =
    let p = err_from_is_err_and c.from_residual-in_err-fill.result c.from_residual-in_err-fill.ensures.1 in
    let w = c.args.world.now in
    let sites = c.args.sites.now in
    let first = c.in_err-fill.ensures.first in
    let planned : ArePlanned w (take first.count sites) first.made =
    zip_each _ (λ (s : ℕ) (row : ℕ × Outline). (row.0 ≡ s) × IsPlanned w s row.1) (λ s row k. search (rules, of_calls))
    (take first.count sites) first.made first.fine
    in
    let unready : link_fault first.item (scratch w first.item) ≡ Some c.in_err-fill.field-0.0 =
    let k = first.fails in
    search (rules, of_calls)
    in
    rw (p.1, p.2)
    (inl
    (c.in_ok-plan.ensures.checked
    ∙ first_unready w sites first.count first.item (map (row_of_plan w.classes) first.made) c.in_err-fill.field-0.0
    (plan_prepared w (take first.count sites) first.made planned) first.next unready))
