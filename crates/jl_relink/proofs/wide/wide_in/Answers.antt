use Rattle.std.specs.Prelude.{◌≡◌, ℕ, List, map, All}
use Rattle.std.proofs.Common.{refl, sym, ap, subst, ◌∙◌, inr}
use Rattle.jl_types.specs.Values.World.{World}
use Rattle.jl_types.specs.declared.link.Link.{Link}
use Rattle.jl_types.specs.Events.Preparation.{ArePrepared}
use Rattle.jl_relink.specs.declared.outline.Outline.{Outline}
use Rattle.jl_relink.specs.ForProofs.Wide.{row_of_plan, IsThere}
use Rattle.jl_relink.proofs.WideLaws.{plan_prepared, plan_there}
use Rattle.jl_relink.proofs.wide.wide_in.Goals as goal

pub rows_of_plan-requires-after_bounds : goal.rows_of_plan-requires-after_bounds
rows_of_plan-requires-after_bounds g c κs bounds =
    subst (λ (w : World). All (λ (row : ℕ × Outline). IsThere w.classes row.1) c.as_slice.result.now) (sym c.world.view_is)
    (subst (λ (rows : List (ℕ × Outline)). All (λ (row : ℕ × Outline). IsThere c.args.world.now.classes row.1) rows) (sym c.as_slice.ensures.value)
    (plan_there c.args.world.now c.args.sites.now c.in_ok-plan.plan.items c.in_ok-plan.ensures.plan.1))

pub returns-in-Ok : goal.returns-in-Ok
returns-in-Ok g c =
    let w = c.args.world.now in
    let sites = c.args.sites.now in
    let plan = c.in_ok-plan.plan.items in
    let rows : c.of.result ≡ map (row_of_plan w.classes) plan =
    c.of.ensures ∙ c.in-Ok.ensures
    ∙ ap (λ (w : World). map (row_of_plan w.classes) c.as_slice.result.now) c.world.view_is
    ∙ ap (map (row_of_plan w.classes)) c.as_slice.ensures.value
    in
    record {
      accepted = c.in_ok-plan.ensures.plan.0;
      rows = subst (λ (rows : List (ℕ × Link)). ArePrepared w sites rows) (sym rows) (plan_prepared w sites plan c.in_ok-plan.ensures.plan.1);
      serial = refl;
    }

pub returns : goal.returns
returns g c = inr (refl, c.in_ok-plan.ensures.plan.0)
