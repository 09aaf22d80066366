use Rattle.std.proofs.Common.{◌≡◌, sym, ap, subst, ◌∙◌}
use Rattle.std.specs.Prelude.{Ok}
use Rattle.jl_types.specs.Values.World.{World}
use Rattle.jl_types.specs.Linkage.Stages.{stage}
use Rattle.jl_relink.specs.ForProofs.Wide.{depends, depends_on, link_of_plan, IsThere}
use Rattle.jl_relink.proofs.WideLaws.{depends_link}
use Rattle.jl_relink.proofs.outline.planned_at.Goals as goal

pub returns : goal.returns
returns c =
    let w = c.args.world.now in
    let selection = c.in_ok-selection.selection in
    let kept = c.in_ok-selection.ensures in
    let planned = c.planned_of.result in (
      depends_link w.classes (stage w c.args.site) selection kept
          (ap (λ (w : World). depends w.classes selection) (sym c.world.view_is) ∙ sym c.depends.ensures ∙ c.if-not-depends.false)
          ∙ ap Ok
          (subst (λ (w : World). link_of_plan w.classes (depends_on selection) ≡ link_of_plan w.classes planned) c.world.view_is
          (sym c.planned_of.ensures.link)),
      subst (λ (w : World). IsThere w.classes planned) c.world.view_is c.planned_of.ensures.there,
    )
