use Rattle.std.specs.Prelude.{ℕ, not, List}
use Rattle.std.specs.List.{list_any}
use Rattle.std.proofs.Common.{sym, ap, subst, ◌∙◌}
use Rattle.jl_types.specs.Values.World.{World}
use Rattle.jl_types.specs.Events.Retirement.{MayRetire, has_target}
use Rattle.jl_callsites.specs.Targeted.{names_any}
use Rattle.jl_events.proofs.RetireLaws.{none_held}
use Rattle.jl_events.proofs.judge.may_all_go.Goals as goal

pub returns-then-spares : goal.returns-then-spares
returns-then-spares c = λ yes.
    none_held c.args.world.now c.args.loaders.now
    (subst (λ (w : World). MayRetire w.classes c.args.loaders.now) c.world.view_is
    (subst (MayRetire c.world.inside.classes) c.in-Ok.ensures (c.spares.ensures c.if-spares.true)))
    (ap (λ (w : World). not (list_any (has_target (names_any w.classes c.args.loaders.now)) w.sites.call_sites)) (sym c.world.view_is)
    ∙ ap (λ (ls : List ℕ). not (list_any (has_target (names_any c.world.inside.classes ls)) c.world.inside.sites.call_sites)) (sym c.in-Ok.ensures)
    ∙ sym c.spares-then-spares.ensures
    ∙ yes)
