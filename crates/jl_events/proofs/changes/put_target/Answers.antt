use Rattle.std.specs.Prelude.{◌≡◌, true, false, length, option_map}
use Rattle.std.proofs.Common.{rules, refl, sym, subst}
use Rattle.jl_types.specs.Values.Target.{Target}
use Rattle.jl_types.specs.Values.World.{World, unreleased, is_missing}
use Rattle.jl_types.specs.Events.Verdict.{set_target_fault}
use Rattle.jl_types.specs.declared.event.Made.TheVariants as made
use Rattle.jl_types.specs.declared.refusal.Refusal.TheVariants.{CallSite}
use Rattle.jl_callsites.specs.Known.{is_known}
use Rattle.jl_select.specs.Constancy.{IsConstant}
use Rattle.jl_select.proofs.Constancy.{constant_itself}
use Rattle.jl_events.proofs.ChangeLaws.{target_there, target_points, made_so}
use Rattle.jl_events.proofs.changes.put_target.Goals as goal

pub put_target-requires-clause-there : goal.put_target-requires-clause-there
put_target-requires-clause-there c =
    subst (λ (w : World). is_missing w.sites.call_sites c.args.site ≡ false) (sym c.world.view_is)
    (target_there c.args.world.now c.args.site c.args.target.now c.requires)

pub put_target-requires-clause-known : goal.put_target-requires-clause-known
put_target-requires-clause-known c =
    subst (λ (w : World). is_known (length w.sites.switches) c.args.site c.in_ok-target.target ≡ true) (sym c.world.view_is)
    (subst (λ (t : Target). is_known (length c.args.world.now.sites.switches) c.args.site t ≡ true) (sym c.in_ok-target.ensures)
    (target_points c.args.world.now c.args.site c.args.target.now c.requires))

pub returns : goal.returns
returns c = record {
  made_is = λ m.
      made_so
      (option_map CallSite (set_target_fault c.args.world.now c.args.site (unreleased c.args.world.now.sites.call_sites c.args.site) c.args.target.now))
      made.Nothing made.Nothing refl;
  step = search rules;
  constant = subst (λ (w : World). IsConstant w.classes c.world.inside.classes) c.world.view_is (constant_itself c.world.inside.classes);
}
