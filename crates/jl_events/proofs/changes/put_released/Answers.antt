use Rattle.std.specs.Prelude.{◌≡◌, false, option_map}
use Rattle.std.specs.List.{list_any}
use Rattle.std.proofs.Common.{rules, refl, sym, subst}
use Rattle.jl_types.specs.Values.World.{World, is_missing}
use Rattle.jl_types.specs.Events.Release.{release_fault}
use Rattle.jl_types.specs.declared.event.Made.TheVariants as made
use Rattle.jl_types.specs.declared.refusal.Refusal.TheVariants.{Release}
use Rattle.jl_select.specs.Constancy.{IsConstant}
use Rattle.jl_select.proofs.Constancy.{constant_itself}
use Rattle.jl_events.proofs.ChangeLaws.{released_there, released_points, made_so}
use Rattle.jl_events.proofs.changes.put_released.Goals as goal

pub put_released-requires-clause-call_sites : goal.put_released-requires-clause-call_sites
put_released-requires-clause-call_sites c =
    subst (λ (w : World). list_any (is_missing w.sites.call_sites) c.args.call_sites.now ≡ false) (sym c.world.view_is)
    (released_there c.args.world.now c.args.call_sites.now c.args.points.now c.requires)

pub put_released-requires-clause-points : goal.put_released-requires-clause-points
put_released-requires-clause-points c =
    subst (λ (w : World). list_any (is_missing w.sites.switches) c.args.points.now ≡ false) (sym c.world.view_is)
    (released_points c.args.world.now c.args.call_sites.now c.args.points.now c.requires)

pub returns : goal.returns
returns c = record {
  made_is = λ m.
      made_so (option_map Release (release_fault c.args.world.now.sites c.args.call_sites.now c.args.points.now)) made.Nothing made.Nothing refl;
  step = search rules;
  constant = subst (λ (w : World). IsConstant w.classes c.world.inside.classes) c.world.view_is (constant_itself c.world.inside.classes);
}
