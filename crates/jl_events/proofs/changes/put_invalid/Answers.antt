use Rattle.std.specs.Prelude.{◌≡◌, false, nat_le, length, option_map}
use Rattle.std.specs.List.{list_any}
use Rattle.std.proofs.Common.{rules, refl, sym, subst}
use Rattle.jl_types.specs.Values.World.{World}
use Rattle.jl_types.specs.Events.Verdict.{invalidate_fault}
use Rattle.jl_types.specs.declared.event.Made.TheVariants as made
use Rattle.jl_types.specs.declared.refusal.Refusal.TheVariants.{CallSite}
use Rattle.jl_select.specs.Constancy.{IsConstant}
use Rattle.jl_select.proofs.Constancy.{constant_itself}
use Rattle.jl_events.proofs.ChangeLaws.{points_there, made_so}
use Rattle.jl_events.proofs.changes.put_invalid.Goals as goal

pub put_invalid-requires : goal.put_invalid-requires
put_invalid-requires c =
    subst (λ (w : World). list_any (nat_le (length w.sites.switches)) c.args.points.now ≡ false) (sym c.world.view_is)
    (points_there c.args.world.now c.args.points.now c.requires)

pub returns : goal.returns
returns c = record {
  made_is = λ m. made_so (option_map CallSite (invalidate_fault c.args.world.now c.args.points.now)) made.Nothing made.Nothing refl;
  step = search rules;
  constant = subst (λ (w : World). IsConstant w.classes c.world.inside.classes) c.world.view_is (constant_itself c.world.inside.classes);
}
