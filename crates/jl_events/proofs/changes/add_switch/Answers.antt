use Rattle.std.specs.Prelude.{◌≡◌, ◌<◌, ◌^◌, length, nat_le}
use Rattle.std.specs.Bool.{then_some}
use Rattle.std.proofs.Common.{rules, sym, ap, subst}
use Rattle.jl_types.specs.Values.World.{World}
use Rattle.jl_types.specs.declared.event.Made.TheVariants as made
use Rattle.jl_types.specs.declared.refusal.CallSiteFault.TheVariants.{Full}
use Rattle.jl_types.specs.declared.refusal.Refusal.TheVariants.{CallSite}
use Rattle.jl_select.specs.Constancy.{IsConstant}
use Rattle.jl_select.proofs.Constancy.{constant_itself}
use Rattle.jl_events.proofs.ChangeLaws.{switch_room, made_so}
use Rattle.jl_events.proofs.changes.add_switch.Goals as goal

pub add_switch-requires : goal.add_switch-requires
add_switch-requires c = subst (λ (w : World). length w.sites.switches < 2 ^ 20) (sym c.world.view_is) (switch_room c.args.world.now c.requires)

pub returns : goal.returns
returns c =
    let count : c.in_ok-point.point ≡ length c.args.world.now.sites.switches = search rules in
    record {
      made_is = λ m.
          made_so (then_some (nat_le m.switches (length c.args.world.now.sites.switches)) (CallSite Full))
          (made.Switch (length c.args.world.now.sites.switches)) (made.Switch c.in_ok-point.point) (ap (λ n. made.Switch n) count);
      step = search rules;
      constant = subst (λ (w : World). IsConstant w.classes c.world.inside.classes) c.world.view_is (constant_itself c.world.inside.classes);
    }
