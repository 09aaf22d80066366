use Rattle.std.specs.Prelude.{◌≡◌, ◌<◌, ◌^◌, length, nat_le}
use Rattle.std.specs.Bool.{then_some}
use Rattle.std.proofs.Common.{rules, sym, ap, subst}
use Rattle.jl_types.specs.Values.World.{World}
use Rattle.jl_types.specs.declared.event.Made.TheVariants as made
use Rattle.jl_types.specs.declared.refusal.Refusal.TheVariants.{LoadersFull}
use Rattle.jl_select.specs.Constancy.{IsConstant}
use Rattle.jl_events.proofs.ChangeLaws.{loader_room, made_so}
use Rattle.jl_events.proofs.ConstantLaws.{constant_with_loader}
use Rattle.jl_events.proofs.changes.add_loader.Goals as goal

pub add_loader-requires : goal.add_loader-requires
add_loader-requires c = subst (λ (w : World). length w.classes.loaders < 2 ^ 20) (sym c.world.view_is) (loader_room c.args.world.now c.requires)

pub returns : goal.returns
returns c =
    let count : c.in_ok-loader.loader ≡ length c.args.world.now.classes.loaders = search rules in
    record {
      made_is = λ m.
          made_so (then_some (nat_le m.loaders (length c.args.world.now.classes.loaders)) LoadersFull) (made.Loader (length c.args.world.now.classes.loaders))
          (made.Loader c.in_ok-loader.loader) (ap (λ n. made.Loader n) count);
      step = search rules;
      constant = subst (λ (w : World). IsConstant w.classes c.add_loader.new.self) c.world.view_is
          (constant_with_loader c.world.inside.classes c.in_ok-loader.ensures.in_order c.add_loader.new.self c.in_ok-loader.ensures.stays
          c.in_ok-loader.ensures.ok);
    }
