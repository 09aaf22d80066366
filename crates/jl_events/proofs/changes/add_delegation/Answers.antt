use Rattle.std.specs.Prelude.{◌≡◌, List, ℕ, None, option_map}
use Rattle.std.proofs.Common.{rules, refl, sym, subst}
use Rattle.jl_types.specs.Values.World.{World}
use Rattle.jl_types.specs.Events.Definitions.{delegate_fault}
use Rattle.jl_types.specs.declared.event.Made.TheVariants as made
use Rattle.jl_types.specs.declared.refusal.Refusal.TheVariants.{Delegate}
use Rattle.jl_select.specs.Constancy.{IsConstant}
use Rattle.jl_events.proofs.ChangeLaws.{delegation_free, made_so}
use Rattle.jl_events.proofs.ConstantLaws.{constant_delegated}
use Rattle.jl_events.proofs.changes.add_delegation.Goals as goal

pub add_delegation-requires : goal.add_delegation-requires
add_delegation-requires c =
    subst (λ (w : World). delegate_fault w.classes c.args.loader c.as_slice.result.now c.args.to ≡ None) (sym c.world.view_is)
    (subst (λ (name : List ℕ). delegate_fault c.args.world.now.classes c.args.loader name c.args.to ≡ None) (sym c.as_slice.ensures)
    (delegation_free c.args.world.now c.args.loader c.args.name.now c.args.to c.requires))

pub returns : goal.returns
returns c = record {
  made_is = λ m. made_so (option_map Delegate (delegate_fault c.args.world.now.classes c.args.loader c.args.name.now c.args.to)) made.Nothing made.Nothing refl;
  step = search rules;
  constant = subst (λ (w : World). IsConstant w.classes c.add_delegation.new.self) c.world.view_is
      (constant_delegated c.world.inside.classes c.in_ok-add_delegation.ensures.in_order c.add_delegation.new.self c.in_ok-add_delegation.ensures.stays
      c.args.loader c.as_slice.result.now c.args.to
      (subst (λ (w : World). delegate_fault w.classes c.args.loader c.as_slice.result.now c.args.to ≡ None) (sym c.world.view_is)
      (subst (λ (name : List ℕ). delegate_fault c.args.world.now.classes c.args.loader name c.args.to ≡ None) (sym c.as_slice.ensures)
      (delegation_free c.args.world.now c.args.loader c.args.name.now c.args.to c.requires))) c.in_ok-add_delegation.ensures.ok);
}
