use Rattle.std.specs.Prelude.{ℕ, List}
use Rattle.std.proofs.Common.{refl, subst}
use Rattle.jl_types.specs.declared.event.EventOf.TheVariants as event
use Rattle.jl_types.specs.declared.event.Made.TheVariants as made
use Rattle.jl_events.specs.Changes.{IsMoved}
use Rattle.jl_events.proofs.step.release.Goals as goal

pub returns : goal.returns
returns c = record {
  moved = subst (λ (call_sites : List ℕ). IsMoved c.args.world.now c.put_released.new.world (event.Release call_sites c.args.points) made.Nothing)
      c.as_slice.ensures
      (subst (λ (points : List ℕ). IsMoved c.args.world.now c.put_released.new.world (event.Release c.as_slice.result.now points) made.Nothing)
      c.as_slice-2.ensures c.put_released.ensures);
  tells = refl;
  class_is = refl;
}
