use Rattle.std.specs.Prelude.{ℕ, List}
use Rattle.std.proofs.Common.{refl, subst}
use Rattle.jl_types.specs.declared.event.EventOf.TheVariants as event
use Rattle.jl_types.specs.declared.event.Made.TheVariants as made
use Rattle.jl_events.specs.Changes.{IsMoved}
use Rattle.jl_events.proofs.step.invalidate.Goals as goal

pub returns : goal.returns
returns c = record {
  moved = subst (λ (points : List ℕ). IsMoved c.args.world.now c.put_invalid.new.world (event.Invalidate points) made.Nothing) c.as_slice.ensures
      c.put_invalid.ensures;
  tells = refl;
  class_is = refl;
}
