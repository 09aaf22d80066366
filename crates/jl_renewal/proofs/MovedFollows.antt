-- One event of the old core in the fresh one.
use Rattle.std.specs.Prelude.{◌≡◌, IsOk}
use Rattle.jl_types.specs.declared.limits.Limits.{Limits}
use Rattle.jl_types.specs.Values.World.{World}
use Rattle.jl_types.specs.Events.Event.{Event}
use Rattle.jl_types.specs.Events.Verdict.{verdict, step}
use Rattle.jl_renewal.specs.Moved.{Flags, moved_world}

-- The fresh core accepts f, which is the event e under the new numbers, and its world is then that of the old one after e.
pub record Follows (limits : Limits) (k : Flags) (w : World) (e f : Event) : Type 0 where
  pub accepted : IsOk (verdict limits (moved_world k w) f)
  pub after : step (moved_world k w) f ≡ moved_world k (step w e)
