-- What one accepted event does to the world.
use Rattle.std.specs.Prelude.{◌≡◌, ℕ, length, Option, Some, None, Ok, IsOk}
use Rattle.jl_types.specs.declared.limits.Limits.{Limits}
use Rattle.jl_types.specs.Events.Event.{Event}
use Rattle.jl_types.specs.Events.Limits.{AreAllowed}
use Rattle.jl_types.specs.declared.event.EventOf.TheVariants as variant
use Rattle.jl_types.specs.declared.event.Made.{Made}
use Rattle.jl_types.specs.Values.World.{World}
use Rattle.jl_types.specs.Events.Verdict as events
use Rattle.jl_types.specs.Events.Verdict.{verdict, step}
use Rattle.jl_select.specs.Constancy.{IsConstant}
use Rattle.jl_events.specs.Accepted.{Accepted, event_of}

-- the event is accepted, at some limits that a linker may have
pub record IsAcceptable (w : World) (e : Event) : Type 0 where
  pub limits : Limits
  pub allowed : AreAllowed limits
  pub accepted : IsOk (verdict limits w e)

-- the event leads from one world to another, and gives this a number, at all limits at which it is accepted
pub record IsMoved (old new : World) (e : Event) (made : Made) : Type 0 where
  pub made_is : (limits : Limits) → IsOk (verdict limits old e) → verdict limits old e ≡ Ok made
  pub step : new ≡ step old e
  pub constant : IsConstant old.classes new.classes

-- the class that an accepted event defined
abbrev pub class_of : Accepted → Option ℕ
class_of (variant.Define loader c) = Some c
class_of _ = None

-- the class that an event defines
abbrev pub defined_by : World → Event → Option ℕ
defined_by w (variant.Define loader file) = Some (length w.classes.rows)
defined_by w _ = None

-- the event leads from one world to another, gives this a number, and what is kept of it tells the event
pub record IsStepped (old new : World) (e : Event) (told : Accepted) (made : Made) : Type 0 where
  pub moved : IsMoved old new e made
  pub tells : event_of new.classes.rows told ≡ Some e
  pub class_is : class_of told ≡ defined_by old e

-- the accepted event leads from the one world to the other
pub record IsNext (old ahead : World) (told : Accepted) : Type 0 where
  pub event : Event
  pub tells : event_of ahead.classes.rows told ≡ Some event
  pub accepted : IsAcceptable old event
  pub step : ahead ≡ events.step old event
