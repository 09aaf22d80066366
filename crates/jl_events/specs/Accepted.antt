-- What is kept of an accepted event.
use Rattle.std.specs.Prelude.{ℕ, List, slice_get, Option, Some, option_map}
use Rattle.jl_types.specs.Events.Event.{Event}
use Rattle.jl_types.specs.declared.event.EventOf.{EventOf}
use Rattle.jl_types.specs.declared.event.EventOf.TheVariants as event
use Rattle.jl_types.specs.declared.link.Link.{Link}
use Rattle.jl_types.specs.Values.World.{Class}

-- the event, but a definition has the number of its class in place of the file
abbrev pub Accepted : Type 0
Accepted = EventOf ℕ (List (ℕ × Link))

-- the event that it tells: a definition's file is that of the class that it made
abbrev pub event_of : List Class → Accepted → Option Event
event_of rows event.NewLoader = Some event.NewLoader
event_of rows (event.Define loader c) = option_map (λ row. event.Define loader row.file) (slice_get rows c)
event_of rows (event.Delegate loader name to) = Some (event.Delegate loader name to)
event_of rows (event.Request place) = Some (event.Request place)
event_of rows (event.NewCallSite kind ty target) = Some (event.NewCallSite kind ty target)
event_of rows (event.SetTarget c target) = Some (event.SetTarget c target)
event_of rows event.NewSwitch = Some event.NewSwitch
event_of rows (event.Invalidate points) = Some (event.Invalidate points)
event_of rows (event.Bind s c) = Some (event.Bind s c)
event_of rows (event.Install links) = Some (event.Install links)
event_of rows (event.Retire loader) = Some (event.Retire loader)
event_of rows (event.RetireAll loaders) = Some (event.RetireAll loaders)
event_of rows (event.Release call_sites points) = Some (event.Release call_sites points)
