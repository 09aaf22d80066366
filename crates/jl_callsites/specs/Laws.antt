-- What the events of call sites and switch points do at any world.
use Rattle.std.specs.Prelude.{◌≡◌, ℕ, List, Option, option_map}
use Rattle.jl_types.specs.declared.limits.Limits.{Limits}
use Rattle.jl_types.specs.Events.Event.{Event}
use Rattle.jl_types.specs.declared.event.EventOf.TheVariants as event
use Rattle.jl_types.specs.declared.event.Made.{Made}
use Rattle.jl_types.specs.declared.event.Made.TheVariants as made
use Rattle.jl_types.specs.declared.refusal.CallSiteFault.{CallSiteFault}
use Rattle.jl_types.specs.declared.refusal.Refusal.TheVariants.{CallSite, Release}
use Rattle.jl_types.specs.Values.World.{World, Sites}
use Rattle.jl_types.specs.Events.Release.{release_fault, released_from}
use Rattle.jl_types.specs.Events.Verdict.{unless}
use Rattle.jl_types.specs.Events.Verdict as events

-- If there is this fault, the event is refused with it. Else it makes this. Afterwards these are the call sites and switch points, and all
-- else stays.
pub record ComesTo (limits : Limits) (w : World) (e : Event) (f : Option CallSiteFault) (m : Made) (after : Sites) : Type 0 where
  pub verdict : events.verdict limits w e ≡ unless (option_map CallSite f) m
  pub step : events.step w e ≡ record w { sites = after }

-- If there is a fault of a release of these, it is refused with it. Else it makes nothing. Afterwards they are gone, and all else stays.
pub record Releases (limits : Limits) (w : World) (call_sites points : List ℕ) : Type 0 where
  pub verdict : events.verdict limits w (event.Release call_sites points)
      ≡ unless (option_map Release (release_fault w.sites call_sites points)) made.Nothing
  pub step : events.step w (event.Release call_sites points) ≡ record w { sites = released_from w.sites call_sites points }
