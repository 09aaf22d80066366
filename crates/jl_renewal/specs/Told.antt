-- What an empty core is told of an old one, whose world and entries these are, whether or not they are one past.
use Rattle.std.specs.Prelude.{◌≡◌, ◌⊎◌, List, ◌++◌, filter_map, Option, option_and_then}
use Rattle.jl_types.specs.declared.limits.Limits.{Limits}
use Rattle.jl_types.specs.declared.refusal.Refusal.{Refusal}
use Rattle.jl_types.specs.Values.World.{World}
use Rattle.jl_types.specs.Events.Event.{Event}
use Rattle.jl_events.specs.Accepted.{Accepted, event_of}
use Rattle.jl_core.specs.Logs.{Entry}
use Rattle.jl_core.specs.State.{State}
use Rattle.jl_renewal.specs.declared.released.Released.{Released}
use Rattle.jl_renewal.specs.Numbers.{Numbers}
use Rattle.jl_renewal.specs.Staying.{numbers_of}
use Rattle.jl_renewal.specs.Renewal.{class_event, new_loaders, site_events, IsRefusedRenewal}
use Rattle.jl_renewal.specs.Adds.{Adds, IsStoppedAt}

-- the event that the entry's event tells, if its class is there
abbrev pub accepted_event : World → Numbers → Accepted → Option Event
accepted_event w n accepted = option_and_then (class_event w n) (event_of w.classes.rows accepted)

abbrev pub told_events : World → Numbers → List Entry → List Event
told_events w n entries = filter_map (λ entry. accepted_event w n entry.event) entries

-- all of it, but for the links
abbrev pub told_renewal : World → Numbers → List Entry → List Event
told_renewal w n entries = new_loaders n.loaders ++ (told_events w n entries ++ site_events w n)

-- the numbers are those of what stays, and the core has accepted these events, and no others
pub record IsFilledFrom (w : World) (entries : List Entry) (released : Released) (n : Numbers) (before after : State) : Type 0 where
  pub numbers : n ≡ numbers_of w released
  pub adds : Adds (told_renewal w n entries) before after

-- What a refusal leaves. Either what stays is not numbered, and the core is as before. Or it has accepted some first of these events, and
-- no others.
abbrev pub IsPartlyFilled : World → List Entry → Released → Limits → State → State → Refusal → Type 0
IsPartlyFilled w entries released limits before after r =
    (IsRefusedRenewal limits w released r × (after ≡ before)) ⊎ IsStoppedAt (told_renewal w (numbers_of w released) entries) before after r
