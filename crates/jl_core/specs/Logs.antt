-- What the entries of a log tell.
use Rattle.std.specs.Prelude.{◌≡◌, ℕ, suc, take, slice_get, Bool, true, false, List, [], ◌∷◌, ◌++◌, filter_map, Option, Some, option_map, is_some}
use Rattle.std.specs.List.{list_all}
use Rattle.jl_types.specs.Events.Event.{Event}
use Rattle.jl_types.specs.declared.event.EventOf.TheVariants as event
use Rattle.jl_types.specs.declared.event.Reply.{Reply}
use Rattle.jl_types.specs.Values.World.{Class}
use Rattle.jl_types.specs.Events.History.{world_after}
use Rattle.jl_events.specs.Accepted.{Accepted, event_of}
use Rattle.jl_core.specs.State.{State, events}

-- an accepted event, a definition by the class that it made, and what it was answered
pub record Entry : Type 0 where
  pub event : Accepted
  pub reply : Reply

-- a definition or a delegation, by which a loader records a class
abbrev pub tells_classes : Accepted → Bool
tells_classes (event.Define loader c) = true
tells_classes (event.Delegate loader name to) = true
tells_classes _ = false

-- when a log forgets what is past, it keeps these: no world tells in which order they came
abbrev pub is_kept : Entry → Bool
is_kept entry = tells_classes entry.event

abbrev pub told : List Class → Entry → Option (Event × Reply)
told rows entry = option_map (λ e. (e, entry.reply)) (event_of rows entry.event)

-- each entry tells an event
abbrev pub are_told : List Class → List Entry → Bool
are_told rows entries = list_all (λ entry. is_some (told rows entry)) entries

-- the entries' events, each with its reply
abbrev pub shown : List Class → List Entry → List (Event × Reply)
shown rows entries = filter_map (told rows) entries

-- each entry tells an event of the core, with its reply, by the classes that there were once the event was accepted
abbrev pub AreToldThen : State → List Entry → Type 0
AreToldThen core entries = (n : ℕ) (entry : Entry) → slice_get entries n ≡ Some entry
    → told (world_after (take (suc n) (events core))).classes.rows entry ≡ slice_get core.log n

-- the log has one entry more, which tells the event and its reply
pub record IsLogged (rows : List Class) (e : Event) (reply : Reply) (old new : List Entry) : Type 0 where
  pub accepted : Accepted
  pub is : event_of rows accepted ≡ Some e
  pub last : new ≡ old ++ record { event = accepted; reply = reply } ∷ []
