-- Links that are brought up to date only at the sites that events have touched. A means of proof.
use Rattle.std.specs.Prelude.{◌≡◌, ◌==◌, ◌||◌, ◌<◌, ◌≤◌, ◌^◌, ℕ, Bool, false, List, drop, length, get_or, Option, None}
use Rattle.std.specs.List.{list_any}
use Rattle.jl_types.specs.declared.link.Link.{Link}
use Rattle.jl_types.specs.Events.Event.{Event}
use Rattle.jl_types.specs.declared.event.EventOf.TheVariants as event
use Rattle.jl_types.specs.declared.event.Reply.{Reply}
use Rattle.jl_types.specs.Events.History.{installs, installed}
use Rattle.jl_events.specs.Accepted.{Accepted}
use Rattle.jl_core.specs.State.{State, events}
use Rattle.jl_core.specs.ForProofs.Touched.{has}
use Rattle.jl_core.specs.Logs.{Entry}
use Rattle.jl_host.specs.Seats.{room_for}

-- the event installs the site, or drops it
abbrev pub touches : ℕ → Event × Reply → Bool
touches s entry = installs s entry.0 || has s entry.1.dropped

-- the event that a log keeps installs the site
abbrev pub installs_at : ℕ → Accepted → Bool
installs_at s (event.Install rows) = list_any (λ row. row.0 == s) rows
installs_at s _ = false

abbrev pub touched_by : ℕ → Entry → Bool
touched_by s entry = installs_at s entry.event || has s entry.reply.dropped

abbrev pub slot : List (Option Link) → ℕ → Option Link
slot links s = get_or links s None

-- the site has its installed link
abbrev pub IsNow : State → List (Option Link) → ℕ → Type 0
IsNow core links s = slot links s ≡ installed (events core) s

-- the links are those of the core, but for the sites that its events from the n-th on touched; all its sites have numbers of 32 bits
pub record IsBehind (links : List (Option Link)) (n : ℕ) (core : State) : Type 0 where
  pub few : core.limits.sites < 2 ^ 32
  pub all : length links ≡ room_for core.limits.sites
  pub reached : n ≤ length core.log
  pub same : (s : ℕ) → s < room_for core.limits.sites → list_any (touches s) (drop n core.log) ≡ false → IsNow core links s
