-- What a seat has, and what its calls leave.
use Rattle.std.specs.Prelude.{◌≡◌, ◌⊎◌, ◌+◌, ◌*◌, ◌/◌, ℕ, List, map, length, get_or, Option, Some, None}
use Rattle.std.specs.List.{range_with_len}
use Rattle.jl_types.specs.declared.link.Link.{Link}
use Rattle.jl_types.specs.Events.Fast.{fast_answer}
use Rattle.jl_types.specs.Events.History.{installed}
use Rattle.jl_core.specs.State.{State, events, world_of}
use Rattle.jl_host.specs.declared.shown.CallAnswer.{CallAnswer}
use Rattle.jl_host.specs.Numbers.{done, memory, closed}
use Rattle.jl_host.specs.Showing.{recv_of, otherwise, fast_shown, HasBits}
use Rattle.jl_host.specs.Linkers.{Opened}

-- so many places as whole pages of 256 have, one for each site that may be requested
abbrev pub room_for : ℕ → ℕ
room_for max_sites = 256 * ((max_sites + 255) / 256)

-- the installed link at each place, or none, and how many classes there were
pub record SeatView : Type 0 where
  pub links : List (Option Link)
  pub classes : ℕ

abbrev pub seen_of : State → SeatView
seen_of core = record {
  links = map (installed (events core)) (range_with_len 0 (room_for core.limits.sites));
  classes = length (world_of core).classes.rows;
}

-- The linker isn't open; or the seat has its links as they are now, or what it had before if there was no memory. The linker stays.
abbrev pub IsRefresh : Option SeatView → Option Opened → ℕ → Option SeatView → Option Opened → Type 0
IsRefresh had None status has new = (status ≡ closed) × (has ≡ had) × (new ≡ None)
IsRefresh had (Some old) status has new =
    (new ≡ Some old) × (((status ≡ done) × (has ≡ Some (seen_of old.session.core))) ⊎ ((status ≡ memory) × (has ≡ had)))

-- The seat was never refreshed, and nothing was written; or the answer at once of what was seen then was written.
abbrev pub IsSeatCall : ℕ → ℕ → Option SeatView → CallAnswer → ℕ → CallAnswer → Option SeatView → Type 0
IsSeatCall site receiver None before status after new = (status ≡ closed) × (after ≡ before) × (new ≡ None)
IsSeatCall site receiver (Some seen) before status after new =
    (status ≡ done) × (after ≡ fast_shown (fast_answer (get_or seen.links site None) seen.classes (recv_of receiver)))
    × (new ≡ Some seen)

-- The seat was never refreshed, and that is a miss; or the answer at once of what was seen then.
abbrev pub IsSeatAnswer : ℕ → ℕ → Option SeatView → ℕ → Option SeatView → Type 0
IsSeatAnswer site receiver None bits new = HasBits (otherwise 4 0) bits × (new ≡ None)
IsSeatAnswer site receiver (Some seen) bits new =
    HasBits (fast_shown (fast_answer (get_or seen.links site None) seen.classes (recv_of receiver))) bits × (new ≡ Some seen)
