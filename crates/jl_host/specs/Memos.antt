-- What a memo remembers, and what its calls leave.
use Rattle.std.specs.Prelude.{◌≡◌, ◌⊎◌, ℕ, List, get_or, replicate, Option, Some, None}
use Rattle.jl_types.specs.Linkage.Calls.{dispatch}
use Rattle.jl_types.specs.Events.History.{installed}
use Rattle.jl_core.specs.State.{events, world_of}
use Rattle.jl_memo.specs.declared.set.Set.{Set}
use Rattle.jl_memo.specs.Memos.{no_rows}
use Rattle.jl_memo.specs.Answers.{answer_with, recalled, told}
use Rattle.jl_host.specs.declared.shown.CallAnswer.{CallAnswer}
use Rattle.jl_host.specs.Numbers.{done, memory, closed, open_already}
use Rattle.jl_host.specs.Showing.{recv_of, answer_shown, fast_shown}
use Rattle.jl_host.specs.Linkers.{Opened}
use Rattle.jl_host.specs.Seats.{SeatView}

-- open already; or open, with nothing remembered; or want of memory
abbrev pub IsMemoOpen : ℕ → Option (List Set) → ℕ → Option (List Set) → Type 0
IsMemoOpen sets (Some old) status new = (status ≡ open_already) × (new ≡ Some old)
IsMemoOpen sets None status new = ((status ≡ done) × (new ≡ Some (replicate sets no_rows))) ⊎ ((status ≡ memory) × (new ≡ None))

-- The memo or the linker isn't open, and nothing was written. Or the answer now was written, and is remembered at a megamorphic link. The
-- linker stays.
abbrev pub IsMemoAsk : ℕ → ℕ → Option (List Set) → Option Opened → CallAnswer → ℕ → CallAnswer → Option (List Set) → Option Opened → Type 0
IsMemoAsk site receiver None linker before status after has new = (status ≡ closed) × (after ≡ before) × (has ≡ None) × (new ≡ linker)
IsMemoAsk site receiver (Some sets) None before status after has new = (status ≡ closed) × (after ≡ before) × (has ≡ Some sets) × (new ≡ None)
IsMemoAsk site receiver (Some sets) (Some old) before status after has new =
    (status ≡ done)
    × (after ≡ answer_shown (dispatch (world_of old.session.core) site (recv_of receiver)))
    × (has ≡ Some (told sets (installed (events old.session.core) site) site (recv_of receiver)
    (dispatch (world_of old.session.core) site (recv_of receiver))))
    × (new ≡ Some old)

-- The memo isn't open, and nothing was written; or what it remembers was written.
abbrev pub IsMemoCall : ℕ → ℕ → Option (List Set) → CallAnswer → ℕ → CallAnswer → Option (List Set) → Type 0
IsMemoCall site receiver None before status after has = (status ≡ closed) × (after ≡ before) × (has ≡ None)
IsMemoCall site receiver (Some sets) before status after has =
    (status ≡ done) × (after ≡ fast_shown (recalled sets site (recv_of receiver))) × (has ≡ Some sets)

-- The seat was never refreshed, or the memo isn't open, and nothing was written. Or the answer at once was written: that of what was seen
-- then, and at a megamorphic link that of what is remembered.
abbrev pub IsSeatCallWith : ℕ → ℕ → Option SeatView → Option (List Set) → CallAnswer → ℕ → CallAnswer → Option SeatView → Option (List Set) → Type 0
IsSeatCallWith site receiver None memo before status after new has = (status ≡ closed) × (after ≡ before) × (new ≡ None) × (has ≡ memo)
IsSeatCallWith site receiver (Some seen) None before status after new has = (status ≡ closed) × (after ≡ before) × (new ≡ Some seen) × (has ≡ None)
IsSeatCallWith site receiver (Some seen) (Some sets) before status after new has =
    (status ≡ done)
    × (after ≡ fast_shown (answer_with sets (get_or seen.links site None) seen.classes site (recv_of receiver)))
    × (new ≡ Some seen)
    × (has ≡ Some sets)
