-- What a view has, what its calls leave, and what an install of given links leaves.
use Rattle.std.specs.Prelude.{◌≡◌, ◌⊎◌, ℕ, nat_lt, List, ◌++◌, map, drop, length, Option, Some, None, MatchBool, MatchOption, Result, Ok, Err}
use Rattle.std.specs.List.{zip}
use Rattle.jl_types.specs.declared.event.EventOf.TheVariants as event
use Rattle.jl_types.specs.declared.event.Reply.{Reply}
use Rattle.jl_types.specs.declared.link.Link.{Link}
use Rattle.jl_types.specs.declared.refusal.PrepareFault.{PrepareFault}
use Rattle.jl_types.specs.declared.refusal.Refusal.{Refusal}
use Rattle.jl_types.specs.declared.refusal.Refusal.TheVariants.{Stale}
use Rattle.jl_types.specs.Linkage.Calls.{dispatch}
use Rattle.jl_relink.specs.declared.preparation.Prepared.{Prepared}
use Rattle.jl_relink.specs.Preparations.{Snapshot, IsPreparation}
use Rattle.jl_session.specs.Sessions.{snapshot_of}
use Rattle.jl_host.specs.declared.told.Told.{Told}
use Rattle.jl_host.specs.declared.shown.CallAnswer.{CallAnswer}
use Rattle.jl_host.specs.declared.shown.LinkShown.{LinkShown}
use Rattle.jl_host.specs.declared.reading.LinkRow.{LinkRow}
use Rattle.jl_host.specs.Numbers.{done, memory, malformed, closed, too_short, status_of_unprepared}
use Rattle.jl_host.specs.Telling.{nothing, told_of_unprepared}
use Rattle.jl_host.specs.Showing.{recv_of, answer_shown, shown}
use Rattle.jl_host.specs.Reading.{rows_of}
use Rattle.jl_host.specs.Linkers.{Opened, IsAsked, IsUnasked}

-- ---- views

-- The linker isn't open; or the view has its world as it is now, with the count of its events, or what it had before if there was no
-- memory. The linker stays.
abbrev pub IsViewTake : Option Snapshot → Option Opened → ℕ → Option Snapshot → Option Opened → Type 0
IsViewTake had None status has new = (status ≡ closed) × (has ≡ had) × (new ≡ None)
IsViewTake had (Some old) status has new =
    (new ≡ Some old) × (((status ≡ done) × (has ≡ Some (snapshot_of old.session))) ⊎ ((status ≡ memory) × (has ≡ had)))

-- The view was never taken, and nothing was written; or this is of what was seen then.
abbrev pub IsSeen : {A : Type 0} → (Snapshot → A) → Option Snapshot → A → ℕ → A → Option Snapshot → Type 0
IsSeen value None before status after new = (status ≡ closed) × (after ≡ before) × (new ≡ None)
IsSeen value (Some seen) before status after new = (status ≡ done) × (after ≡ value seen) × (new ≡ Some seen)

-- the answer of the call in the world that was seen
abbrev pub IsViewCall : ℕ → ℕ → Option Snapshot → CallAnswer → ℕ → CallAnswer → Option Snapshot → Type 0
IsViewCall site receiver = IsSeen (λ seen. answer_shown (dispatch seen.world site (recv_of receiver)))

-- how many events had been accepted
abbrev pub IsViewSerial : Option Snapshot → ℕ → ℕ → ℕ → Option Snapshot → Type 0
IsViewSerial = IsSeen (λ seen. seen.serial)

-- ---- preparations

-- the links at the front of the array
abbrev pub links_in : List (ℕ × Link) → List LinkShown → List LinkShown
links_in rows before = map (λ row. shown row.1) rows ++ drop (length rows) before

-- by the outcome of the preparation: its links, in the order of the sites, or why there is none
abbrev pub IsPrepareOf : Result Prepared PrepareFault → List LinkShown → ℕ → List LinkShown → Told → Type 0
IsPrepareOf (Ok prepared) before status after told = (status ≡ done) × (after ≡ links_in prepared.rows before) × (told ≡ nothing)
IsPrepareOf (Err f) before status after told = (status ≡ status_of_unprepared f) × (after ≡ before) × (told ≡ told_of_unprepared f)

-- nothing is looked up, for this reason
abbrev pub IsUnprepared : ℕ → List LinkShown → ℕ → List LinkShown → Told → Type 0
IsUnprepared reason before status after told = (status ≡ reason) × (after ≡ before) × (told ≡ nothing)

-- the sites are prepared in what was seen; or there was no memory for their list
abbrev pub IsPreparedIn : Snapshot → List ℕ → List LinkShown → ℕ → List LinkShown → Told → Type 0
IsPreparedIn seen sites before status after told =
    ((outcome : Result Prepared PrepareFault) × IsPreparation seen sites outcome × IsPrepareOf outcome before status after told)
    ⊎ IsUnprepared memory before status after told

-- The view was never taken; or the links have room for fewer sites; or the sites are prepared. The view stays.
abbrev pub IsViewPrepare : List ℕ → Option Snapshot → List LinkShown → ℕ → List LinkShown → Told → Option Snapshot → Type 0
IsViewPrepare sites None before status after told new = IsUnprepared closed before status after told × (new ≡ None)
IsViewPrepare sites (Some seen) before status after told new =
    MatchBool (nat_lt (length before) (length sites)) (IsUnprepared too_short before status after told)
    (IsPreparedIn seen sites before status after told)
    × (new ≡ Some seen)

-- ---- an install of links that are given

-- these sites, each with the link at its place
abbrev pub given : List ℕ → List LinkShown → List LinkRow
given sites links = map (λ both. record { site = both.0; link = both.1 }) (zip sites links)

-- if a link is stale: the site's present one
abbrev pub present_of : Result Reply Refusal → LinkShown → LinkShown
present_of (Err (Stale s link)) before = shown link
present_of _ before = before

-- the core takes the links or refuses them, and the present link is told of a site whose given link is stale
abbrev pub IsGiven : List (ℕ × Link) → Opened → LinkShown → ℕ → Told → LinkShown → Opened → Type 0
IsGiven links old before status told after new =
    (asked : IsAsked (event.Install links) old status told new) × (after ≡ present_of asked.outcome before)

-- no event was asked for, for this reason
abbrev pub IsNotGiven : ℕ → Opened → LinkShown → ℕ → Told → LinkShown → Opened → Type 0
IsNotGiven reason old before status told after new = IsUnasked reason old status told new × (after ≡ before)

-- the rows are links, and these are installed, or one is none; or there was no memory for their list
abbrev pub IsInstalledLinks : List LinkRow → Opened → LinkShown → ℕ → Told → LinkShown → Opened → Type 0
IsInstalledLinks rows old before status told after new =
    MatchOption (rows_of rows) (IsNotGiven malformed old before status told after new)
    (λ links. IsGiven links old before status told after new)
    ⊎ IsNotGiven memory old before status told after new

abbrev pub IsInstallLinks : List LinkRow → Option Opened → LinkShown → ℕ → Told → LinkShown → Option Opened → Type 0
IsInstallLinks rows None before status told after new = (status ≡ closed) × (told ≡ nothing) × (after ≡ before) × (new ≡ None)
IsInstallLinks rows (Some old) before status told after new =
    (next : Opened) × (new ≡ Some next) × IsInstalledLinks rows old before status told after next
