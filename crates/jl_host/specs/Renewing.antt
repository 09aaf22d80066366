-- A renewal in steps, beside a linker that goes on: what it has, and what each of its calls leaves.
use Rattle.std.specs.Prelude.{◌≡◌, ◌⊎◌, ◌+◌, ◌-◌, ◌^◌, ◌==◌, ◌<◌, ◌≤◌, ℕ, true, slice_get, List, [], ◌∷◌, ◌++◌, filter_map, take, drop, length}
use Rattle.std.specs.Prelude.{Option, Some, None, option_map, option_and_then, MatchBool, MatchOption}
use Rattle.std.specs.Option.{unwrap_or, option_map_or, option_or}
use Rattle.std.specs.List.{range_with_len}
use Rattle.jl_types.specs.declared.limits.Limits.{Limits}
use Rattle.jl_types.specs.declared.event.EventOf.TheVariants as event
use Rattle.jl_types.specs.declared.event.Reply.{Reply}
use Rattle.jl_types.specs.declared.link.Link.{Link}
use Rattle.jl_types.specs.declared.refusal.Refusal.{Refusal}
use Rattle.jl_types.specs.declared.refusal.Refusal.TheVariants.{Memory}
use Rattle.jl_types.specs.Values.Target.{Target, Method, Guard, Invoker}
use Rattle.jl_types.specs.Values.World.{World, Classes, nothing_yet}
use Rattle.jl_types.specs.Events.Limits.{AreAllowed}
use Rattle.jl_types.specs.Events.Verdict.{verdict}
use Rattle.jl_events.specs.Accepted.{Accepted}
use Rattle.jl_relink.specs.Preparations.{Snapshot}
use Rattle.jl_core.specs.State.{State, empty_core, world_of, IsAccepted, IsRefused}
use Rattle.jl_core.specs.Logs.{Entry, shown, are_told, AreToldThen}
use Rattle.jl_session.specs.Sessions.{snapshot_of}
use Rattle.jl_renewal.specs.declared.released.Released.{Released}
use Rattle.jl_renewal.specs.declared.entries.CarryFault.{CarryFault}
use Rattle.jl_renewal.specs.declared.entries.CarryFault.TheVariants.{Gone, Refused}
use Rattle.jl_renewal.specs.Numbers.{Numbers, new_number}
use Rattle.jl_renewal.specs.Renewal.{fresh_rows}
use Rattle.jl_renewal.specs.Told.{IsFilledFrom, IsPartlyFilled}
use Rattle.jl_renewal.specs.Adds.{Installs, StopsAt}
use Rattle.jl_renewal.specs.Carries.{IsAdded, IsUncarried, AreLeft}
use Rattle.jl_host.specs.declared.told.Told.{Told}
use Rattle.jl_host.specs.Numbers.{done, memory, malformed, closed, open_already, too_short, released, status_of_refusal}
use Rattle.jl_host.specs.Telling.{nothing, told_of_refusal, told_of_released}
use Rattle.jl_host.specs.Linkers.{Opened, opened_over}
use Rattle.jl_host.specs.Seats.{seen_of}
use Rattle.jl_host.specs.Renewals.{Arrays, have_room, counts_of, counts_in, with_numbers, may_be, limits_for}

-- ---- what a renewal has

-- what there was at the begin
pub record Start : Type 0 where
  pub seen : Snapshot  -- what there was to link, and how many events there were
  pub past : List Entry  -- their entries
  pub sites : ℕ  -- how many sites were requested
  pub links : List (Option Link)  -- the installed link of each site
  pub released : Released

-- the fresh core, and the numbers
pub record Fresh : Type 0 where
  pub core : State
  pub numbers : Numbers

pub record Renewing : Type 0 where
  pub start : Option Start  -- until the fresh core is made
  pub fresh : Option Fresh  -- from then on
  pub limits : Limits  -- those of the fresh core
  pub taken : ℕ  -- up to which of the linker's events entries were taken
  pub waiting : List Entry  -- those taken since the begin that the fresh core doesn't have yet
  pub defined : World  -- the classes as they were when entries were taken

-- ---- the begin

-- the entries of the core's log, each of which tells its event by the classes that there were then
pub record AreEntries (core : State) (entries : List Entry) : Type 0 where
  pub told : are_told (world_of core).classes.rows entries ≡ true
  pub events : shown (world_of core).classes.rows entries ≡ core.log
  pub told_then : AreToldThen core entries

abbrev pub begun_from : Start → Limits → Renewing
begun_from start limits =
    record { start = Some start; fresh = None; limits = limits; taken = start.seen.serial; waiting = []; defined = nothing_yet }

-- of this linker with these entries, of which its host has released these
abbrev pub begun_in : Opened → List Entry → Released → ℕ → Renewing
begun_in opened past released max_sites =
    begun_from (record {
      seen = snapshot_of opened.session;
      past = past;
      sites = length (world_of opened.session.core).places;
      links = (seen_of opened.session.core).links;
      released = released;
    }) (limits_for opened.session.core max_sites)

-- a renewal of it that begins; its limits are such as a linker may have
abbrev pub HasBegun : Opened → Released → ℕ → Renewing → Type 0
HasBegun opened released max_sites renewing =
    (past : List Entry) × AreEntries opened.session.core past × AreAllowed opened.session.core.limits
    × (renewing ≡ begun_in opened past released max_sites)

-- the linker isn't open, and none begins; or one begins
abbrev pub IsBegunOf : Option Opened → Released → ℕ → Option Renewing → Type 0
IsBegunOf None gone max_sites begun = begun ≡ None
IsBegunOf (Some opened) gone max_sites begun = (renewing : Renewing) × HasBegun opened gone max_sites renewing × (begun ≡ Some renewing)

-- The linker isn't open; or the renewal has begun; or no such number may be; or it begins, or there was no memory. The linker stays.
abbrev pub IsBegin : Released → ℕ → Option Renewing → Option Opened → ℕ → Option Renewing → Option Opened → Type 0
IsBegin gone max_sites before None status after new = (status ≡ closed) × (after ≡ before) × (new ≡ None)
IsBegin gone max_sites (Some begun) (Some old) status after new = (status ≡ open_already) × (after ≡ Some begun) × (new ≡ Some old)
IsBegin gone max_sites None (Some old) status after new =
    MatchBool (may_be max_sites)
    (((status ≡ done) × IsBegunOf (Some old) gone max_sites after) ⊎ ((status ≡ memory) × (after ≡ None)))
    ((status ≡ malformed) × (after ≡ None))
    × (new ≡ Some old)

-- ---- taking entries

-- the classes are these, or there are no more than before
abbrev pub AreBrought : Classes → World → World → Type 0
AreBrought cs old new = (new.classes ≡ cs) ⊎ ((new ≡ old) × (length cs.rows ≡ length old.classes.rows))

-- these entries of the core's log were taken, with its classes
pub record AreTaken (core : State) (portion : List Entry) (old new : Renewing) : Type 0 where
  pub start : new.start ≡ old.start
  pub fresh : new.fresh ≡ old.fresh
  pub limits : new.limits ≡ old.limits
  pub taken : new.taken ≡ old.taken + length portion
  pub waiting : new.waiting ≡ old.waiting ++ portion
  pub defined : AreBrought (world_of core).classes old.defined new.defined

-- the next entries were taken, at most so many; the core has accepted as many events as were taken before
abbrev pub IsTakenFrom : ℕ → State → Renewing → Renewing → Type 0
IsTakenFrom most core old new =
    (entries : List Entry) × AreEntries core entries × AreTaken core (take most (drop old.taken entries)) old new × (old.taken ≤ length core.log)

-- The core shows to be another one than that of the begin, which forgets none of what is left. It has accepted fewer events than were
-- taken, or it has forgotten the next one, which isn't the last then.
abbrev pub IsOther : State → Renewing → Type 0
IsOther core renewing = (length core.log < renewing.taken) ⊎ (renewing.taken + 1 < length core.log)

-- no entry was taken, for this reason
abbrev pub IsUntaken : State → Renewing → ℕ → Type 0
IsUntaken core old status = (status ≡ memory) ⊎ ((status ≡ malformed) × IsOther core old)

-- The renewal hasn't begun, or the linker isn't open; or entries were taken, or none was, and the count of those that are left is told.
abbrev pub IsTake : ℕ → Option Renewing → Option Opened → ℕ → ℕ → ℕ → Option Renewing → Option Opened → Type 0
IsTake most None from before status left after new = (status ≡ closed) × (left ≡ before) × (after ≡ None) × (new ≡ from)
IsTake most (Some old) None before status left after new = (status ≡ closed) × (left ≡ before) × (after ≡ Some old) × (new ≡ None)
IsTake most (Some old) (Some opened) before status left after new = (next : Renewing) × (after ≡ Some next) × (new ≡ Some opened)
    × (((status ≡ done) × IsTakenFrom most opened.session.core old next) ⊎ (IsUntaken opened.session.core old status × (next ≡ old)))
    × (left ≡ length opened.session.core.log - next.taken)

-- ---- the fresh core is made

-- the site with its link, if it has one
abbrev pub row_at : List (Option Link) → ℕ → Option (ℕ × Link)
row_at links s = option_map (λ l. (s, l)) (option_and_then (λ slot. slot) (slice_get links s))

-- of the first so many sites each that has a link, with it
abbrev pub listed : List (Option Link) → ℕ → List (ℕ × Link)
listed links sites = filter_map (row_at links) (range_with_len 0 sites)

-- The fresh core has accepted the events of a renewal of what there was at the begin, and installed the links of the sites that had one.
pub record IsMade (start : Start) (limits : Limits) (made : Fresh) : Type 0 where
  pub between : State
  pub refilled : IsFilledFrom start.seen.world start.past start.released made.numbers (empty_core limits) between
  pub linked : Installs (fresh_rows (world_of between) made.numbers (listed start.links start.sites)) between made.core

-- none is made: more stays than it may have; or there was no memory; or an event was refused
abbrev pub IsUnmade : Start → Limits → Refusal → Type 0
IsUnmade start limits r =
    ((after : State) × IsPartlyFilled start.seen.world start.past start.released limits (empty_core limits) after r)
    ⊎ (r ≡ Memory)
    ⊎ ((n : Numbers) × (between after : State) × IsFilledFrom start.seen.world start.past start.released n (empty_core limits) between
    × StopsAt (fresh_rows (world_of between) n (listed start.links start.sites)) between after r)

-- ---- an entry is carried over

abbrev pub installs_of : Accepted → Option (List (ℕ × Link))
installs_of (event.Install rows) = Some rows
installs_of _ = None

-- links are installed: of those of these sites that have one, each from scratch, under the sites' new numbers
abbrev pub IsLinked : List (ℕ × Link) → Fresh → Fresh → Type 0
IsLinked [] old new = new ≡ old
IsLinked (row ∷ rows) old new =
    ((reply : Reply) × IsAccepted old.core new.core (event.Install (row ∷ rows)) reply) × (new.numbers ≡ old.numbers)

abbrev pub IsCarriedOn : World → Entry → Fresh → Fresh → Type 0
IsCarriedOn w entry old new =
    MatchOption (installs_of entry.event) (IsAdded w entry old.numbers new.numbers old.core new.core)
    (λ rows. IsLinked (fresh_rows (world_of old.core) old.numbers rows) old new)

-- one after another
abbrev pub AreCarried : World → List Entry → Fresh → Fresh → Type 0
AreCarried w [] old new = new ≡ old
AreCarried w (entry ∷ entries) old new = (between : Fresh) × IsCarriedOn w entry old between × AreCarried w entries between new

-- those before the ones that are left
abbrev pub HasCarried : World → List Entry → List Entry → Fresh → Fresh → Type 0
HasCarried w entries left old new = (front : List Entry) × (entries ≡ front ++ left) × AreCarried w front old new

-- ---- why it isn't

-- the call site or switch point of the target that is gone
abbrev pub gone_in : Numbers → Target → Option ℕ
gone_in n (Method m) = None
gone_in n (Guard p first fallback) =
    option_map_or (λ q. option_or (gone_in n first) (gone_in n fallback)) (new_number n.switches p) (Some p)
gone_in n (Invoker c) = option_map_or (λ d. None) (new_number n.call_sites c) (Some c)

-- that which the event names
abbrev pub gone_of : Numbers → Accepted → Option ℕ
gone_of n (event.NewCallSite kind ty target) = gone_in n target
gone_of n (event.SetTarget c target) = option_map_or (λ d. gone_in n target) (new_number n.call_sites c) (Some c)
gone_of n (event.Bind s c) = Some c
gone_of n _ = None

-- the links of an install aren't installed: the core refuses them, or there was no memory
abbrev pub AreUnlinked : List (ℕ × Link) → State → Refusal → Type 0
AreUnlinked rows core r = (r ≡ Memory) ⊎ IsRefused (verdict core.limits (world_of core) (event.Install rows)) r

abbrev pub IsUnlinked : List (ℕ × Link) → State → CarryFault → Type 0
IsUnlinked rows core Gone = ⊥
IsUnlinked rows core (Refused r) = AreUnlinked rows core r

-- The entry isn't carried over, for this.
pub record IsUncarriedOn (w : World) (entry : Entry) (old : Fresh) (fault : CarryFault) (new : Fresh) : Type 0 where
  pub why : MatchOption (installs_of entry.event) (IsUncarried w entry old.numbers old.core fault)
      (λ rows. IsUnlinked (fresh_rows (world_of old.core) old.numbers rows) old.core fault)
  pub core : new.core ≡ old.core
  pub numbers : AreLeft entry.reply.made old.numbers new.numbers fault

-- those before an entry that isn't carried over were
pub record StopsBefore (w : World) (entries left : List Entry) (old : Fresh) (fault : CarryFault) (new : Fresh) : Type 0 where
  pub before : Fresh
  pub carried : HasCarried w entries left old before
  pub entry : Entry
  pub others : List Entry
  pub next : left ≡ entry ∷ others
  pub uncarried : IsUncarriedOn w entry before fault new

-- ---- a fill

-- the fresh core is made, if it wasn't
abbrev pub IsReady : Renewing → Renewing → Type 0
IsReady old new = MatchOption old.start (new ≡ old)
    (λ start. (made : Fresh) × IsMade start old.limits made × (new ≡ record old { start = None; fresh = Some made }))

-- none is made, for this
abbrev pub IsUnready : Renewing → Refusal → Type 0
IsUnready old r = (start : Start) × (old.start ≡ Some start) × IsUnmade start old.limits r

-- all entries that wait are carried over, if the fresh core is there
abbrev pub AreAllCarried : Renewing → Renewing → Type 0
AreAllCarried old new = MatchOption old.fresh (new ≡ old)
    (λ fresh. (after : Fresh) × AreCarried old.defined old.waiting fresh after × (new ≡ record old { fresh = Some after; waiting = [] }))

-- Those before one that isn't carried over were; or all were, and there was no memory for the pages of links.
abbrev pub HasStopped : Renewing → CarryFault → Renewing → Type 0
HasStopped old fault new = (fresh after : Fresh) × (left : List Entry) × (old.fresh ≡ Some fresh)
    × (StopsBefore old.defined old.waiting left fresh fault after
    ⊎ ((fault ≡ Refused Memory) × (left ≡ []) × AreCarried old.defined old.waiting fresh after))
    × (new ≡ record old { fresh = Some after; waiting = left })

-- what is gone that the next entry names, or 0
abbrev pub gone_number : Renewing → ℕ
gone_number renewing = unwrap_or
    (option_and_then (λ fresh. option_and_then (λ entry. gone_of fresh.numbers entry.event) (slice_get renewing.waiting 0)) renewing.fresh) 0

-- by why it stopped
abbrev pub IsToldOf : Renewing → CarryFault → ℕ → Told → Type 0
IsToldOf new Gone status told = (status ≡ released) × (told ≡ told_of_released (gone_number new) (new.taken - length new.waiting))
IsToldOf new (Refused r) status told = (status ≡ status_of_refusal r) × (told ≡ told_of_refusal r)

abbrev pub IsFilledOn : Renewing → ℕ → Told → Renewing → Type 0
IsFilledOn old status told new =
    ((status ≡ done) × (told ≡ nothing) × AreAllCarried old new)
    ⊎ ((fault : CarryFault) × HasStopped old fault new × IsToldOf new fault status told)

-- the fresh core is made, if it wasn't, and what waits is carried over; or the core isn't made, and nothing has changed
abbrev pub IsFilled : Renewing → ℕ → Told → Renewing → Type 0
IsFilled old status told new =
    ((ready : Renewing) × IsReady old ready × IsFilledOn ready status told new)
    ⊎ ((r : Refusal) × IsUnready old r × (status ≡ status_of_refusal r) × (told ≡ told_of_refusal r) × (new ≡ old))

abbrev pub IsFill : Option Renewing → ℕ → Told → Option Renewing → Type 0
IsFill None status told after = (status ≡ closed) × (told ≡ nothing) × (after ≡ None)
IsFill (Some old) status told after = (next : Renewing) × (after ≡ Some next) × IsFilled old status told next

-- ---- the end

-- more than there can be
abbrev pub all_that_are_left : ℕ
all_that_are_left = 2 ^ 64 - 1

-- all that is left is taken and carried over, or none was taken
abbrev pub IsFilledAll : State → Renewing → ℕ → Told → Renewing → Type 0
IsFilledAll core old status told new =
    (IsUntaken core old status × (told ≡ nothing) × (new ≡ old))
    ⊎ ((taken : Renewing) × IsTakenFrom all_that_are_left core old taken × IsFilled taken status told new)

-- nothing was handed over, for this reason
abbrev pub IsKept : ℕ → Option Renewing → Option Opened → Arrays → ℕ → Option Renewing → Option Opened → Arrays → Type 0
IsKept reason old fresh before status new new_fresh after = (status ≡ reason) × (new ≡ old) × (new_fresh ≡ fresh) × (after ≡ before)

-- The linker is open over the fresh core, the numbers were written, and the renewal has ended; or there is no fresh core; or an array is too
-- short.
abbrev pub IsHandedOver : Option Renewing → Option Opened → Arrays → ℕ → Option Renewing → Option Opened → Arrays → Type 0
IsHandedOver old fresh before status new new_fresh after = MatchOption (option_and_then (λ renewing. renewing.fresh) old)
    (IsKept malformed old fresh before status new new_fresh after)
    (λ made. MatchBool (have_room (counts_in made.numbers) before)
    ((status ≡ done) × (new ≡ None) × (new_fresh ≡ Some (opened_over made.core)) × (after ≡ with_numbers made.numbers before))
    (IsKept too_short old fresh before status new new_fresh after))

-- all that is left is carried over, and what was made is handed over; or it isn't, for this reason
abbrev pub IsFinished : State → Renewing → Arrays → ℕ → Told → Option Renewing → Option Opened → Arrays → Type 0
IsFinished core old before status told new new_fresh after =
    (filled : Renewing) × (filling : ℕ) × IsFilledAll core old filling told filled
    × MatchBool (filling == done) (IsHandedOver (Some filled) None before status new new_fresh after)
    (IsKept filling (Some filled) None before status new new_fresh after)

-- nothing was asked for, for this reason
abbrev pub IsUnfinished : ℕ → Option Renewing → Option Opened → Arrays → ℕ → Told → Option Renewing → Option Opened → Arrays → Type 0
IsUnfinished reason old fresh before status told new new_fresh after = IsKept reason old fresh before status new new_fresh after × (told ≡ nothing)

-- The renewal hasn't begun, or the linker isn't open; or the other one is; or an array is too short; or what is left is carried over.
abbrev pub IsEnd : Option Renewing → Option Opened → Option Opened → Arrays → ℕ → Told → Option Renewing → Option Opened → Arrays → Type 0
IsEnd None from fresh before status told new new_fresh after = IsUnfinished closed None fresh before status told new new_fresh after
IsEnd (Some old) None fresh before status told new new_fresh after = IsUnfinished closed (Some old) fresh before status told new new_fresh after
IsEnd (Some old) (Some opened) (Some taken) before status told new new_fresh after =
    IsUnfinished open_already (Some old) (Some taken) before status told new new_fresh after
IsEnd (Some old) (Some opened) None before status told new new_fresh after =
    MatchBool (have_room (counts_of (world_of opened.session.core)) before)
    (IsFinished opened.session.core old before status told new new_fresh after)
    (IsUnfinished too_short (Some old) None before status told new new_fresh after)

-- The linker stays.
abbrev pub IsFinish : Option Renewing → Option Opened → Option Opened → Arrays → ℕ → Told → Option Renewing → Option Opened → Option Opened → Arrays
    → Type 0
IsFinish old from fresh before status told new new_from new_fresh after =
    IsEnd old from fresh before status told new new_fresh after × (new_from ≡ from)
