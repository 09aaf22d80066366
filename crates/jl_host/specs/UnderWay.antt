-- A renewal in steps that is under way, beside the one linker of which it was begun.
use Rattle.std.specs.Prelude.{◌≡◌, ◌⊎◌, ◌+◌, ◌-◌, ℕ, Bool, true, false, slice_get, List, [], ◌∷◌, ◌++◌, length, Some, None}
use Rattle.jl_types.specs.declared.event.EventOf.TheVariants as event
use Rattle.jl_types.specs.declared.event.Reply.{Reply}
use Rattle.jl_types.specs.declared.refusal.Refusal.{Refusal}
use Rattle.jl_types.specs.Events.Event.{Event}
use Rattle.jl_types.specs.Events.Limits.{AreAllowed, AreNoFewer}
use Rattle.jl_types.specs.Values.World.{Class}
use Rattle.jl_relink.specs.Laws.{AreAccepted, has_read_file}
use Rattle.jl_core.specs.State.{State, events, world_of, IsAccepted}
use Rattle.jl_core.specs.Logs.{Entry, are_told, shown}
use Rattle.jl_renewal.specs.declared.released.Released.{Released}
use Rattle.jl_renewal.specs.Numbers.{Numbers}
use Rattle.jl_renewal.specs.Carries.{carried_event, with_made}
use Rattle.jl_renewal.specs.Moved.{flags_of, IsBeside, HaveSameLinks}
use Rattle.jl_host.specs.Numbers.{done, memory, status_of_refusal}
use Rattle.jl_host.specs.Numbers as host
use Rattle.jl_host.specs.Seats.{seen_of}
use Rattle.jl_host.specs.Renewing.{Start, Fresh, Renewing, AreEntries, installs_of, IsUnready}

-- ---- what the linker accepts meanwhile

-- The old core has accepted these, one after another, and is the new one then. Each class file was read.
abbrev pub HasAccepted : State → List (Event × Reply) → State → Type 0
HasAccepted old [] new = new ≡ old
HasAccepted old (entry ∷ entries) new =
    (next : State) × IsAccepted old next entry.0 entry.1 × (has_read_file entry.0 ≡ true) × HasAccepted next entries new

-- each of these classes is at its place among the others
abbrev pub AreAmong : List Class → List Class → Type 0
AreAmong rows more = (c : ℕ) (row : Class) → slice_get rows c ≡ Some row → slice_get more c ≡ Some row

-- ---- before the fresh core is made

-- what there was at the begin, with its entries
abbrev pub start_of : State → List Entry → Released → Start
start_of begun past released = record {
  seen = record { world = world_of begun; serial = length begun.log };
  past = past;
  sites = length (world_of begun).places;
  links = (seen_of begun).links;
  released = released;
}

-- What was had at the begin isn't carried over yet. What is left came since.
pub record IsGathering (begun : State) (released : Released) (core : State) (had left : List (Event × Reply)) (renewing : Renewing) : Type 0 where
  pub accepted : AreAccepted begun.limits (events begun)
  pub allowed : AreAllowed begun.limits
  pub limit : AreNoFewer begun.limits renewing.limits
  pub log : begun.log ≡ had
  pub grown : HasAccepted begun left core
  pub past : List Entry
  pub entries : AreEntries begun past
  pub start : renewing.start ≡ Some (start_of begun past released)
  pub fresh : renewing.fresh ≡ None

-- ---- once it is made

-- The next entry names what is gone. It is noted already that what the entry made is gone.
pub record IsHeldUp (renewing : Renewing) (n m : Numbers) : Type 0 where
  pub entry : Entry
  pub others : List Entry
  pub next : renewing.waiting ≡ entry ∷ others
  pub other : installs_of entry.event ≡ None
  pub gone : carried_event renewing.defined n entry ≡ None
  pub noted : m ≡ with_made n entry.reply.made None

-- The fresh core stands beside the old one as that was when it had what was carried over, and has its links. What is left came after it.
pub record HasFresh (begun : State) (released : Released) (core : State) (had left : List (Event × Reply)) (renewing : Renewing) : Type 0 where
  pub old : State
  pub log : old.log ≡ had
  pub grown : HasAccepted old left core
  pub start : renewing.start ≡ None
  pub made : Fresh
  pub fresh : renewing.fresh ≡ Some made
  pub numbers : Numbers
  pub beside : IsBeside (flags_of (world_of begun) released) old made.core numbers
  pub links : HaveSameLinks old made.core numbers
  pub noted : (made.numbers ≡ numbers) ⊎ IsHeldUp renewing numbers made.numbers

-- ---- at any time

-- The renewal was begun of a core with these released, and that core is this one now. Nothing else was given to the renewal.
pub record IsUnderWay (begun : State) (released : Released) (core : State) (renewing : Renewing) : Type 0 where
  -- what the fresh core has or will be made of, and what wasn't taken yet
  pub had : List (Event × Reply)
  pub later : List (Event × Reply)
  -- what waits stands between them in the core's log
  pub all_told : are_told renewing.defined.classes.rows renewing.waiting ≡ true
  pub log : core.log ≡ had ++ (shown renewing.defined.classes.rows renewing.waiting ++ later)
  pub taken : renewing.taken ≡ length had + length renewing.waiting
  -- the classes that were taken are the core's
  pub classes : AreAmong renewing.defined.classes.rows (world_of core).classes.rows
  pub phase : IsGathering begun released core had (shown renewing.defined.classes.rows renewing.waiting ++ later) renewing
      ⊎ HasFresh begun released core had (shown renewing.defined.classes.rows renewing.waiting ++ later) renewing

-- ---- what a fill answers

-- a new call site, a new target, or a bind
abbrev pub is_of_call_site : Event → Bool
is_of_call_site (event.NewCallSite kind ty target) = true
is_of_call_site (event.SetTarget c target) = true
is_of_call_site (event.Bind s c) = true
is_of_call_site _ = false

-- The first event that the core has accepted after what was carried over is one of a call site.
abbrev pub IsNextOfCallSite : State → Renewing → Type 0
IsNextOfCallSite core renewing = (e : Event) × (reply : Reply)
    × (slice_get core.log (renewing.taken - length renewing.waiting) ≡ Some (e, reply)) × (is_of_call_site e ≡ true)

-- done; want of memory; or that the next event, one of a call site, names what was released
abbrev pub IsFillAnswer : State → Renewing → ℕ → Type 0
IsFillAnswer core renewing status =
    (status ≡ done) ⊎ ((status ≡ memory) ⊎ ((status ≡ host.released) × IsNextOfCallSite core renewing))

-- that; or why no fresh core was made
abbrev pub IsFillOrUnready : State → Renewing → ℕ → Renewing → Type 0
IsFillOrUnready core old status new = IsFillAnswer core new status ⊎ ((r : Refusal) × IsUnready old r × (status ≡ status_of_refusal r))
