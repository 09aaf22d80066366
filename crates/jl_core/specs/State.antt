-- A core as its callers see it: the events that it accepted, each with its reply. What there is to link, and which links are
-- installed (polymorphic inline caches: Hölzle, Chambers and Ungar 1991), follows from these events.
use Rattle.std.specs.Prelude.{◌≡◌, ◌⊎◌, ℕ, List, [], ◌∷◌, ◌++◌, map, take, slice_get, Some, Result, Ok, Err, IsOk}
use Rattle.jl_types.specs.declared.limits.Limits.{Limits}
use Rattle.jl_types.specs.declared.link.Link.{Link}
use Rattle.jl_types.specs.Events.Event.{Event}
use Rattle.jl_types.specs.declared.event.Made.{Made}
use Rattle.jl_types.specs.declared.event.Reply.{Reply}
use Rattle.jl_types.specs.declared.refusal.Refusal.{Refusal}
use Rattle.jl_types.specs.declared.refusal.Refusal.TheVariants.{Memory}
use Rattle.jl_types.specs.Values.World.{World}
use Rattle.jl_types.specs.Events.Verdict.{verdict}
use Rattle.jl_types.specs.Events.History.{world_after, installed_links}
use Rattle.jl_types.specs.Events.History as history
use Rattle.jl_select.specs.Constancy.{IsConstant}

pub record State : Type 0 where
  pub limits : Limits  -- how many of each kind it may give numbers to
  pub log : List (Event × Reply)  -- the accepted events, in order, each with its reply

-- no event was accepted yet
abbrev pub empty_core : Limits → State
empty_core limits = record { limits = limits; log = [] }

abbrev pub events : State → List Event
events core = map (λ entry. entry.0) core.log

-- what there is to link now
abbrev pub world_of : State → World
world_of core = world_after (events core)

-- the links that the events leave installed, by rising number of their sites
abbrev pub links_of : State → List (ℕ × Link)
links_of core = installed_links (events core)

-- each event was answered as those before it say
abbrev pub AreAnswered : State → Type 0
AreAnswered core = (n : ℕ) (e : Event) (reply : Reply) → slice_get core.log n ≡ Some (e, reply)
    → history.reply core.limits (take n (events core)) e ≡ Ok reply

-- ---- one event

-- why an event is refused: for the verdict's refusal, or, if it accepts, for want of memory
abbrev pub IsRefused : Result Made Refusal → Refusal → Type 0
IsRefused made r = (made ≡ Err r) ⊎ ((r ≡ Memory) × IsOk made)

-- An accepted event is answered as the events before it say, and the log has it with that reply as its last. What was resolved
-- and selected stays so.
pub record IsAccepted (old new : State) (e : Event) (reply : Reply) : Type 0 where
  pub answered : history.reply old.limits (events old) e ≡ Ok reply
  pub logged : new ≡ record old { log = old.log ++ (e, reply) ∷ [] }
  pub constant : IsConstant (world_of old).classes (world_of new).classes

-- What an event does, by its answer. If it is refused, the core is as before.
abbrev pub IsApplied : State → Event → Result Reply Refusal → State → Type 0
IsApplied old e (Ok reply) new = IsAccepted old new e reply
IsApplied old e (Err r) new = IsRefused (verdict old.limits (world_of old) e) r × (new ≡ old)
