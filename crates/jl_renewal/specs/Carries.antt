-- An event that an old core has accepted since its renewal began, under the new numbers.
use Rattle.std.specs.Prelude.{◌≡◌, ◌⊎◌, ◌==◌, ℕ, Bool, true, false, List, [], ◌∷◌, ◌++◌, filter_map, length, Option, Some, None, Err}
use Rattle.std.specs.Prelude.{option_map, option_and_then, if◌then◌else◌}
use Rattle.jl_types.specs.declared.event.EventOf.TheVariants as event
use Rattle.jl_types.specs.declared.event.Made.{Made}
use Rattle.jl_types.specs.declared.event.Made.TheVariants as made
use Rattle.jl_types.specs.declared.event.Reply.{Reply}
use Rattle.jl_types.specs.Values.Target.{Target, Method, Guard, Invoker}
use Rattle.jl_types.specs.Events.Event.{Event}
use Rattle.jl_types.specs.Values.World.{World}
use Rattle.jl_events.specs.Accepted.{Accepted, event_of}
use Rattle.jl_types.specs.declared.refusal.Refusal.{Refusal}
use Rattle.jl_types.specs.declared.refusal.Refusal.TheVariants.{Memory}
use Rattle.jl_types.specs.Events.Verdict.{verdict}
use Rattle.jl_core.specs.State.{State, world_of, IsAccepted}
use Rattle.jl_core.specs.Logs.{Entry}
use Rattle.jl_renewal.specs.declared.entries.CarryFault.{CarryFault}
use Rattle.jl_renewal.specs.declared.entries.CarryFault.TheVariants.{Gone, Refused}
use Rattle.jl_renewal.specs.Numbers.{Numbers, new_number}
use Rattle.jl_renewal.specs.Renewal.{request, binding}

-- ---- what it names, or none if that is gone

abbrev pub guarded : ℕ → Option Target → Option Target → Option Target
guarded p first fallback = option_and_then (λ a. option_map (Guard p a) fallback) first

abbrev pub carried_target : Numbers → Target → Option Target
carried_target n (Method m) = option_map (λ c. Method (record m { class = c })) (new_number n.classes m.class)
carried_target n (Guard p first fallback) =
    option_and_then (λ q. guarded q (carried_target n first) (carried_target n fallback)) (new_number n.switches p)
carried_target n (Invoker c) = option_map Invoker (new_number n.call_sites c)

-- Switch points that are gone stay as they are, and so do links: they come over with the others. Of loaders that are retired at once those
-- that are gone are left out: they are retired already. So are call sites and switch points that are gone left out of a release.
abbrev pub carried : Numbers → Event → Option Event
carried n event.NewLoader = Some event.NewLoader
carried n (event.Define loader file) = option_map (λ l. event.Define l file) (new_number n.loaders loader)
carried n (event.Delegate loader name to) =
    option_and_then (λ l. option_map (event.Delegate l name) (new_number n.loaders to)) (new_number n.loaders loader)
carried n (event.Request place) = request n place
carried n (event.NewCallSite kind ty target) = option_map (event.NewCallSite kind ty) (carried_target n target)
carried n (event.SetTarget c target) = option_and_then (λ k. option_map (event.SetTarget k) (carried_target n target)) (new_number n.call_sites c)
carried n event.NewSwitch = Some event.NewSwitch
carried n (event.Invalidate points) = Some (event.Invalidate (filter_map (new_number n.switches) points))
carried n (event.Bind s c) = binding n (s, c)
carried n (event.Install rows) = None
carried n (event.Retire loader) = option_map event.Retire (new_number n.loaders loader)
carried n (event.RetireAll loaders) = Some (event.RetireAll (filter_map (new_number n.loaders) loaders))
carried n (event.Release cs ps) = Some (event.Release (filter_map (new_number n.call_sites) cs) (filter_map (new_number n.switches) ps))

-- ---- the numbers afterwards

-- the number that an event gave
abbrev pub made_number : Made → Option ℕ
made_number made.Nothing = None
made_number (made.Loader l) = Some l
made_number (made.Class c) = Some c
made_number (made.Site s) = Some s
made_number (made.CallSite c) = Some c
made_number (made.Switch p) = Some p

-- what has the next old number has this new one; what had one already keeps its own
abbrev pub with_number : List (Option ℕ) → ℕ → Option ℕ → List (Option ℕ)
with_number numbers old new = if old == length numbers then numbers ++ new ∷ [] else numbers

-- with the number, here, of what the event made there
abbrev pub with_made : Numbers → Made → Option ℕ → Numbers
with_made n made.Nothing new = n
with_made n (made.Loader l) new = record n { loaders = with_number n.loaders l new }
with_made n (made.Class c) new = record n { classes = with_number n.classes c new }
with_made n (made.Site s) new = record n { sites = with_number n.sites s new }
with_made n (made.CallSite c) new = record n { call_sites = with_number n.call_sites c new }
with_made n (made.Switch p) new = record n { switches = with_number n.switches p new }

-- ---- one entry

-- the entry's event under the new numbers
abbrev pub carried_event : World → Numbers → Entry → Option Event
carried_event w n entry = option_and_then (carried n) (event_of w.classes.rows entry.event)

-- the core has accepted the event, and the numbers have what it made, which made this in the old core
pub record IsMade (e : Event) (old : Made) (n m : Numbers) (before after : State) : Type 0 where
  pub reply : Reply
  pub accepted : IsAccepted before after e reply
  pub numbers : m ≡ with_made n old (made_number reply.made)

-- the core has accepted the event, and one list of numbers has what it made
pub record IsNoted (e : Event) (old : ℕ) (numbers more : List (Option ℕ)) (before after : State) : Type 0 where
  pub reply : Reply
  pub accepted : IsAccepted before after e reply
  pub noted : more ≡ with_number numbers old (made_number reply.made)

-- the core has accepted the event, and no list of numbers changes
pub record IsTaken (e : Event) (before after : State) : Type 0 where
  pub reply : Reply
  pub accepted : IsAccepted before after e reply

-- the core refuses the event, or there is no memory
abbrev pub IsRefusedIn : State → Event → Refusal → Type 0
IsRefusedIn core e r = (r ≡ Memory) ⊎ (verdict core.limits (world_of core) e ≡ Err r)

-- the fresh core has accepted the entry's event, and its numbers have what that made
pub record IsAdded (w : World) (entry : Entry) (n m : Numbers) (before after : State) : Type 0 where
  pub event : Event
  pub is : carried_event w n entry ≡ Some event
  pub made : IsMade event entry.reply.made n m before after

abbrev pub is_install : Accepted → Bool
is_install (event.Install rows) = true
is_install _ = false

-- The entry is carried over: it is an install, which changes nothing, or the fresh core has accepted it.
abbrev pub IsCarried : World → Entry → Numbers → Numbers → State → State → Type 0
IsCarried w entry n m before after =
    ((is_install entry.event ≡ true) × ((m ≡ n) × (after ≡ before))) ⊎ IsAdded w entry n m before after

-- why an entry isn't carried over: it names what is gone, or the core refuses the event, or there is no memory
abbrev pub IsUncarried : World → Entry → Numbers → State → CarryFault → Type 0
IsUncarried w entry n before Gone = carried_event w n entry ≡ None
IsUncarried w entry n before (Refused r) =
    (r ≡ Memory) ⊎ ((e : Event) × (carried_event w n entry ≡ Some e) × (verdict before.limits (world_of before) e ≡ Err r))

-- the numbers afterwards: what a gone entry made is noted as gone, so that what comes later keeps its own place
abbrev pub AreLeft : Made → Numbers → Numbers → CarryFault → Type 0
AreLeft old n m Gone = m ≡ with_made n old None
AreLeft old n m (Refused r) = m ≡ n

-- of an event
abbrev pub IsFaultOf : Event → State → CarryFault → Type 0
IsFaultOf e before Gone = ⊥
IsFaultOf e before (Refused r) = IsRefusedIn before e r
