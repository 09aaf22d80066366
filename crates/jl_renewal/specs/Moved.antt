-- A fresh core that has all that stays of an old one at a renewal, and all that the old one makes after it.
use Rattle.std.specs.Prelude.{◌≡◌, ◌≤◌, ℕ, zero, suc, Bool, true, false, List, [], ◌∷◌, ◌++◌, map, filter_map, length, slice_get}
use Rattle.std.specs.Prelude.{◌↔◌, Contains, Option, Some, None, option_map, option_and_then, is_some, is_none}
use Rattle.std.specs.List.{list_any, range_with_len}
use Rattle.std.specs.Option.{unwrap_or}
use Rattle.jl_types.specs.declared.event.EventOf.TheVariants as event
use Rattle.jl_types.specs.declared.ids.Place.{Place}
use Rattle.jl_types.specs.declared.link.Link.{Link}
use Rattle.jl_types.specs.Values.Target.{Target, Method, Guard, Invoker}
use Rattle.jl_types.specs.Values.World.{World, Class, Classes, CallSite, unreleased, is_missing}
use Rattle.jl_types.specs.Values.Members.{is_present, is_retired}
use Rattle.jl_types.specs.Events.Event.{Event}
use Rattle.jl_types.specs.Events.Limits.{AreNoFewer}
use Rattle.jl_relink.specs.Laws.{AreAccepted}
use Rattle.jl_core.specs.State.{State, events, world_of, links_of}
use Rattle.jl_types.specs.declared.refusal.Refusal.TheVariants.{Memory}
use Rattle.jl_renewal.specs.declared.entries.CarryFault.{CarryFault}
use Rattle.jl_renewal.specs.declared.entries.CarryFault.TheVariants.{Gone, Refused}
use Rattle.jl_renewal.specs.declared.released.Released.{Released}
use Rattle.jl_renewal.specs.Numbers.{Numbers, renumbered}
use Rattle.jl_renewal.specs.Staying.{staying_loaders, staying_classes, staying_sites, staying_call_sites, staying_switches}
use Rattle.jl_renewal.specs.Renewal.{CameFrom}
use Rattle.jl_renewal.specs.Renewed.{renumbered_link}
use Rattle.jl_renewal.specs.Adds.{HasCome}
use Rattle.jl_renewal.specs.Carries.{guarded}

-- ---- flags: they tell what stays of the numbers that there are at a renewal; all later numbers stay

-- the new number of what has this old one, if it stays
abbrev pub moved : List Bool → ℕ → Option ℕ
moved [] k = Some k
moved (true ∷ stays) zero = Some 0
moved (false ∷ stays) zero = None
moved (true ∷ stays) (suc k) = option_map suc (moved stays k)
moved (false ∷ stays) (suc k) = moved stays k

-- the new number of what stays; of what goes, 0
abbrev pub shifted : List Bool → ℕ → ℕ
shifted stays k = unwrap_or (moved stays k) 0

-- what stays of a list
abbrev pub kept : {A : Type 0} → List Bool → List A → List A
kept [] xs = xs
kept (stays ∷ rest) [] = []
kept (true ∷ rest) (x ∷ xs) = x ∷ kept rest xs
kept (false ∷ rest) (x ∷ xs) = kept rest xs

-- of loaders, classes, sites, call sites and switch points
pub record Flags : Type 0 where
  pub loaders : List Bool
  pub classes : List Bool
  pub sites : List Bool
  pub call_sites : List Bool
  pub switches : List Bool

-- those of a renewal of this world
abbrev pub flags_of : World → Released → Flags
flags_of w released = record {
  loaders = staying_loaders w.classes;
  classes = staying_classes w.classes;
  sites = staying_sites w.classes w.places;
  call_sites = staying_call_sites w released;
  switches = staying_switches w released;
}

-- ---- the fresh world, at any time since the renewal, of the old world at that time

abbrev pub moved_record : Flags → List ℕ × ℕ → List ℕ × ℕ
moved_record k r = (r.0, shifted k.classes r.1)

abbrev pub moved_class : Flags → Class → Class
moved_class k row = record row {
  loader = shifted k.loaders row.loader;
  superclass = option_map (shifted k.classes) row.superclass;
  interfaces = map (shifted k.classes) row.interfaces;
}

abbrev pub moved_classes : Flags → Classes → Classes
moved_classes k cs = record {
  loaders = map (map (moved_record k)) (kept k.loaders cs.loaders);
  rows = map (moved_class k) (kept k.classes cs.rows);
  retired = filter_map (moved k.loaders) cs.retired;
}

abbrev pub moved_place : Flags → Place → Place
moved_place k place = record place { class = shifted k.classes place.class }

abbrev pub moved_binding : Flags → ℕ × ℕ → Option (ℕ × ℕ)
moved_binding k b = option_and_then (λ s. option_map (λ c. (s, c)) (moved k.call_sites b.1)) (moved k.sites b.0)

abbrev pub moved_target : Flags → Target → Target
moved_target k (Method m) = Method (record m { class = shifted k.classes m.class })
moved_target k (Guard p first fallback) = Guard (shifted k.switches p) (moved_target k first) (moved_target k fallback)
moved_target k (Invoker c) = Invoker (shifted k.call_sites c)

abbrev pub moved_call_site : Flags → CallSite → CallSite
moved_call_site k site = record site { target = moved_target k site.target }

abbrev pub moved_world : Flags → World → World
moved_world k w = record {
  classes = moved_classes k w.classes;
  places = map (moved_place k) (kept k.sites w.places);
  bindings = filter_map (moved_binding k) w.bindings;
  sites = record {
    call_sites = map (option_map (moved_call_site k)) (kept k.call_sites w.sites.call_sites);
    switches = kept k.switches w.sites.switches;
  };
}

-- ---- an event under the new numbers, or none where it names what is gone; switch points that are gone are left out of an invalidation,
-- loaders that are gone out of a retirement of several, and call sites and switch points that are gone out of a release

abbrev pub target_there : Flags → Target → Option Target
target_there k (Method m) = option_map (λ c. Method (record m { class = c })) (moved k.classes m.class)
target_there k (Guard p first fallback) =
    option_and_then (λ q. guarded q (target_there k first) (target_there k fallback)) (moved k.switches p)
target_there k (Invoker c) = option_map Invoker (moved k.call_sites c)

abbrev pub event_there : Flags → Event → Option Event
event_there k event.NewLoader = Some event.NewLoader
event_there k (event.Define loader file) = option_map (λ l. event.Define l file) (moved k.loaders loader)
event_there k (event.Delegate loader name to) =
    option_and_then (λ l. option_map (event.Delegate l name) (moved k.loaders to)) (moved k.loaders loader)
event_there k (event.Request place) = option_map (λ c. event.Request (record place { class = c })) (moved k.classes place.class)
event_there k (event.NewCallSite kind ty target) = option_map (event.NewCallSite kind ty) (target_there k target)
event_there k (event.SetTarget c target) = option_and_then (λ d. option_map (event.SetTarget d) (target_there k target)) (moved k.call_sites c)
event_there k event.NewSwitch = Some event.NewSwitch
event_there k (event.Invalidate points) = Some (event.Invalidate (filter_map (moved k.switches) points))
event_there k (event.Bind s c) = option_and_then (λ t. option_map (event.Bind t) (moved k.call_sites c)) (moved k.sites s)
event_there k (event.Install rows) = None
event_there k (event.Retire loader) = option_map event.Retire (moved k.loaders loader)
event_there k (event.RetireAll loaders) = Some (event.RetireAll (filter_map (moved k.loaders) loaders))
event_there k (event.Release cs ps) = Some (event.Release (filter_map (moved k.call_sites) cs) (filter_map (moved k.switches) ps))

-- It may name a call site or a switch point that the fresh core doesn't have. An install is no event of the fresh core.
abbrev pub may_be_gone : Event → Bool
may_be_gone (event.NewCallSite kind ty target) = true
may_be_gone (event.SetTarget c target) = true
may_be_gone (event.Bind s c) = true
may_be_gone (event.Install rows) = true
may_be_gone _ = false

-- that event alone; an install is passed over
abbrev pub events_there : Flags → Event → Option (List Event)
events_there k (event.Install rows) = Some []
events_there k e = option_map (λ f. f ∷ []) (event_there k e)

-- None of the events names what is gone, and under the new numbers they are these.
abbrev pub AreThere : Flags → List Event → List Event → Type 0
AreThere k [] fs = fs ≡ []
AreThere k (e ∷ es) fs = (now : List Event) × (later : List Event) × (events_there k e ≡ Some now) × (fs ≡ now ++ later) × AreThere k es later

-- ---- what holds at a renewal, and after each event that is carried over

-- what stays rests on what stays
pub record Rests (k : Flags) (w : World) : Type 0 where
  -- each flag is of a number that there is
  pub few_loaders : length k.loaders ≤ length w.classes.loaders
  pub few_classes : length k.classes ≤ length w.classes.rows
  pub few_sites : length k.sites ≤ length w.places
  pub few_call_sites : length k.call_sites ≤ length w.sites.call_sites
  pub few_switches : length k.switches ≤ length w.sites.switches
  -- loader 0 stays
  pub first : moved k.loaders 0 ≡ Some 0
  -- a loader that doesn't stay is retired
  pub gone : (l : ℕ) → moved k.loaders l ≡ None → is_retired w.classes l ≡ true
  -- a class that is present stays
  pub present : (c : ℕ) → is_present w.classes c ≡ true → is_some (moved k.classes c) ≡ true
  -- if a class stays its loader does
  pub owned : (c : ℕ) (row : Class) → slice_get w.classes.rows c ≡ Some row → is_some (moved k.classes c) ≡ true
      → is_some (moved k.loaders row.loader) ≡ true
  -- if a loader stays each class that it has recorded does
  pub recorded : (l m : ℕ) (records : List (List ℕ × ℕ)) → moved k.loaders l ≡ Some m → slice_get w.classes.loaders l ≡ Some records
      → list_any (λ r. is_none (moved k.classes r.1)) records ≡ false
  -- a site stays exactly where its class does
  pub sites : (s : ℕ) (place : Place) → slice_get w.places s ≡ Some place → is_some (moved k.sites s) ≡ is_some (moved k.classes place.class)

-- what stays names what stays
pub record Names (k : Flags) (w : World) : Type 0 where
  -- if a site stays the call site to which it is bound does, unless that is released
  pub bound : (i : ℕ) (b : ℕ × ℕ) → slice_get w.bindings i ≡ Some b → is_missing w.sites.call_sites b.1 ≡ false
      → is_some (moved k.sites b.0) ≡ true → is_some (moved k.call_sites b.1) ≡ true
  -- if a call site stays all that its target names does
  pub targets : (c : ℕ) (site : CallSite) → unreleased w.sites.call_sites c ≡ Some site → is_some (moved k.call_sites c) ≡ true
      → is_some (target_there k site.target) ≡ true

-- ---- a fresh core beside the old one

-- the new number of each of the first so many
abbrev pub numbers_there : List Bool → ℕ → List (Option ℕ)
numbers_there stays count = map (moved stays) (range_with_len 0 count)

-- the new number of all that there is in the old world
abbrev pub all_numbers : Flags → World → Numbers
all_numbers k w = record {
  loaders = numbers_there k.loaders (length w.classes.loaders);
  classes = numbers_there k.classes (length w.classes.rows);
  sites = numbers_there k.sites (length w.places);
  call_sites = numbers_there k.call_sites (length w.sites.call_sites);
  switches = numbers_there k.switches (length w.sites.switches);
}

-- The fresh core has all that the old one has, under these numbers, but for what is gone by the flags. It may have as many of each kind.
pub record IsBeside (k : Flags) (old fresh : State) (n : Numbers) : Type 0 where
  pub accepted : AreAccepted old.limits (events old)
  pub rests : Rests k (world_of old)
  pub names : Names k (world_of old)
  pub limit : AreNoFewer old.limits fresh.limits
  pub world : world_of fresh ≡ moved_world k (world_of old)
  pub numbers : n ≡ all_numbers k (world_of old)

-- The links of the fresh core are exactly those of the old one, under new numbers.
abbrev pub HaveSameLinks : State → State → Numbers → Type 0
HaveSameLinks old fresh n = (k : ℕ) (l : Link) → Contains (links_of fresh) (k, l) ↔ CameFrom (links_of old) n k l

-- Each link of the fresh core is one of the old core's, under new numbers.
abbrev pub HasNoOtherLinks : State → State → Numbers → Type 0
HasNoOtherLinks old fresh n = (k : ℕ) (l : Link) → Contains (links_of fresh) (k, l) → CameFrom (links_of old) n k l

-- Each link of the fresh core is at the new number of a site that had one of these.
abbrev pub HasLinksOf : List (ℕ × Link) → State → Numbers → Type 0
HasLinksOf linked fresh n = (k : ℕ) (l : Link) → Contains (links_of fresh) (k, l) → HasCome linked n k

-- a site with its link, under new numbers
abbrev pub renumbered_install : Numbers → ℕ × Link → ℕ × Link
renumbered_install n row = (renumbered n.sites row.0, renumbered_link n row.1)

-- why an event that the old core accepts isn't carried over to a fresh one beside it: it may name what is gone, and does; or want of memory
abbrev pub IsFaultBeside : Event → CarryFault → Type 0
IsFaultBeside e Gone = may_be_gone e ≡ true
IsFaultBeside e (Refused r) = r ≡ Memory
