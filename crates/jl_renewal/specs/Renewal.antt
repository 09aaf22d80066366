-- The events by which a fresh core gets what stays of an old one: the loaders; the classes and delegations in the log's order; switch
-- points; call sites with their present targets, which may name methods of any class; places; bindings; and the links.
use Rattle.std.specs.Prelude.{◌≡◌, ◌≤◌, ◌⊎◌, ℕ, nat_lt, List, [], ◌∷◌, ◌++◌, map, filter_map, take, drop, length, Option, Some, None, option_map}
use Rattle.std.specs.Prelude.{option_and_then, option_to_list, slice_get, Contains, Result, Ok, Err, not, ◌==◌}
use Rattle.std.specs.Bool.{then_some}
use Rattle.std.specs.List.{range_with_len}
use Rattle.jl_types.specs.declared.limits.Limits.{Limits}
use Rattle.jl_types.specs.declared.ids.Place.{Place}
use Rattle.jl_types.specs.declared.link.Link.{Link}
use Rattle.jl_types.specs.declared.answer.Unlinked.{Unlinked}
use Rattle.jl_types.specs.declared.event.EventOf.TheVariants as event
use Rattle.jl_types.specs.declared.refusal.Refusal.{Refusal}
use Rattle.jl_types.specs.declared.refusal.Refusal.TheVariants.{Memory, SitesFull, LoadersFull, Define, CallSite}
use Rattle.jl_types.specs.declared.refusal.DefineFault.TheVariants as define
use Rattle.jl_types.specs.declared.refusal.CallSiteFault.TheVariants as fault
use Rattle.jl_types.specs.Values.World.{World, Classes, Sites, unreleased}
use Rattle.jl_types.specs.Values.Members.{lookup}
use Rattle.jl_types.specs.Linkage.Resolution.{first_of}
use Rattle.jl_types.specs.Linkage.Targets.{is_valid}
use Rattle.jl_types.specs.Linkage.Links.{scratch}
use Rattle.jl_types.specs.Events.Event.{Event}
use Rattle.jl_types.specs.Events.History.{world_after}
use Rattle.jl_core.specs.State.{State, events, world_of, links_of, AreAnswered}
use Rattle.jl_core.specs.Logs.{Entry, shown}
use Rattle.jl_renewal.specs.declared.released.Released.{Released}
use Rattle.jl_renewal.specs.Numbers.{Numbers, how_many, new_number, renumbered_target}
use Rattle.jl_renewal.specs.Staying.{numbers_of, staying_loaders, staying_classes, staying_sites, staying_call_sites, staying_switches}
use Rattle.jl_renewal.specs.Renewed.{renewed, renumbered_link}

-- ---- loaders and classes

-- a new loader for each that stays, but for loader 0, which is there
abbrev pub new_loaders : List (Option ℕ) → List Event
new_loaders numbers = filter_map (option_map (λ number. event.NewLoader)) (drop 1 numbers)

-- the loader that has defined the class which the loader finds under the name
abbrev pub definer : Classes → ℕ → List ℕ → Option ℕ
definer cs loader name = option_and_then (λ c. option_map (λ row. row.loader) (slice_get cs.rows c)) (lookup cs loader name)

-- the delegation of a loader that stays, as to what it finds under the name
abbrev pub delegation : Classes → Numbers → ℕ → List ℕ → Option Event
delegation cs n loader name = option_and_then
    (λ l. option_map (event.Delegate l name) (option_and_then (new_number n.loaders) (definer cs loader name)))
    (new_number n.loaders loader)

-- what a loader that stays has defined, and what it found through others, which the loader that has defined it gives
abbrev pub class_event : World → Numbers → Event → Option Event
class_event w n (event.Define loader file) = option_map (λ l. event.Define l file) (new_number n.loaders loader)
class_event w n (event.Delegate loader name to) = delegation w.classes n loader name
class_event w n _ = None

-- ---- switch points and call sites

abbrev pub new_switches : List (Option ℕ) → List Event
new_switches numbers = filter_map (option_map (λ number. event.NewSwitch)) numbers

abbrev pub invalid_point : Sites → Numbers → ℕ → Option ℕ
invalid_point sites n p = option_and_then (λ k. then_some (not (is_valid sites p)) k) (new_number n.switches p)

abbrev pub invalid_points : Sites → Numbers → List ℕ
invalid_points sites n = filter_map (invalid_point sites n) (range_with_len 0 (length sites.switches))

-- those that are invalid become so
abbrev pub invalidation : List ℕ → List Event
invalidation points = option_to_list (then_some (not (length points == 0)) (event.Invalidate points))

-- the call site, if it stays, with the target that it has now
abbrev pub new_call_site : Sites → Numbers → ℕ → Option Event
new_call_site sites n c = option_and_then
    (λ k. option_map (λ site. event.NewCallSite site.kind site.ty (renumbered_target n site.target)) (unreleased sites.call_sites c))
    (new_number n.call_sites c)

abbrev pub new_call_sites : Sites → Numbers → List Event
new_call_sites sites n = filter_map (new_call_site sites n) (range_with_len 0 (length sites.call_sites))

-- ---- places and bindings

abbrev pub request : Numbers → Place → Option Event
request n place = option_map (λ c. event.Request (record place { class = c })) (new_number n.classes place.class)

abbrev pub binding : Numbers → ℕ × ℕ → Option Event
binding n b = option_and_then (λ s. option_map (event.Bind s) (new_number n.call_sites b.1)) (new_number n.sites b.0)

-- ---- all of them but the links

abbrev pub site_events : World → Numbers → List Event
site_events w n =
    new_switches n.switches
    ++ (invalidation (invalid_points w.sites n)
    ++ (new_call_sites w.sites n
    ++ (filter_map (request n) w.places
    ++ filter_map (binding n) w.bindings)))

abbrev pub renewal_by : World → Numbers → List Event → List Event
renewal_by w n es = new_loaders n.loaders ++ (filter_map (class_event w n) es ++ site_events w n)

abbrev pub renewal : State → Released → List Event
renewal core released = renewal_by (world_of core) (numbers_of (world_of core) released) (events core)

-- ---- the links

abbrev pub row_of : ℕ → Result Link Unlinked → Option (ℕ × Link)
row_of s (Ok l) = Some (s, l)
row_of s (Err reason) = None

-- the site that had a link, under its new number, with its link from scratch in the fresh world
abbrev pub fresh_row : World → Numbers → ℕ × Link → Option (ℕ × Link)
fresh_row w n linked = option_and_then (λ s. row_of s (scratch w s)) (new_number n.sites linked.0)

abbrev pub fresh_rows : World → Numbers → List (ℕ × Link) → List (ℕ × Link)
fresh_rows w n linked = filter_map (fresh_row w n) linked

-- the rows in order, 256 at a time
abbrev pub AreBatches : List (List (ℕ × Link)) → List (ℕ × Link) → Type 0
AreBatches [] rows = rows ≡ []
AreBatches (batch ∷ batches) rows = (1 ≤ length rows) × (batch ≡ take 256 rows) × AreBatches batches (drop 256 rows)

-- ---- an old core as its log tells it

-- the core of these entries
abbrev pub logged : Limits → World → List Entry → State
logged limits w entries = record { limits = limits; log = shown w.classes.rows entries }

-- the world is the one after these entries, each of which was answered as those before it say
pub record IsPast (w : World) (entries : List Entry) : Type 0 where
  pub limits : Limits
  pub world : w ≡ world_of (logged limits w entries)
  pub answered : AreAnswered (logged limits w entries)

-- What an empty core becomes: it has accepted the events of the renewal but for the links, and has what stays.
pub record IsRefilled (w : World) (entries : List Entry) (released : Released) (n : Numbers) (before after : State) : Type 0 where
  pub numbers : n ≡ numbers_of w released
  pub limit : after.limits ≡ before.limits
  pub events : events after ≡ renewal_by w (numbers_of w released) (events (logged before.limits w entries))
  pub world : world_of after ≡ renewed w released

-- ---- the fresh core

-- What is made of the old core: a fresh one that has accepted these events and no others, and the numbers.
pub record IsRenewal (old : State) (released : Released) (limits : Limits) (made : State × Numbers) : Type 0 where
  pub numbers : made.1 ≡ numbers_of (world_of old) released
  pub limit : made.0.limits ≡ limits
  pub batches : List (List (ℕ × Link))
  pub are_batches : AreBatches batches (fresh_rows (world_after (renewal old released)) (numbers_of (world_of old) released) (links_of old))
  pub events : events made.0 ≡ renewal old released ++ map event.Install batches
  -- what there is to link there is what stays
  pub world : world_of made.0 ≡ renewed (world_of old) released

-- what stays is more than a fresh core of these limits may have: the first refusal
abbrev pub renewal_fault : Limits → World → Released → Option Refusal
renewal_fault limits w released = first_of (
    then_some (nat_lt limits.sites (how_many (staying_sites w.classes w.places))) SitesFull
    ∷ then_some (nat_lt limits.loaders (how_many (staying_loaders w.classes))) LoadersFull
    ∷ then_some (nat_lt limits.classes (how_many (staying_classes w.classes))) (Define define.Full)
    ∷ then_some (nat_lt limits.call_sites (how_many (staying_call_sites w released))) (CallSite fault.Full)
    ∷ then_some (nat_lt limits.switches (how_many (staying_switches w released))) (CallSite fault.Full)
    ∷ [])

-- why there is none: more stays than it may have, or want of memory
abbrev pub IsRefusedRenewal : Limits → World → Released → Refusal → Type 0
IsRefusedRenewal limits w released r = (renewal_fault limits w released ≡ Some r) ⊎ (r ≡ Memory)

-- ---- its links

-- A site that had one of these links has this number now, and l is that link under new numbers.
pub record CameFrom (linked : List (ℕ × Link)) (n : Numbers) (k : ℕ) (l : Link) : Type 0 where
  pub site : ℕ
  pub link : Link
  pub had : Contains linked (site, link)
  pub has : new_number n.sites site ≡ Some k
  pub same : l ≡ renumbered_link n link
