-- From what was added to the fresh core to what was made of the old one.
use Rattle.std.specs.Prelude.{◌≡◌, ◌<◌, ℕ, AllPairs, fold, List, [], ◌∷◌, ◌++◌, map, filter_map, Option, Some, None, option_map, option_and_then}
use Rattle.std.specs.List.{cons_option}
use Rattle.std.proofs.Common.{refl, sym, ap, subst, ◌∙◌}
use Rattle.jl_types.specs.declared.limits.Limits.{Limits}
use Rattle.jl_types.specs.declared.event.EventOf.TheVariants as event
use Rattle.jl_types.specs.declared.event.Reply.{Reply}
use Rattle.jl_types.specs.declared.link.Link.{Link}
use Rattle.jl_types.specs.Events.Event.{Event}
use Rattle.jl_types.specs.Values.World.{World, nothing_yet}
use Rattle.jl_types.specs.Events.Verdict.{step}
use Rattle.jl_types.specs.Events.History.{world_after}
use Rattle.jl_types.proofs.InstalledLinks.{links_rise}
use Rattle.jl_hierarchy.specs.Constancy.{AreInOrder, IsClosed}
use Rattle.jl_core.specs.State.{State, empty_core, events, world_of, links_of, AreAnswered}
use Rattle.jl_core.specs.Logs.{Entry, shown}
use Rattle.jl_events.specs.Accepted.{event_of}
use Rattle.jl_renewal.specs.declared.released.Released.{Released}
use Rattle.jl_renewal.specs.Numbers.{Numbers}
use Rattle.jl_renewal.specs.Staying.{numbers_of, staying_sites}
use Rattle.jl_renewal.specs.Renewal.{class_event, new_loaders, site_events, renewal, renewal_by, renewal_fault, fresh_rows, AreBatches, IsRenewal, IsPast}
use Rattle.jl_renewal.specs.Renewal.{IsRefilled, logged}
use Rattle.jl_renewal.specs.Renewed.{renewed}
use Rattle.jl_renewal.specs.Told.{told_events, told_renewal}
use Rattle.jl_renewal.specs.Adds.{MayAdd, AreFresh, Adds, Installs}
use Rattle.jl_renewal.proofs.Phases.{Leads}
use Rattle.jl_renewal.proofs.FollowLaws.{world_added}
use Rattle.jl_renewal.proofs.InstallLaws.{rows_fresh}
use Rattle.jl_renewal.proofs.LinkLaws.{same_world}
use Rattle.jl_renewal.proofs.RenewalPhases.{all_accepted, renewal_leads}
use Rattle.jl_renewal.proofs.RoomLaws.{has_room}

-- what the entries are told as is what the events that they tell are told as
pub told_are_events : (w : World) (n : Numbers) (entries : List Entry)
    → told_events w n entries ≡ filter_map (class_event w n) (map (λ (e : Event × Reply). e.0) (shown w.classes.rows entries))
told_are_events w n [] = refl
told_are_events w n (entry ∷ entries) =
    one (class_event w n) (event_of w.classes.rows entry.event) entry.reply (told_events w n entries) (shown w.classes.rows entries)
    (told_are_events w n entries)
  where
    one : (f : Event → Option Event) (o : Option Event) (reply : Reply) (made : List Event) (rest : List (Event × Reply))
        → made ≡ filter_map f (map (λ (e : Event × Reply). e.0) rest)
        → cons_option (option_and_then f o) made
        ≡ filter_map f (map (λ (e : Event × Reply). e.0) (cons_option (option_map (λ e. (e, reply)) o) rest))
    one f None reply made rest e = e
    one f (Some x) reply made rest e = ap (cons_option (f x)) e

-- what the old core, its world and entries, the numbers and the fresh core are
pub record IsBegun (old : State) (released : Released) (limits : Limits) (w : World) (entries : List Entry) (n : Numbers) (fresh : State) : Type 0 where
  pub world : w ≡ world_of old
  pub log : shown (world_of old).classes.rows entries ≡ old.log
  pub answered : AreAnswered old
  pub closed : IsClosed (world_of old).classes
  pub fits : renewal_fault limits (world_of old) released ≡ None
  pub numbers : n ≡ numbers_of (world_of old) released
  pub empty : fresh ≡ empty_core limits

module _ (old : State) (released : Released) (limits : Limits) (w : World) (entries : List Entry) (n : Numbers) (fresh : State)
    (begun : IsBegun old released limits w entries n fresh) where
  leads : Leads limits nothing_yet (renewal old released) (renewed (world_of old) released)
  leads = renewal_leads old released (all_accepted old begun.answered) begun.closed limits (has_room limits (world_of old) released begun.fits)

  told_is : told_renewal w n entries ≡ renewal old released
  told_is =
      (λ i. told_renewal (begun.world i) (begun.numbers i) entries)
      ∙ ap (λ (es : List Event). new_loaders m.loaders ++ (es ++ site_events (world_of old) m))
      (told_are_events (world_of old) m entries
      ∙ ap (λ (log : List (Event × Reply)). filter_map (class_event (world_of old) m) (map (λ (x : Event × Reply). x.0) log)) begun.log)
    where
      m : Numbers
      m = numbers_of (world_of old) released

  -- none of them is refused
  pub may_renew : MayAdd (told_renewal w n entries) fresh
  may_renew =
      subst (λ (es : List Event). MayAdd es fresh) (sym told_is)
      (subst (λ (core : State). MayAdd (renewal old released) core) (sym begun.empty) leads.follow)

  module _ (next : State) (added : Adds (told_renewal w n entries) fresh next) where
    pub next_events : events next ≡ renewal old released
    next_events = added.events ∙ (ap (λ (core : State). events core ++ told_renewal w n entries) begun.empty ∙ told_is)

    pub next_world : world_of next ≡ renewed (world_of old) released
    next_world =
        world_added (told_renewal w n entries) fresh next added
        ∙ ((λ i. fold step (world_of (begun.empty i)) (told_is i)) ∙ leads.after)

-- ---- from the entries of a log

module _ (w : World) (entries : List Entry) (past : IsPast w entries) where
  abbrev old : State
  old = logged past.limits w entries

  -- from what is known of the old core's world as it was lent
  pub begun_by : (released : Released) (limits : Limits) (inside : World) (n : Numbers) (fresh : State) → inside ≡ w → AreInOrder inside.classes
      → renewal_fault limits w released ≡ None → n ≡ numbers_of w released → fresh ≡ empty_core limits
      → IsBegun old released limits w entries n fresh
  begun_by released limits inside n fresh view order fits numbers empty = record {
    world = past.world;
    log = λ i. shown (sym past.world i).classes.rows entries;
    answered = past.answered;
    closed = subst (λ (v : World). IsClosed v.classes) (view ∙ past.world) order.closed;
    fits = subst (λ (v : World). renewal_fault limits v released ≡ None) past.world fits;
    numbers = numbers ∙ ap (λ (v : World). numbers_of v released) past.world;
    empty = empty;
  }

  pub is_refilled : (released : Released) (limits : Limits) (n : Numbers) (fresh next : State) → n ≡ numbers_of w released
      → IsBegun old released limits w entries n fresh → Adds (told_renewal w n entries) fresh next → IsRefilled w entries released n fresh next
  is_refilled released limits n fresh next numbers begun added = record {
    numbers = numbers;
    limit = added.limit;
    events = next_events old released limits w entries n fresh begun next added
        ∙ (λ i. renewal_by (sym past.world i) (numbers_of (sym past.world i) released) (events old));
    world = next_world old released limits w entries n fresh begun next added ∙ ap (λ (v : World). renewed v released) (sym past.world);
  }

-- ---- of a core

-- a core's world and log are a past
pub past_of : (core : State) (w : World) (entries : List Entry) → w ≡ world_of core → shown (world_of core).classes.rows entries ≡ core.log
    → AreAnswered core → IsPast w entries
past_of core w entries world log answered = record {
  limits = core.limits;
  world = world ∙ ap world_of (sym same);
  answered = subst AreAnswered (sym same) answered;
}
  where
    same : logged core.limits w entries ≡ core
    same = λ i. record { limits = core.limits; log = ((λ j. shown (world j).classes.rows entries) ∙ log) i }

-- the rows are links from scratch there
pub rows_may : (core : State) (released : Released) (n : Numbers) (next : State) (rows linked : List (ℕ × Link)) → n ≡ numbers_of (world_of core) released
    → rows ≡ fresh_rows (world_of next) n linked → linked ≡ links_of core → AreFresh (world_of next) rows
rows_may core released n next rows linked numbers are is =
    subst (λ (xs : List (ℕ × Link)). AreFresh (world_of next) xs) (sym are)
    (rows_fresh (world_of next) n (staying_sites (world_of core).classes (world_of core).places) (ap (λ (m : Numbers). m.sites) numbers) linked
    (subst (λ (xs : List (ℕ × Link)). AllPairs (λ a b. a.0 < b.0) xs) (sym is) (links_rise (events core))))

-- with the links it is what is made of the old core
pub is_renewal : (core : State) (released : Released) (limits : Limits) (w : World) (entries : List Entry) (n : Numbers) (fresh next last : State)
    (rows linked : List (ℕ × Link)) → w ≡ world_of core → shown (world_of core).classes.rows entries ≡ core.log → fresh ≡ empty_core limits
    → IsRefilled w entries released n fresh next → rows ≡ fresh_rows (world_of next) n linked → linked ≡ links_of core → Installs rows next last
    → IsRenewal core released limits (last, n)
is_renewal core released limits w entries n fresh next last rows linked world log empty refilled are is installed = record {
  numbers = numbers;
  limit = installed.adds.limit ∙ (refilled.limit ∙ ap (λ (state : State). state.limits) empty);
  batches = installed.batches;
  are_batches = subst (λ (xs : List (ℕ × Link)). AreBatches installed.batches xs)
      (are ∙ (λ i. fresh_rows (ap world_after next_is i) (numbers i) (is i))) installed.are_batches;
  events = all_events;
  world = ap world_after all_events ∙ (same_world (renewal core released) installed.batches ∙ (sym (ap world_after next_is)
      ∙ (refilled.world ∙ ap (λ (v : World). renewed v released) world)));
}
  where
    numbers : n ≡ numbers_of (world_of core) released
    numbers = refilled.numbers ∙ ap (λ (v : World). numbers_of v released) world

    next_is : events next ≡ renewal core released
    next_is =
        refilled.events
        ∙ (λ i. renewal_by (world i) (numbers_of (world i) released)
        (map (λ (x : Event × Reply). x.0) (((λ j. shown (world j).classes.rows entries) ∙ log) i)))

    all_events : events last ≡ renewal core released ++ map event.Install installed.batches
    all_events = installed.adds.events ∙ ap (λ (es : List Event). es ++ map event.Install installed.batches) next_is
