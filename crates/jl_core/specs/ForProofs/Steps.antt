-- What one accepted event does to the world, the links, their index and the log, and how many evaluations it takes. A means of proof.
use Rattle.std.specs.Prelude.{◌≡◌, ◌<◌, ◌≤◌, ◌+◌, ◌^◌, ℕ, true, not, List, [], ◌∷◌, filter, sum_by, length, Some, Ok}
use Rattle.jl_types.specs.declared.link.Link.{Link}
use Rattle.jl_types.specs.Events.Event.{Event}
use Rattle.jl_types.specs.declared.event.EventOf.TheVariants as variant
use Rattle.jl_types.specs.declared.event.Reply.{Reply}
use Rattle.jl_types.specs.Values.World.{World}
use Rattle.jl_types.specs.Linkage.Links.{scratch}
use Rattle.jl_types.specs.Events.Verdict as events
use Rattle.jl_types.specs.declared.key.Key.{Key}
use Rattle.jl_types.specs.Events.Retirement.{retires_site}
use Rattle.jl_types.specs.Events.Footprints as footprints
use Rattle.jl_types.specs.Events.Footprints.{most_for}
use Rattle.jl_relink.specs.Laws.{IsInOrder}
use Rattle.jl_cache.specs.Links.{link_at}
use Rattle.jl_deps.specs.declared.form.Rests.{Rests}
use Rattle.jl_deps.specs.Indexes.{AreRising, IsIndex, touched_by}
use Rattle.jl_events.specs.Changes.{defined_by, IsAcceptable, class_of}
use Rattle.jl_events.specs.Accepted.{Accepted, event_of}
use Rattle.jl_core.specs.ForProofs.Changes.{AreScratch, IsDone, retires_at}
use Rattle.jl_core.specs.ForProofs.Touched.{has}
use Rattle.jl_core.specs.Logs.{Entry}

-- Each link is the one from scratch, the index is that of the links, and the world came in order.
pub record IsSound (w : World) (links : List (ℕ × Link)) (index : List (ℕ × Rests)) : Type 0 where
  pub scratch : AreScratch w links
  pub indexed : IsIndex w (link_at links) index
  pub rising : AreRising index
  pub order : IsInOrder w

-- The accepted event with these keys led to the world from one in which all was sound.
pub record HasStepped (w : World) (keys : List Key) (told : Accepted) (links : List (ℕ × Link)) (index : List (ℕ × Rests)) : Type 0 where
  pub before : World
  pub event : Event
  pub accepted : IsAcceptable before event
  pub sound : IsSound before links index
  pub few : length before.places < 2 ^ 32
  pub step : w ≡ events.step before event
  pub keys_are : keys ≡ footprints.keys before event
  pub tells : event_of w.classes.rows told ≡ Some event
  pub class_is : class_of told ≡ defined_by before event

-- Sites that the event retires, each that has a link from scratch among them.
pub record AreRetired (w : World) (e : Event) (sites : List ℕ) : Type 0 where
  pub only : (s : ℕ) → has s sites ≡ true → footprints.retires w e s ≡ true
  pub linked : (s : ℕ) (l : Link) → scratch w s ≡ Ok l → footprints.retires w e s ≡ true → has s sites ≡ true

-- Sites that the event, by what the log keeps of it, has retired, each that had a link among them. The event has led to the world.
pub record AreGone (w : World) (told : Accepted) (links : List (ℕ × Link)) (sites : List ℕ) : Type 0 where
  pub only : (s : ℕ) → has s sites ≡ true → retires_at w told s ≡ true
  pub linked : (s : ℕ) (l : Link) → link_at links s ≡ Some l → retires_at w told s ≡ true → has s sites ≡ true

-- The event retires these loaders, and no others.
pub data IsRetirement : Accepted → List ℕ → Type 0 where
  of_one : (loader : ℕ) → IsRetirement (variant.Retire loader) (loader ∷ [])
  of_several : (loaders : List ℕ) → IsRetirement (variant.RetireAll loaders) loaders

-- what the index says of how many evaluations a retirement of the loaders takes: those of the sites that are left
abbrev pub most_left : World → List (ℕ × Rests) → Event → List ℕ → ℕ
most_left w index e loaders =
    sum_by (most_for (events.step w e)) (filter (λ s. not (retires_site w loaders s)) (touched_by index (footprints.keys w e)))

-- what the index says of how many evaluations the event takes once it was judged
abbrev pub most_to_settle : World → List (ℕ × Rests) → Event → ℕ
most_to_settle w index (variant.Retire loader) = most_left w index (variant.Retire loader) (loader ∷ [])
most_to_settle w index (variant.RetireAll loaders) = most_left w index (variant.RetireAll loaders) loaders
most_to_settle w index e = length (touched_by index (footprints.keys w e))

-- what the index says of how many evaluations the event takes once it was judged, by what the log keeps of the event, which has led to the
-- world
abbrev pub most_told : World → Accepted → List (ℕ × Rests) → List Key → ℕ
most_told w (variant.Retire loader) index keys = sum_by (most_for w) (filter (λ s. not (retires_site w (loader ∷ []) s)) (touched_by index keys))
most_told w (variant.RetireAll loaders) index keys = sum_by (most_for w) (filter (λ s. not (retires_site w loaders s)) (touched_by index keys))
most_told w _ index keys = length (touched_by index keys)

pub record IsStep (old new : World) (before after : List (ℕ × Link)) (index further : List (ℕ × Rests))
    (log more : List Entry) (e : Event) (work next : ℕ) (reply : Reply) : Type 0 where
  pub done : IsDone old new before after log more e reply
  pub indexed : IsIndex new (link_at after) further
  pub ticks : next ≤ work + most_to_settle old index e
