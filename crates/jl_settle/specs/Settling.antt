-- What is left of the links and the index once an event has changed the world.
use Rattle.std.specs.Prelude.{◌≡◌, ◌==◌, ℕ, Bool, false, length, ◌&&◌, List, Option, Some, None, Ok, IsOk, is_some, is_none, ⊤}
use Rattle.std.specs.List.{list_any}
use Rattle.jl_types.specs.declared.limits.Limits.{Limits}
use Rattle.jl_types.specs.Events.Event.{Event}
use Rattle.jl_types.specs.declared.event.EventOf.TheVariants as event
use Rattle.jl_types.specs.declared.link.Link.{Link}
use Rattle.jl_types.specs.Values.World.{World}
use Rattle.jl_types.specs.Linkage.Links.{scratch}
use Rattle.jl_types.specs.Events.Verdict.{verdict, step}
use Rattle.jl_types.specs.Events.History.{kept}
use Rattle.jl_types.specs.declared.key.Key.{Key}
use Rattle.jl_types.specs.Events.Footprints as footprints
use Rattle.jl_types.specs.Events.Footprints.{most_for}
use Rattle.jl_relink.specs.Laws.{IsInOrder}
use Rattle.jl_relink.specs.Receivers.{TellsStay}
use Rattle.jl_deps.specs.declared.form.Rests.{Rests}
use Rattle.jl_deps.specs.Forms.{rests}
use Rattle.jl_deps.specs.Indexes.{rests_at, IsIndex}

-- the site's link, if it is the one from scratch
abbrev pub kept_at : World → (ℕ → Option Link) → ℕ → Option Link
kept_at w links s = kept false (links s) (scratch w s)

-- the site had a link that isn't the one from scratch any more
abbrev pub goes : World → (ℕ → Option Link) → ℕ → Bool
goes w links s = is_some (links s) && is_none (kept_at w links s)

-- the class that the event defines
abbrev pub defined_by : World → Event → Option ℕ
defined_by w (event.Define loader file) = Some (length w.classes.rows)
defined_by w _ = None

-- An accepted event with these keys led to the world. It defined this class or none, and retired no site that has a link. Before it each
-- link was the one from scratch, the index that of the links, and the world in order.
pub record HasChanged (world : World) (keys : List Key) (defined : Option ℕ) (links : ℕ → Option Link) (index : List (ℕ × Rests)) : Type 0 where
  pub before : World
  pub event : Event
  pub step : world ≡ step before event
  pub order : IsInOrder before
  pub accepted : (limits : Limits) × IsOk (verdict limits before event)
  pub left : (s : ℕ) (l : Link) → links s ≡ Some l → footprints.retires before event s ≡ false
  pub keys_are : keys ≡ footprints.keys before event
  pub defined_is : defined ≡ defined_by before event
  pub scratch : (s : ℕ) (l : Link) → links s ≡ Some l → scratch before s ≡ Ok l
  pub index_is : IsIndex before links index

-- After an event that installed links at these sites, or at none, a link is there if it is the one from scratch and was there before or is
-- installed. The index is that of the links, and these are the sites whose links went.
pub record AreUpToDate (world : World) (installs : ℕ → Bool) (before after : ℕ → Option Link) (further : List (ℕ × Rests)) (gone : List ℕ) : Type 0 where
  pub links : (s : ℕ) → after s ≡ kept (installs s) (before s) (scratch world s)
  pub index : IsIndex world after further
  pub lost : (s : ℕ) → list_any (λ t. t == s) gone ≡ (is_some (before s) && is_none (after s))

-- ---- a touched site

-- The site has a link, and the receiver x tells whether it stays. The index has what it rests on.
pub record IsTold (w : World) (x : ℕ) (links : ℕ → Option Link) (index : List (ℕ × Rests)) (s : ℕ) : Type 0 where
  pub link : Link
  pub is : links s ≡ Some link
  pub rests_on : rests_at index s ≡ Some (rests w s)
  pub told : (stays : Bool) → TellsStay w s link x stays → stays ≡ is_some (kept false (Some link) (scratch w s))

-- whether its link stays is known: by the class that was defined, or by the link from scratch
abbrev pub MayBeAsked : World → Option ℕ → (ℕ → Option Link) → List (ℕ × Rests) → ℕ → Type 0
MayBeAsked w (Some x) links index s = IsTold w x links index s
MayBeAsked w None links index s = ⊤

-- how many evaluations that takes
abbrev pub most_asked : World → Option ℕ → ℕ → ℕ
most_asked w (Some x) s = 1
most_asked w None s = most_for w s
