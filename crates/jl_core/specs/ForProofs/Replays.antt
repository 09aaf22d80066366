-- An instance that is one event behind another one, and what it does to catch up. A means of proof.
use Rattle.std.specs.Prelude.{◌≡◌, ◌+◌, ◌≤◌, ℕ, false, List, take, length, None, if◌then◌else◌}
use Rattle.jl_types.specs.declared.link.Link.{Link}
use Rattle.jl_types.specs.Events.Event.{Event}
use Rattle.jl_types.specs.Values.World.{World}
use Rattle.jl_types.specs.Linkage.Links.{scratch}
use Rattle.jl_types.specs.Events.History.{installs, kept}
use Rattle.jl_types.specs.Events.Footprints.{keys}
use Rattle.jl_relink.specs.Laws.{IsInOrder}
use Rattle.jl_cache.specs.Links.{link_at}
use Rattle.jl_deps.specs.declared.form.Rests.{Rests}
use Rattle.jl_deps.specs.Indexes.{AreRising, IsIndex, touched_by}
use Rattle.jl_events.specs.Accepted.{Accepted}
use Rattle.jl_events.specs.Changes.{IsNext}
use Rattle.jl_core.specs.ForProofs.Changes.{AreScratch, installs_at}
use Rattle.jl_core.specs.Logs.{Entry}
use Rattle.jl_core.specs.State.{State}
use Rattle.jl_core.specs.ForProofs.Touched.{has}

-- the first one has the events of the other, or all but the last one
abbrev pub IsBehind : State → State → Type 0
IsBehind core ahead = (core ≡ record ahead { log = take (length core.log) ahead.log }) × (length ahead.log ≤ length core.log + 1)

-- the event changes neither the link of site s nor what it rests on
abbrev pub IsUntouched : World → List (ℕ × Rests) → Event → ℕ → Type 0
IsUntouched w index e s = (has s (touched_by index (keys w e)) ≡ false) × (installs s e ≡ false)

-- if the entry's event installs nothing, the other's link of a site is the one's, but for those that the entry drops
abbrev pub AreDropped : Entry → List (ℕ × Link) → List (ℕ × Link) → Type 0
AreDropped entry links linked =
    (s : ℕ) → installs_at s entry.event ≡ false → (if has s entry.reply.dropped then None else link_at links s) ≡ link_at linked s

-- The event leads from the one world to the other, and from the one's links to the other's, and each index is that of the links.
pub record IsFurther (old ahead : World) (told : Accepted) (links linked : List (ℕ × Link)) (index further : List (ℕ × Rests)) : Type 0 where
  pub next : IsNext old ahead told
  pub were_scratch : AreScratch old links
  pub order : IsInOrder old
  pub rising : AreRising index
  pub indexed : IsIndex old (link_at links) index
  pub kept_so : (s : ℕ) → link_at linked s ≡ kept (installs s next.event) (link_at links s) (scratch ahead s)
  pub ahead_indexed : IsIndex ahead (link_at linked) further
