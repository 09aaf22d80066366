-- The sites that an event may change. A means of proof.
use Rattle.std.specs.Prelude.{◌≡◌, ◌==◌, ℕ, Bool, List, ◌++◌, map, Option, option_map}
use Rattle.std.specs.List.{list_any}
use Rattle.jl_types.specs.declared.link.Link.{Link}
use Rattle.jl_types.specs.Events.Entries.{change}
use Rattle.jl_cache.specs.Links.{link_at}
use Rattle.jl_hierarchy.specs.ForProofs.Kept.{Rises}
use Rattle.jl_events.specs.Accepted.{Accepted}
use Rattle.jl_types.specs.declared.event.EventOf.TheVariants as event

-- those that it drops, and those that it installs
abbrev pub touched_by : Accepted → List ℕ → List ℕ
touched_by (event.Install rows) dropped = dropped ++ map (λ row. row.0) rows
touched_by _ dropped = dropped

abbrev pub has : ℕ → List ℕ → Bool
has s sites = list_any (λ k. k == s) sites

-- the second list has the sites of the first one, each once, rising
pub record AreTouched (sites rising : List ℕ) : Type 0 where
  pub rises : Rises rising
  pub same : (s : ℕ) → has s rising ≡ has s sites

-- the site's slot, if its links differ
abbrev pub slot_at : List (ℕ × Link) → List (ℕ × Link) → ℕ → Option (ℕ × Option Link)
slot_at before after s = option_map (λ slot. (s, slot)) (change (link_at before s) (link_at after s))
