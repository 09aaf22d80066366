-- An index as a list of sites and their footprints.
use Rattle.std.specs.Prelude.{◌≡◌, ℕ, ◌<◌, ◌==◌, ◌&&◌, ◌||◌, Bool, true, false, List, map, filter, find, Option, option_map, AllPairs}
use Rattle.std.specs.List.{list_any}
use Rattle.std.specs.Option.{option_map_or}
use Rattle.jl_types.specs.Events.Event.{Event}
use Rattle.jl_types.specs.declared.link.Link.{Link}
use Rattle.jl_types.specs.Values.World.{World}
use Rattle.jl_types.specs.Linkage.Links.{scratch}
use Rattle.jl_types.specs.Events.Verdict.{step}
use Rattle.jl_types.specs.Events.History.{kept}
use Rattle.jl_types.specs.declared.key.Key.{Key}
use Rattle.jl_types.specs.Events.Footprints.{meets}
use Rattle.jl_hierarchy.specs.ForProofs.Kept.{Rises}
use Rattle.jl_deps.specs.declared.form.Form.{Form}
use Rattle.jl_deps.specs.declared.form.Rests.{Rests}
use Rattle.jl_deps.specs.contracts.form.FormPartialEq.TheImpl as of_forms
use Rattle.jl_deps.specs.Forms.{selects, rests}
use Rattle.jl_deps.specs.Ways.{has}

-- what the site's link rests on, with its form
abbrev pub rests_at : List (ℕ × Rests) → ℕ → Option Rests
rests_at index s = option_map (λ row. row.1) (find (λ row. row.0 == s) index)

-- each site stands once, by rising number
abbrev pub AreRising : List (ℕ × Rests) → Type 0
AreRising index = AllPairs (λ a b. a.0 < b.0) index

-- the sites whose footprints meet the keys, rising
abbrev pub touched_by : List (ℕ × Rests) → List Key → List ℕ
touched_by index keys = map (λ row. row.0) (filter (λ row. meets row.1.footprint keys) index)

-- the derived `==` of forms
abbrev pub form_eq : Form → Form → Bool
form_eq = (of_forms.ghosts).eq

-- sites s and t select by one form, and rest on one key
abbrev pub are_together : List (ℕ × Rests) → ℕ → ℕ → Bool
are_together index s t = option_map_or
    (λ r. selects r.form && option_map_or (λ q. form_eq q.form r.form && meets r.footprint q.footprint) (rests_at index s) false)
    (rests_at index t) false

-- one of the sites is s, or together with it
abbrev pub is_asked : List (ℕ × Rests) → List ℕ → ℕ → Bool
is_asked index sites s = list_any (λ t. (t == s) || are_together index s t) sites

-- The sites are some of those whose footprints meet the keys, rising, and each such site is one of them or together with one.
pub record AreAsked (index : List (ℕ × Rests)) (keys : List Key) (sites : List ℕ) : Type 0 where
  pub touched : (s : ℕ) → has s sites ≡ true → has s (touched_by index keys) ≡ true
  pub all : (s : ℕ) → has s (touched_by index keys) ≡ true → is_asked index sites s ≡ true
  pub rising : Rises sites

-- ---- the index of installed links

-- what the site rests on, with its form, if it has a link
abbrev pub rests_if : World → ℕ → Option Link → Option Rests
rests_if w s link = option_map (λ l. rests w s) link

-- the index has the footprint and the form of each site that has a link, and nothing else
abbrev pub IsIndex : World → (ℕ → Option Link) → List (ℕ × Rests) → Type 0
IsIndex w links index = (s : ℕ) → rests_at index s ≡ rests_if w s (links s)

-- after the event the site has the link that it had, if any, and the link rests on what it rested on
pub record StaysIndexed (w : World) (e : Event) (links : ℕ → Option Link) (index : List (ℕ × Rests)) (s : ℕ) : Type 0 where
  pub link : kept false (links s) (scratch (step w e) s) ≡ links s
  pub rests_on : rests_if (step w e) s (links s) ≡ rests_at index s
