-- What is found in a few links, which lists rise, and what an install leaves.
use Rattle.std.specs.Prelude.{◌≡◌, ℕ, ◌==◌, Bool, true, false, List, [], ◌∷◌, Some, None, refl, if◌then◌else◌}
use Rattle.std.proofs.Common.{arith, ap, ◌∙◌}
use Rattle.std.proofs.lemmas.Bool.Decides.{Decides-eqb}
use Rattle.jl_types.specs.declared.link.Link.{Link}
use Rattle.jl_types.specs.declared.link.Link.TheVariants.{Plain, Mega}
use Rattle.jl_cache.specs.Links.{link_at, AreRising, link_with}
use Rattle.jl_cache.specs.ForProofs.Sites.{HaveSites}
use Rattle.jl_types.proofs.BySite.{sites_rise, found_first}

abbrev plain : ℕ → Link
plain class = Plain (record { class = class; index = 0 })

-- ---- the links of sites 1 and 4

abbrev links : List (ℕ × Link)
links = (1, Mega) ∷ (4, plain 2) ∷ []

first_site : link_at links 1 ≡ Some Mega
first_site = refl

other_site : link_at links 4 ≡ Some (plain 2)
other_site = refl

site_without_link : link_at links 2 ≡ None
site_without_link = refl

-- ---- order

rising : AreRising links
rising = sites_rise ((4, plain 2) ∷ (1, Mega) ∷ [])

falling : ¬ AreRising ((4, Mega) ∷ (1, Mega) ∷ [])
falling h = let lt = h 0 1 (0, Mega) (omega arith) (omega arith) in omega arith

site_twice : ¬ AreRising ((1, Mega) ∷ (1, plain 2) ∷ [])
site_twice h = let lt = h 0 1 (0, Mega) (omega arith) (omega arith) in omega arith

-- ---- installed rows: the later one of a site counts, and a site without one keeps what it has

abbrev installed : List (ℕ × Link)
installed = (3, Mega) ∷ (4, plain 4) ∷ (3, plain 5) ∷ []

later_row : link_with installed (Some (plain 1)) 3 ≡ Some (plain 5)
later_row = refl

new_link : link_with installed None 4 ≡ Some (plain 4)
new_link = refl

kept_link : link_with installed (Some (plain 1)) 7 ≡ Some (plain 1)
kept_link = refl

kept_without : link_with installed None 7 ≡ None
kept_without = refl

-- ---- numbers of sites

no_links_are_past : HaveSites []
no_links_are_past s le = refl

last_site : HaveSites ((4294967295, Mega) ∷ [])
last_site s le = by_test (4294967295 == s) refl
  where
    by_test : (b : Bool) → (4294967295 == s) ≡ b → link_at ((4294967295, Mega) ∷ []) s ≡ None
    by_test true e = absurd (let same = (Decides-eqb 4294967295 s).0 e in omega (arith, same, le))
    by_test false e = found_first 4294967295 s Mega [] ∙ ap (λ (b : Bool). if b then Some Mega else None) e

past_the_last_site : ¬ HaveSites ((4294967296, Mega) ∷ [])
past_the_last_site h = let e = h 4294967296 (omega arith) in cc
