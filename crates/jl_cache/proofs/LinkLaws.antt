-- Links by site, row by row.
use Rattle.std.specs.Prelude.{◌≡◌, ℕ, ◌==◌, Bool, true, false, List, [], ◌∷◌, ◌++◌}
use Rattle.std.specs.Prelude.{◌||◌, Option, Some, None, if◌then◌else◌}
use Rattle.std.specs.List.{list_any}
use Rattle.std.proofs.lemmas.List.Folds.{list_any-append}
use Rattle.std.proofs.Common.{refl, ap, sym, ◌∙◌}
use Rattle.jl_types.specs.declared.link.Link.{Link}
use Rattle.jl_cache.specs.Links.{link_with}

-- ---- rows, one after another

pub link_more : (rows : List (ℕ × Link)) (row : ℕ × Link) (before : Option Link) (s : ℕ)
    → link_with (rows ++ row ∷ []) before s ≡ (if row.0 == s then Some row.1 else link_with rows before s)
link_more [] row before s = refl
link_more (r ∷ rows) row before s = link_more rows row (if r.0 == s then Some r.1 else before) s

-- ---- sites, one after another

-- one site more whose link goes
pub gone_more : (gone : List ℕ) (site : ℕ) (before : Option Link) (s : ℕ)
    → (if site == s then None else if list_any (λ n. n == s) gone then None else before) ≡ (if list_any (λ n. n == s) (gone ++ site ∷ []) then None else before)
gone_more gone site before s =
    by_tests (list_any (λ n. n == s) gone) (site == s)
    ∙ ap (λ (b : Bool). if b then None else before) (sym (list_any-append (λ n. n == s) gone (site ∷ [])))
  where
    by_tests : (b d : Bool) → (if d then None else if b then None else before) ≡ (if b || (d || false) then None else before)
    by_tests true true = refl
    by_tests true false = refl
    by_tests false true = refl
    by_tests false false = refl
