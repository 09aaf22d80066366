-- What is found among invocations that are kept.
use Rattle.std.proofs.Common.{◌≡◌, ℕ, ◌-◌, Bool, true, false, cond, List, [], ◌∷◌, map, Some, refl, sym, ap, subst, ◌∙◌}
use Rattle.std.specs.Prelude.{option_map, find, take, drop, slice_range, ◌==◌}
use Rattle.std.specs.List.{list_all}
use Rattle.std.proofs.lemmas.List.Folds.{list_all-append}
use Rattle.std.proofs.lemmas.List.{take-append-drop}
use Rattle.std.proofs.lemmas.Bool.{and_parts}
use Rattle.jl_class.specs.declared.site.KeptSite.{KeptSite}
use Rattle.jl_class.specs.Kept.{is_named, site_in}
use Rattle.jl_pool.specs.Pools.{Pool}

-- ---- the first one at a place

pub found_in : (pool : Pool) (kept : List KeptSite) (pc : ℕ) → find (λ site. site.pc == pc) (map (site_in pool) kept) ≡ option_map (site_in pool)
    (find (λ site. site.pc == pc) kept)
found_in pool [] pc = refl
found_in pool (s ∷ kept) pc = by (s.pc == pc) (found_in pool kept pc) where
  by : (here : Bool) → find (λ site. site.pc == pc) (map (site_in pool) kept) ≡ option_map (site_in pool) (find (λ site. site.pc == pc) kept)
      → cond here (Some (site_in pool s)) (find (λ site. site.pc == pc) (map (site_in pool) kept)) ≡ option_map (site_in pool)
      (cond here (Some s) (find (λ site. site.pc == pc) kept))
  by true e = refl
  by false e = e

pub found_named : (pool : Pool) (kept : List KeptSite) (pc : ℕ) (found : KeptSite) → list_all (is_named pool) kept ≡ true
    → find (λ site. site.pc == pc) kept ≡ Some found
    → is_named pool found ≡ true
found_named pool [] pc found h e = absurd cc
found_named pool (s ∷ kept) pc found h e = by (s.pc == pc) (and_parts (is_named pool s) (list_all (is_named pool) kept) h)
    (found_named pool kept pc found) e where
      by : (here : Bool) → (is_named pool s ≡ true) × (list_all (is_named pool) kept ≡ true)
          → (list_all (is_named pool) kept ≡ true → find (λ site. site.pc == pc) kept ≡ Some found → is_named pool found ≡ true)
          → cond here (Some s) (find (λ site. site.pc == pc) kept) ≡ Some found → is_named pool found ≡ true
      by true h later e = (let same : s ≡ found = cc in subst (λ (x : KeptSite). is_named pool x ≡ true) same h.0)
      by false h later e = later h.1 e

-- ---- a range

-- the invocations of a range name something if all do
pub named_range : (p : Pool) (sites : List KeptSite) (from to : ℕ) → list_all (is_named p) sites ≡ true
    → list_all (is_named p) (slice_range sites from to) ≡ true
named_range p sites from to h = (halves (to - from) (drop from sites) (halves from sites h).1).0 where
  halves : (n : ℕ) (l : List KeptSite) → list_all (is_named p) l ≡ true → (list_all (is_named p) (take n l) ≡ true) × (list_all (is_named p) (drop n l) ≡ true)
  halves n l all =
      and_parts (list_all (is_named p) (take n l)) (list_all (is_named p) (drop n l))
      (sym (list_all-append (is_named p) (take n l) (drop n l)) ∙ ap (λ (x : List KeptSite). list_all (is_named p) x) (take-append-drop n l) ∙ all)
