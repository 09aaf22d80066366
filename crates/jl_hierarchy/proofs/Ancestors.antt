-- A search in the kept ancestors finds an ancestor.
use Rattle.std.specs.Prelude.{◌≡◌, ℕ, ◌+◌, List, Result, Ok, Err}
use Rattle.std.specs.Result.{is_ok}
use Rattle.std.specs.List.Sorted.{IsBinarySearchResult}
use Rattle.std.specs.Ordering.{nat_cmp}
use Rattle.std.proofs.Common.{ap, sym, subst, ◌∙◌}
use Rattle.std.proofs.lemmas.List.Sorted.{searched}
use Rattle.jl_types.specs.Values.World.{Classes}
use Rattle.jl_types.specs.Values.Ancestry.{AreOrdered, ancestors, is_ancestor, is_ancestor_within}
use Rattle.jl_types.proofs.Grown.{among_ancestors}
use Rattle.jl_hierarchy.specs.ForProofs.Kept.{Rises}
use Rattle.jl_hierarchy.proofs.Rising.{has, filter_rises, rising_at, has_at, split_none}

-- a search in a rising list finds the numbers that are there
pub found_if_there : (xs : List ℕ) (x : ℕ) (r : Result ℕ ℕ) → Rises xs → IsBinarySearchResult (λ y. nat_cmp y x) xs r → is_ok r ≡ has x xs
found_if_there xs x (Ok i) rises h = let at = searched xs x (Ok i) h (rising_at xs rises) in sym (has_at x xs i at.0 at.1)
found_if_there xs x (Err i) rises h = let at = searched xs x (Err i) h (rising_at xs rises) in sym (split_none x xs i at.1 at.2)

pub searched_ancestor : (cs : Classes) → AreOrdered cs.rows → (a c : ℕ) (r : Result ℕ ℕ) (xs : List ℕ) → xs ≡ ancestors cs.rows c
    → IsBinarySearchResult (λ y. nat_cmp y a) xs r → is_ok r ≡ is_ancestor cs a c
searched_ancestor cs o a c r xs e h =
    let rises = subst Rises (sym e) (filter_rises (λ k. is_ancestor_within (c + 1) cs.rows k c) 0 (c + 1)) in
    found_if_there xs a r rises h ∙ ap (has a) e ∙ sym (among_ancestors cs o a c)
