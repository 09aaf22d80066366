-- The ancestors of a class are those of its parents, and itself.
use Rattle.std.specs.Prelude.{◌≡◌, ℕ, ◌+◌, ◌<◌, ◌==◌, ◌||◌, Bool, true, false, List, [], ◌∷◌, ◌++◌, length, Contains, nat_eq}
use Rattle.std.specs.List.{AllByRecursion, list_any, flat_map, dedup}
use Rattle.std.specs.List.Sorted.{IsPermutation, IsSorted}
use Rattle.std.specs.Bool.{one_answer}
use Rattle.std.specs.Ordering.{nat_cmp}
use Rattle.std.proofs.Common.{refl, ap, sym, ◌∙◌, arith, eqb}
use Rattle.std.proofs.lemmas.Option.{slice_get_within}
use Rattle.std.proofs.lemmas.Cmp.{nat_eq_equiv}
use Rattle.std.proofs.lemmas.Bool.{or_right}
use Rattle.std.proofs.lemmas.Bool.Decides.{Decides-eqb}
use Rattle.std.proofs.lemmas.List.Folds.{list_any-append}
use Rattle.std.proofs.lemmas.List.Elements.{recursion_from_All}
use Rattle.std.proofs.lemmas.List.Sorted.{Contains-permutation, IsPermutation-sym}
use Rattle.std.proofs.lemmas.List.Kept.{Contains-dedup_nat, Contains-from_dedup}
use Rattle.std.proofs.lemmas.Map.Keys.{IsStrictlyIncreasing-dedup, sorted_from_strictly_increasing}
use Rattle.std.proofs.lemmas.Map.Views.{list_any-from_Contains, Contains-from_any}
use Rattle.jl_types.specs.Values.World.{Class, Classes}
use Rattle.jl_types.specs.Values.Ancestry.{parents, AreOrdered, is_ancestor, is_ancestor_within, ancestors}
use Rattle.jl_types.proofs.Ancestors.{ancestor_decides, above_is}
use Rattle.jl_types.proofs.Grown.{among_ancestors, above, old_within}
use Rattle.jl_types.proofs.Lists.{at_end, before_end}
use Rattle.jl_hierarchy.specs.ForProofs.Kept.{Rises}
use Rattle.jl_hierarchy.proofs.Rising.{has, one_rising, rising_of, filter_rises}

-- ---- sorted, each once

has_turned : (a : ℕ) (xs : List ℕ) → list_any (nat_eq a) xs ≡ has a xs
has_turned a [] = refl
has_turned a (x ∷ xs) = λ i. turned i || has_turned a xs i
  where
    turned : nat_eq a x ≡ (x == a)
    turned = one_answer (nat_eq a x) (x == a) (Decides-eqb a x) ((λ e. sym ((Decides-eqb x a).0 e)), (λ e. (Decides-eqb x a).1 (sym e)))

contains_has : (a : ℕ) (xs : List ℕ) → has a xs ≡ true → Contains xs a
contains_has a xs h = Contains-from_any (λ x y e. (Decides-eqb x y).0 e) a xs (has_turned a xs ∙ h)

has_contained : (a : ℕ) (xs : List ℕ) → Contains xs a → has a xs ≡ true
has_contained a xs h = sym (has_turned a xs) ∙ list_any-from_Contains nat_eq_equiv a xs h

-- sorting, and leaving each once, changes no membership
pub still_has : (xs ys : List ℕ) → IsPermutation xs ys → (a : ℕ) → has a (dedup eqb ys) ≡ has a xs
still_has xs ys p a = one_answer (has a (dedup eqb ys)) (has a xs) (λ e. e, λ e. e) (back, on)
  where
    on : has a (dedup eqb ys) ≡ true → has a xs ≡ true
    on h = has_contained a xs (Contains-permutation ys xs a (IsPermutation-sym xs ys p) (Contains-from_dedup eqb ys a (contains_has a (dedup eqb ys) h)))

    back : has a xs ≡ true → has a (dedup eqb ys) ≡ true
    back h = has_contained a (dedup eqb ys) (Contains-dedup_nat ys a (Contains-permutation xs ys a p (contains_has a xs h)))

pub each_once_rises : (ys : List ℕ) → IsSorted nat_cmp ys → Rises (dedup eqb ys)
each_once_rises ys s = rising_of (dedup eqb ys) (sorted_from_strictly_increasing (dedup eqb ys) (IsStrictlyIncreasing-dedup ys s))

-- ---- those of the parents

module _ (cs : Classes) (o : AreOrdered cs.rows) where
  -- a is an ancestor of one of these
  abbrev of_one : ℕ → List ℕ → Bool
  of_one a ps = list_any (λ p. is_ancestor cs a p) ps

  pub has_all : (a : ℕ) (ps : List ℕ) → has a (flat_map (ancestors cs.rows) ps) ≡ of_one a ps
  has_all a [] = refl
  has_all a (p ∷ ps) =
      list_any-append (λ k. k == a) (ancestors cs.rows p) (flat_map (ancestors cs.rows) ps)
      ∙ (λ i. sym (among_ancestors cs o a p) i || has_all a ps i)

  one_below : (a n : ℕ) (ps : List ℕ) → AllByRecursion (λ p. p < n) ps → of_one a ps ≡ true → a < n
  one_below a n [] h e = cc
  one_below a n (p ∷ ps) h e = by_test (is_ancestor cs a p) refl e (one_below a n ps h.1)
    where
      by_test : (b : Bool) → is_ancestor cs a p ≡ b → (b || of_one a ps) ≡ true → (of_one a ps ≡ true → a < n) → a < n
      by_test true is e rest = let le = above cs.rows o a ((ancestor_decides cs o a p).0 is) in let lt = h.0 in omega arith
      by_test false is e rest = rest e

all_of_has : (P : ℕ → Type 0) (xs : List ℕ) → ((a : ℕ) → has a xs ≡ true → P a) → AllByRecursion P xs
all_of_has P [] h = tt
all_of_has P (x ∷ xs) h =
    (h x (ap (λ (b : Bool). b || has x xs) (nat_eq_equiv.refl x)), all_of_has P xs (λ a e. h a (or_right (x == a) (has a xs) e)))

rises_end : (xs : List ℕ) (n : ℕ) → Rises xs → AllByRecursion (λ x. x < n) xs → Rises (xs ++ n ∷ [])
rises_end [] n r h = (tt, tt)
rises_end (x ∷ xs) n r h = (with_end x xs n r.0 h.0, rises_end xs n r.1 h.1)
  where
    with_end : (x : ℕ) (xs : List ℕ) (n : ℕ) → AllByRecursion (λ y. x < y) xs → x < n → AllByRecursion (λ y. x < y) (xs ++ n ∷ [])
    with_end x [] n h lt = (lt, tt)
    with_end x (y ∷ xs) n h lt = (h.0, with_end x xs n h.1 lt)

either_way : (a b : Bool) → (a || (b || false)) ≡ (b || a)
either_way true true = refl
either_way true false = refl
either_way false true = refl
either_way false false = refl

-- the class that comes next
module _ (cs : Classes) (row : Class) (o' : AreOrdered (cs.rows ++ row ∷ [])) where
  pub ordered : AreOrdered cs.rows
  ordered c r e = o' c r (before_end cs.rows row c (slice_get_within cs.rows c r e) ∙ e)

  abbrev next : ℕ
  next = length cs.rows

  abbrev more : Classes
  more = record cs { rows = cs.rows ++ row ∷ [] }

  pub low : AllByRecursion (λ p. p < length cs.rows) (parents row)
  low = recursion_from_All (λ p. p < next) (parents row) (o' next row (at_end cs.rows row))

  as_before : (a : ℕ) (ps : List ℕ) → AllByRecursion (λ p. p < length cs.rows) ps
      → list_any (λ p. is_ancestor_within (p + 1) more.rows a p) ps ≡ list_any (λ p. is_ancestor cs a p) ps
  as_before a [] h = refl
  as_before a (p ∷ ps) h = λ i. old_within cs.rows ordered row a (p + 1) p h.0 i || as_before a ps h.1 i

  ancestors_next : (a : ℕ) → is_ancestor more a next ≡ ((a == next) || of_one cs ordered a (parents row))
  ancestors_next a = above_is more.rows o' a next row (at_end cs.rows row) ∙ ap (λ (b : Bool). (a == next) || b) (as_before a (parents row) low)

  module _ (proper : List ℕ) (r : Rises proper) (h : (a : ℕ) → has a proper ≡ of_one cs ordered a (parents row)) where
    pub proper_below : AllByRecursion (λ a. a < next) proper
    proper_below = all_of_has (λ a. a < next) proper (λ a e. one_below cs ordered a next (parents row) low (sym (h a) ∙ e))

    same : (a : ℕ) → has a (proper ++ next ∷ []) ≡ has a (ancestors more.rows next)
    same a =
        list_any-append (λ k. k == a) proper (next ∷ [])
        ∙ (λ i. h a i || ((next == a) || false))
        ∙ either_way (of_one cs ordered a (parents row)) (next == a)
        ∙ ap (λ (b : Bool). b || of_one cs ordered a (parents row)) (nat_eq_equiv.symm next a)
        ∙ sym (ancestors_next a)
        ∙ among_ancestors more o' a next

    -- a rising list with the ancestors of the parents, and then the class itself, is the list of its ancestors
    pub listed_next : proper ++ next ∷ [] ≡ ancestors more.rows next
    listed_next =
        one_rising (proper ++ next ∷ []) (ancestors more.rows next) (rises_end proper next r proper_below)
        (filter_rises (λ a. is_ancestor_within (next + 1) more.rows a next) 0 (next + 1)) same
