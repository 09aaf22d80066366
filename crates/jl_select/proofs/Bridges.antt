-- The walk from a class up to another one, where parents come first.
use Rattle.std.specs.Prelude.{◌≡◌, ℕ, zero, suc, ◌+◌, ◌<◌, ◌==◌, ◌⊎◌, Bool, true, false, not, ◌&&◌, ◌||◌, List, [], ◌∷◌, drop, slice_get, Option}
use Rattle.std.specs.Prelude.{Some, None, option_and_then, IfSome, length, if◌then◌else◌}
use Rattle.std.specs.List.{list_any}
use Rattle.std.specs.Option.{option_map_or}
use Rattle.std.proofs.Common.{refl, ap, sym, ◌∙◌, arith, add-one, inl, inr}
use Rattle.std.proofs.lemmas.Bool.Decides.{Decides-eqb}
use Rattle.std.proofs.lemmas.Bool.{or_right, or_left, or_cases, and_parts, and_from, both_ways, not-true}
use Rattle.std.proofs.lemmas.Cmp.{nat_eq_equiv}
use Rattle.std.proofs.lemmas.Option.{slice_get_within}
use Rattle.jl_class.specs.Class.{Method}
use Rattle.jl_types.specs.Values.World.{Class, Classes}
use Rattle.jl_types.specs.Values.Ancestry.{superclasses, superclass_of, is_subclass, is_proper_subclass, AreOrdered}
use Rattle.jl_types.proofs.Lists.{left_at, none_left}
use Rattle.jl_types.proofs.Ancestors.{subclass_above, superclasses_is}
use Rattle.jl_types.proofs.Walks.{proper_onward}
use Rattle.jl_hierarchy.proofs.Chains.{next_below, chain_above, chain_there, is_itself}
use Rattle.jl_select.specs.ForProofs.Walks.{above, bridged_before}

differ : (a b : ℕ) → b < a → not (a == b) ≡ true
differ a b lt = by_test (a == b) refl
  where
    by_test : (t : Bool) → (a == b) ≡ t → not t ≡ true
    by_test true e = absurd (let same : a ≡ b = (Decides-eqb a b).0 e in omega arith)
    by_test false e = refl

-- a class strictly between c and u passes
pub record IsBetween (cs : Classes) (u : ℕ) (test : ℕ → Bool) (c : ℕ) : Type 0 where
  pub number : ℕ
  pub below : is_proper_subclass cs c number ≡ true
  pub above : is_proper_subclass cs number u ≡ true
  pub passes : test number ≡ true

module _ (cs : Classes) (o : AreOrdered cs.rows) where
  module _ (c s : ℕ) (e : superclass_of cs c ≡ Some s) where
    there : s < length cs.rows
    there = by_row (slice_get cs.rows c) refl e
      where
        by_row : (r : Option Class) → slice_get cs.rows c ≡ r → option_and_then (λ row. row.superclass) r ≡ Some s → s < length cs.rows
        by_row None is h = cc
        by_row (Some row) is h = let lt = next_below cs o c s e in let le = slice_get_within cs.rows c row is in omega arith

    above_is : above cs c ≡ s ∷ above cs s
    above_is = ap (λ (p : Option ℕ). option_map_or (superclasses cs) p []) e ∙ chain_there cs o s there

    parted : (k : ℕ) → is_subclass cs c k ≡ ((c == k) || is_subclass cs s k)
    parted k = ap (list_any (λ j. j == k)) (chain_above cs o c s e)

    proper_next : is_proper_subclass cs c s ≡ true
    proper_next =
        and_from (not (c == s)) (is_subclass cs c s) (differ c s (next_below cs o c s e))
        (parted s ∙ or_right (c == s) (is_subclass cs s s) (is_itself cs s there s (nat_eq_equiv.refl s)))

    proper_up : (k : ℕ) → is_proper_subclass cs c k ≡ true → (s ≡ k) ⊎ (is_proper_subclass cs s k ≡ true)
    proper_up k h =
        let both = and_parts (not (c == k)) (is_subclass cs c k) h in
        let other = sym (ap (λ (b : Bool). b || is_subclass cs s k) (not-true (c == k) both.0)) ∙ sym (parted k) ∙ both.1 in
        by_test (s == k) refl other
      where
        by_test : (b : Bool) → (s == k) ≡ b → is_subclass cs s k ≡ true → (s ≡ k) ⊎ (is_proper_subclass cs s k ≡ true)
        by_test true is h = inl ((Decides-eqb s k).0 is)
        by_test false is h = inr (and_from (not (s == k)) (is_subclass cs s k) (ap not is) h)

  pub superclass_there : (c : ℕ) → IfSome (superclass_of cs c) (λ s. s < length cs.rows)
  superclass_there c = by_superclass (superclass_of cs c) refl
    where
      by_superclass : (p : Option ℕ) → superclass_of cs c ≡ p → IfSome p (λ s. s < length cs.rows)
      by_superclass None e = tt
      by_superclass (Some s) e = there c s e

  nothing_up : (c k : ℕ) → superclass_of cs c ≡ None → is_proper_subclass cs c k ≡ false
  nothing_up c k e = by_row (slice_get cs.rows c) refl e
    where
      alone : (b : Bool) → (not b && (b || false)) ≡ false
      alone true = refl
      alone false = refl

      by_row : (r : Option Class) → slice_get cs.rows c ≡ r → option_and_then (λ row. row.superclass) r ≡ None → is_proper_subclass cs c k ≡ false
      by_row None is h = rw (add-one c, is) (nothing (c == k))
        where
          nothing : (b : Bool) → (not b && false) ≡ false
          nothing true = refl
          nothing false = refl
      by_row (Some row) is h =
          ap (λ (xs : List ℕ). not (c == k) && list_any (λ j. j == k) xs)
          (superclasses_is cs o c row is ∙ ap (λ (p : Option ℕ). c ∷ option_map_or (superclasses cs) p []) h)
          ∙ alone (c == k)

  module _ (u : ℕ) (test : ℕ → Bool) where
    module _ (c s : ℕ) (e : superclass_of cs c ≡ Some s) (found : Bool) where
      -- one step of the walk
      pub walk_stops : (s == u) ≡ true → bridged_before u test found (above cs c) ≡ found
      walk_stops is =
          ap (bridged_before u test found) (above_is c s e)
          ∙ ap (λ (b : Bool). if b then found else bridged_before u test (found || test s) (above cs s)) is

      pub walk_goes_on : (s == u) ≡ false → bridged_before u test found (above cs c) ≡ bridged_before u test (found || test s) (above cs s)
      walk_goes_on is =
          ap (bridged_before u test found) (above_is c s e)
          ∙ ap (λ (b : Bool). if b then found else bridged_before u test (found || test s) (above cs s)) is

    one_below : (c s : ℕ) → superclass_of cs c ≡ Some s → IsBetween cs u test s → IsBetween cs u test c
    one_below c s e b = record {
      number = b.number;
      below = proper_onward cs o c s b.number (proper_next c s e) b.below;
      above = b.above;
      passes = b.passes;
    }

    abbrev Finds : ℕ → Bool → Type 0
    Finds c found =
        bridged_before u test found (above cs c) ≡ true → (is_proper_subclass cs c u ≡ true) × ((found ≡ true) ⊎ IsBetween cs u test c)

    abbrev Ends : ℕ → Bool → Type 0
    Ends c found =
        is_proper_subclass cs c u ≡ true → (found ≡ true) ⊎ IsBetween cs u test c → bridged_before u test found (above cs c) ≡ true

    finds_at : (c : ℕ) → ((s : ℕ) → s < c → (f : Bool) → Finds s f) → (found : Bool) → (p : Option ℕ) → superclass_of cs c ≡ p → Finds c found
    finds_at c ih found None e h =
        let nothing : above cs c ≡ [] = ap (λ (p : Option ℕ). option_map_or (superclasses cs) p []) e in
        absurd (both_ways (bridged_before u test found (above cs c)) (ap (bridged_before u test found) nothing) h)
    finds_at c ih found (Some s) e h = by_top (s == u) refl (sym (ap (bridged_before u test found) (above_is c s e)) ∙ h)
      where
        joined : is_proper_subclass cs s u ≡ true → ((found || test s) ≡ true) ⊎ IsBetween cs u test s → (found ≡ true) ⊎ IsBetween cs u test c
        joined up (inl either) = elim (or_cases found (test s) either) [
          | inl before ↦ inl before
          | inr now ↦ inr (record { number = s; below = proper_next c s e; above = up; passes = now })
        ]
        joined up (inr b) = inr (one_below c s e b)

        by_top : (b : Bool) → (s == u) ≡ b → (if b then found else bridged_before u test (found || test s) (above cs s)) ≡ true
            → (is_proper_subclass cs c u ≡ true) × ((found ≡ true) ⊎ IsBetween cs u test c)
        by_top true is k = (ap (is_proper_subclass cs c) (sym ((Decides-eqb s u).0 is)) ∙ proper_next c s e, inl k)
        by_top false is k =
            let rest = ih s (next_below cs o c s e) (found || test s) k in
            (proper_onward cs o c s u (proper_next c s e) rest.0, joined rest.0 rest.1)

    -- what the walk finds was found before, or is strictly between
    pub walk_finds : (n c : ℕ) → c < n → (found : Bool) → Finds c found
    walk_finds zero c lt found h = absurd (omega arith)
    walk_finds (suc n) c lt found h = finds_at c (λ s below f. walk_finds n s (omega arith) f) found (superclass_of cs c) refl h

    ends_at : (c : ℕ) → ((s : ℕ) → s < c → (f : Bool) → Ends s f) → (found : Bool) → (p : Option ℕ) → superclass_of cs c ≡ p → Ends c found
    ends_at c ih found None e up h = absurd (both_ways (is_proper_subclass cs c u) (nothing_up c u e) up)
    ends_at c ih found (Some s) e up h = ap (bridged_before u test found) (above_is c s e) ∙ by_top (s == u) refl (proper_up c s e u up)
      where
        ended : s ≡ u → (found ≡ true) ⊎ IsBetween cs u test c → found ≡ true
        ended same (inl before) = before
        ended same (inr b) =
            let low = subclass_above cs o b.number u b.above in
            elim (proper_up c s e b.number b.below) [
              | inl is ↦ absurd (omega arith)
              | inr over ↦ absurd (let high = subclass_above cs o s b.number over in omega arith)
            ]

        onward : (found ≡ true) ⊎ IsBetween cs u test c → ((found || test s) ≡ true) ⊎ IsBetween cs u test s
        onward (inl before) = inl (or_left found (test s) before)
        onward (inr b) = elim (proper_up c s e b.number b.below) [
          | inl is ↦ inl (or_right found (test s) (ap test is ∙ b.passes))
          | inr over ↦ inr (record { number = b.number; below = over; above = b.above; passes = b.passes })
        ]

        by_top : (b : Bool) → (s == u) ≡ b → (s ≡ u) ⊎ (is_proper_subclass cs s u ≡ true)
            → (if b then found else bridged_before u test (found || test s) (above cs s)) ≡ true
        by_top true is next = ended ((Decides-eqb s u).0 is) h
        by_top false is (inl same) = absurd (both_ways (s == u) is ((Decides-eqb s u).1 same))
        by_top false is (inr over) = ih s (next_below cs o c s e) (found || test s) over (onward h)

    -- and it finds it
    pub walk_ends : (n c : ℕ) → c < n → (found : Bool) → Ends c found
    walk_ends zero c lt found up h = absurd (omega arith)
    walk_ends (suc n) c lt found up h = ends_at c (λ s below f. walk_ends n s (omega arith) f) found (superclass_of cs c) refl up h

-- ---- a search among methods, place by place

module _ (test : Method → Bool) (ms : List Method) (n : ℕ) where
  pub passes_here : (m : Method) → Some m ≡ slice_get ms n → test m ≡ true → true ≡ list_any test (drop n ms)
  passes_here m e h = sym (ap (list_any test) (left_at ms n m (sym e)) ∙ ap (λ (b : Bool). b || list_any test (drop (n + 1) ms)) h)

  pub not_here : (m : Method) → Some m ≡ slice_get ms n → test m ≡ false → list_any test (drop (n + 1) ms) ≡ list_any test (drop n ms)
  not_here m e h = sym (ap (list_any test) (left_at ms n m (sym e)) ∙ ap (λ (b : Bool). b || list_any test (drop (n + 1) ms)) h)

  pub passes_nowhere : None ≡ slice_get ms n → false ≡ list_any test (drop n ms)
  passes_nowhere e = sym (ap (list_any test) (none_left ms n (sym e)))
