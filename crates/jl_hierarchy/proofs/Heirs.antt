-- No class that came before the first one of a loader has an ancestor of that.
use Rattle.std.specs.Prelude.{◌≡◌, ℕ, zero, suc, ◌+◌, ◌-◌, ◌<◌, ◌≤◌, ◌⊎◌, not, ◌&&◌, Bool, true, false, cond, List, [], ◌∷◌, find, filter, Some, None}
use Rattle.std.specs.List.{list_any, range_with_len}
use Rattle.std.proofs.Common.{refl, ap, ◌∙◌, arith, inl, inr}
use Rattle.std.proofs.lemmas.Bool.{cases_order, and_right, or_from}
use Rattle.jl_types.specs.Values.World.{Classes}
use Rattle.jl_types.specs.Values.Members.{is_present}
use Rattle.jl_types.specs.Values.Ancestry.{ancestors, is_ancestor_within}
use Rattle.jl_types.specs.Events.Retirement.{is_of, is_of_any, inherits_from}
use Rattle.jl_types.specs.ForProofs.Leaving.{inherits_any}

-- the test p passes of no class up to which q passes of none
abbrev pub IsLater : (ℕ → Bool) → (ℕ → Bool) → Type 0
IsLater q p = (k : ℕ) → ((a : ℕ) → a ≤ k → q a ≡ false) → p k ≡ false

module _ (q p : ℕ → Bool) (later : IsLater q p) where
  one_more : (a : ℕ) → ((k : ℕ) → k < a → q k ≡ false) → q a ≡ false → (k : ℕ) → k ≤ a → q k ≡ false
  one_more a before at k le = by_order (cases_order k a)
    where
      by_order : (k ≡ a) ⊎ ((k < a) ⊎ (a < k)) → q k ≡ false
      by_order (inl same) = ap q same ∙ at
      by_order (inr (inl less)) = before k less
      by_order (inr (inr more)) = absurd (omega arith)

  -- p finds nothing from a on, if q finds nothing there and holds of nothing before a
  pub none_later : (a n : ℕ) → ((k : ℕ) → k < a → q k ≡ false) → find q (range_with_len a n) ≡ None → find p (range_with_len a n) ≡ None
  none_later a zero before e = refl
  none_later a (suc n) before e = by_test (q a) refl e (none_later (a + 1) n)
    where
      by_test : (b : Bool) → q a ≡ b → cond b (Some a) (find q (range_with_len (a + 1) n)) ≡ None
          → (((k : ℕ) → k < a + 1 → q k ≡ false) → find q (range_with_len (a + 1) n) ≡ None → find p (range_with_len (a + 1) n) ≡ None)
          → find p (range_with_len a (suc n)) ≡ None
      by_test true is e rest = cc
      by_test false is e rest =
          ap (λ b. cond b (Some a) (find p (range_with_len (a + 1) n))) (later a (one_more a before is))
          ∙ rest (λ k lt. one_more a before is k (omega arith)) e

  pub found_later : (a n end f : ℕ) → a + n ≡ end → ((k : ℕ) → k < a → q k ≡ false) → find q (range_with_len a n) ≡ Some f
      → find p (range_with_len a n) ≡ find p (range_with_len f (end - f))
  found_later a zero end f is before e = cc
  found_later a (suc n) end f is before e = by_test (q a) refl e (found_later (a + 1) n end f (omega arith))
    where
      at_once : (g : ℕ) → a ≡ g → find p (range_with_len a (suc n)) ≡ find p (range_with_len g (end - g))
      at_once g same = ap (λ m. find p (range_with_len a m)) {x = suc n} {y = end - a} (omega arith) ∙ ap (λ h. find p (range_with_len h (end - h))) same

      by_test : (b : Bool) → q a ≡ b → cond b (Some a) (find q (range_with_len (a + 1) n)) ≡ Some f
          → (((k : ℕ) → k < a + 1 → q k ≡ false) → find q (range_with_len (a + 1) n) ≡ Some f
          → find p (range_with_len (a + 1) n) ≡ find p (range_with_len f (end - f)))
          → find p (range_with_len a (suc n)) ≡ find p (range_with_len f (end - f))
      by_test true at e rest = at_once f cc
      by_test false at e rest =
          ap (λ b. cond b (Some a) (find p (range_with_len (a + 1) n))) (later a (one_more a before at))
          ∙ rest (λ k lt. one_more a before at k (omega arith)) e

-- ---- ancestors came no later

none_among : (q f : ℕ → Bool) (a n : ℕ) → ((k : ℕ) → k < a + n → q k ≡ false) → list_any q (filter f (range_with_len a n)) ≡ false
none_among q f a zero none = refl
none_among q f a (suc n) none = by_test (f a) (none_among q f (a + 1) n (λ k lt. none k (omega arith)))
  where
    by_test : (b : Bool) → list_any q (filter f (range_with_len (a + 1) n)) ≡ false
        → list_any q (cond b (a ∷ filter f (range_with_len (a + 1) n)) (filter f (range_with_len (a + 1) n))) ≡ false
    by_test true rest = or_from (q a) _ (none a (omega arith)) rest
    by_test false rest = rest

none_above : (cs : Classes) (q : ℕ → Bool) (k : ℕ) → ((a : ℕ) → a ≤ k → q a ≡ false) → list_any q (ancestors cs.rows k) ≡ false
none_above cs q k none = none_among q (λ a. is_ancestor_within (k + 1) cs.rows a k) 0 (k + 1) (λ a lt. none a (omega arith))

pub heirs_are_later : (cs : Classes) (loaders : List ℕ) (loader : ℕ) → IsLater (is_of cs loader) (inherits_from cs loaders loader)
heirs_are_later cs loaders loader k none = and_right (is_present cs k) _ (and_right (not (is_of_any cs loaders k)) _ (none_above cs (is_of cs loader) k none))

pub heirs_of_any_are_later : (cs : Classes) (loaders : List ℕ) → IsLater (is_of_any cs loaders) (inherits_any cs loaders)
heirs_of_any_are_later cs loaders k none =
    and_right (is_present cs k) _ (and_right (not (is_of_any cs loaders k)) _ (none_above cs (is_of_any cs loaders) k none))
