-- Rows that weigh, by their numbers, what the numbers from one on weigh, and rise, have those numbers, in order.
use Rattle.std.proofs.Common.{◌≡◌, ℕ, zero, suc, ◌+◌, ◌<◌, ◌≤◌, nat_lt, nat_le, List, [], ◌∷◌, length, map, get_or, cond, refl, ap, arith, inl, inr}
use Rattle.std.specs.List.{sum_by, range_with_len}
use Rattle.std.specs.List.Sorted.{IsNonDecreasingBy}
use Rattle.std.proofs.lemmas.List.Sums.{sum_by-cons}
use Rattle.std.proofs.lemmas.List.Sorted.{IsNonDecreasingBy-drop}
use Rattle.std.proofs.lemmas.Bool.Decides.{nat_tests}
use Rattle.std.proofs.lemmas.Bool.{cases_lt}

-- one for each number below a, and for each up to it
abbrev below : ℕ → ℕ → ℕ
below a k = cond (nat_lt k a) 1 0

abbrev up_to : ℕ → ℕ → ℕ
up_to a k = cond (nat_le k a) 1 0

below_none : (a k : ℕ) → a ≤ k → below a k ≡ 0
below_none a k h = grind (arith, nat_tests)

below_some : (a k : ℕ) → below a k ≡ 0 → a ≤ k
below_some a k h = grind (arith, nat_tests)

up_to_none : (a k : ℕ) → a < k → up_to a k ≡ 0
up_to_none a k h = grind (arith, nat_tests)

up_to_self : (a : ℕ) → up_to a a ≡ 1
up_to_self a = grind (arith, nat_tests)

-- none of the numbers from a on is below b
range_below : (b a n : ℕ) → b ≤ a → sum_by (below b) (range_with_len a n) ≡ 0
range_below b a zero h = refl
range_below b a (suc n) h = omega (arith, sum_by-cons (below b) a (range_with_len (a + 1) n), below_none b a h, range_below b (a + 1) n (omega arith))

module _ {X : Type 0} (key : X → ℕ) where
  -- rows past a number
  rows_past : (a : ℕ) (xs : List X) → ((k : ℕ) (d : X) → k < length xs → a < key (get_or xs k d)) → sum_by (up_to a) (map key xs) ≡ 0
  rows_past a [] h = refl
  rows_past a (x ∷ xs) h =
      omega (
        arith,
        sum_by-cons (up_to a) (key x) (map key xs),
        up_to_none a (key x) (h 0 x (omega arith)),
        rows_past a xs (λ k d lt. h (suc k) d (omega arith)),
      )

  pub each_once : (n from : ℕ) (xs : List X) → IsNonDecreasingBy key xs
      → ((weight : ℕ → ℕ) → sum_by weight (range_with_len from n) ≡ sum_by weight (map key xs)) → map key xs ≡ range_with_len from n
  each_once zero from [] up same = refl
  each_once zero from (x ∷ xs) up same = absurd (omega (arith, same (λ _. 1), sum_by-cons (λ (_ : ℕ). 1) (key x) (map key xs)))
  each_once (suc n) from [] up same = absurd (omega (arith, same (λ _. 1), sum_by-cons (λ (_ : ℕ). 1) from (range_with_len (from + 1) n)))
  each_once (suc n) from (x ∷ xs) up same =
      let left = λ (weight : ℕ → ℕ). sum_by-cons weight from (range_with_len (from + 1) n) in
      let right = λ (weight : ℕ → ℕ). sum_by-cons weight (key x) (map key xs) in
      let least : from ≤ key x = below_some from (key x)
      (omega (arith, same (below from), left (below from), right (below from), below_none from from (omega arith), range_below from (from + 1) n (omega arith)))
      in
      let most : key x ≤ from = elim (cases_lt from (key x)) [
        | inr h ↦ h
        | inl lt ↦ absurd (omega (
          arith,
          same (up_to from),
          left (up_to from),
          up_to_self from,
          rows_past from (x ∷ xs) (λ k d inside. let rises = up 0 k d (omega arith) inside in omega arith),
        ))
      ] in
      let is : key x ≡ from = omega arith in
      let rest = each_once n (from + 1) xs (IsNonDecreasingBy-drop key 1 (x ∷ xs) up)
      (λ weight. let e = ap weight is in omega (arith, same weight, left weight, right weight)) in
      λ i. is i ∷ rest i
