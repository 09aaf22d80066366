-- A list after another one, and what a filter leaves.
use Rattle.std.specs.Prelude.{◌≡◌, ◌≤◌, ◌+◌, ◌-◌, ℕ, zero, suc, Bool, true, false, cond, List, [], ◌∷◌, ◌++◌, length, take, drop, filter, slice_get}
use Rattle.std.proofs.Common.{refl, ap, ◌∙◌, arith}
use Rattle.std.proofs.lemmas.List.{take-append-le, take_all}
use Rattle.std.proofs.Math.Seq.{drop-append-add}

module _ {X : Type 0} where
  -- what stands after a first part
  pub drop_front : (first rest : List X) (n : ℕ) → length first ≤ n → drop n (first ++ rest) ≡ drop (n - length first) rest
  drop_front first rest n le =
      let all : n ≡ length first + (n - length first) = omega (arith, le) in
      ap (λ k. drop k (first ++ rest)) all ∙ drop-append-add first rest (n - length first)

  pub get_rest : (first rest : List X) (n : ℕ) → length first ≤ n → slice_get (first ++ rest) n ≡ slice_get rest (n - length first)
  get_rest [] rest n le = ap (slice_get rest) (omega arith)
  get_rest (x ∷ first) rest zero le = absurd (omega (arith, le))
  get_rest (x ∷ first) rest (suc n) le =
      let same : n - length first ≡ suc n - length (x ∷ first) = omega arith in
      get_rest first rest n (omega (arith, le)) ∙ ap (slice_get rest) same

  pub get_from : (xs : List X) (n k : ℕ) → slice_get (drop n xs) k ≡ slice_get xs (n + k)
  get_from xs zero k = ap (slice_get xs) (omega arith)
  get_from [] (suc n) k = refl
  get_from (x ∷ xs) (suc n) k =
      let same : suc (n + k) ≡ suc n + k = omega arith in
      get_from xs n k ∙ ap (slice_get (x ∷ xs)) same

  -- what is left passes
  kept_once : (keeps : X → Bool) (b : Bool) (x : X) (xs : List X) → keeps x ≡ b → filter keeps xs ≡ xs → filter keeps (cond b (x ∷ xs) xs) ≡ cond b (x ∷ xs) xs
  kept_once keeps true x xs is same = λ i. cond (is i) (x ∷ same i) (same i)
  kept_once keeps false x xs is same = same

  pub filter_again : (keeps : X → Bool) (xs : List X) → filter keeps (filter keeps xs) ≡ filter keeps xs
  filter_again keeps [] = refl
  filter_again keeps (x ∷ xs) = kept_once keeps (keeps x) x (filter keeps xs) refl (filter_again keeps xs)

  pub take_front : (xs ys : List X) → take (length xs) (xs ++ ys) ≡ xs
  take_front xs ys = take-append-le (length xs) xs ys (omega arith) ∙ take_all (length xs) xs (omega arith)

  -- a filter leaves no more than there are
  few_or : (b : Bool) (x : X) (xs : List X) (n : ℕ) → length xs ≤ n → length (cond b (x ∷ xs) xs) ≤ n + 1
  few_or true x xs n few = omega (arith, few)
  few_or false x xs n few = omega (arith, few)

  pub few_left : (keeps : X → Bool) (xs : List X) → length (filter keeps xs) ≤ length xs
  few_left keeps [] = omega arith
  few_left keeps (x ∷ xs) = let few = few_or (keeps x) x (filter keeps xs) (length xs) (few_left keeps xs) in omega (arith, few)
