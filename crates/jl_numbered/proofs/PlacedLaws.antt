-- The place of a value, and what a write leaves.
use Rattle.std.specs.Prelude.{◌≡◌, ℕ, zero, suc, ◌+◌, ◌<◌, ◌≤◌, ◌==◌, nat_lt, not, Bool, true, false, cond, List, [], ◌∷◌, ◌++◌, length, replicate, drop}
use Rattle.std.specs.Prelude.{Option, Some, None, option_map, find, slice_get, slice_set, if◌then◌else◌}
use Rattle.std.specs.List.{AllByRecursion}
use Rattle.std.proofs.Common.{refl, ap, sym, subst, ◌∙◌, arith}
use Rattle.std.proofs.lemmas.Bool.{ltb-true, both_ways}
use Rattle.std.proofs.lemmas.Bool.Decides.{Decides-eqb, Decides-ltb}
use Rattle.std.proofs.lemmas.List.Elements.{All-from_recursion}
use Rattle.std.proofs.lemmas.List.Kept.{AllPairs-cons}
use Rattle.std.proofs.lemmas.Option.{same_Some, slice_get_past}
use Rattle.jl_numbered.specs.Numbers.{value_at, AreRising, entries_from}
use Rattle.jl_numbered.specs.ForProofs.Placed.{placed, standing, one}

unequal : (k n : ℕ) → ¬ (k ≡ n) → (k == n) ≡ false
unequal k n apart = by_test (k == n) refl
  where
    by_test : (b : Bool) → (k == n) ≡ b → (k == n) ≡ false
    by_test true e = absurd (apart ((Decides-eqb k n).0 e))
    by_test false e = e

-- a test that fails
not_less : (k n : ℕ) → n ≤ k → nat_lt k n ≡ false
not_less k n le = by_test (nat_lt k n) refl
  where
    by_test : (b : Bool) → nat_lt k n ≡ b → nat_lt k n ≡ false
    by_test true e = let lt = ltb-true k n e in absurd (omega (arith, lt, le))
    by_test false e = e

less : (k n : ℕ) → k < n → nat_lt k n ≡ true
less k n lt = (Decides-ltb k n).1 lt

module _ {T : Type 0} where
  -- ---- what is found

  first : (k n : ℕ) (v : T) (rest : List (ℕ × T)) (b : Bool) → (k == n) ≡ b → value_at ((k, v) ∷ rest) n ≡ (if b then Some v else value_at rest n)
  first k n v rest b e = ap (λ (d : Bool). option_map (λ row. row.1) (cond d (Some (k, v)) (find (λ row. row.0 == n) rest))) e ∙ by_test b
    where
      by_test : (b : Bool) → option_map (λ row. row.1) (cond b (Some (k, v)) (find (λ row. row.0 == n) rest)) ≡ (if b then Some v else value_at rest n)
      by_test true = refl
      by_test false = refl

  -- no number is found before the first place
  before : (k n : ℕ) (xs : List (Option T)) → n < k → value_at (placed k xs) n ≡ None
  before k n [] lt = refl
  before k n (None ∷ xs) lt = before (suc k) n xs (omega (arith, lt))
  before k n (Some v ∷ xs) lt =
      first k n v (placed (suc k) xs) false (unequal k n (λ e. absurd (omega (arith, lt, e)))) ∙ before (suc k) n xs (omega (arith, lt))

  pub found : (k n j : ℕ) (xs : List (Option T)) → n ≡ k + j → value_at (placed k xs) n ≡ standing (slice_get xs j)
  found k n j [] e = refl
  found k n zero (None ∷ xs) e = before (suc k) n xs (omega (arith, e))
  found k n zero (Some v ∷ xs) e = first k n v (placed (suc k) xs) true ((Decides-eqb k n).1 (omega (arith, e)))
  found k n (suc j) (None ∷ xs) e = found (suc k) n j xs (omega (arith, e))
  found k n (suc j) (Some v ∷ xs) e =
      first k n v (placed (suc k) xs) false (unequal k n (λ same. absurd (omega (arith, e, same)))) ∙ found (suc k) n j xs (omega (arith, e))

  -- what is found in a whole list
  pub found_at : (n : ℕ) (xs : List (Option T)) (x : Option (Option T)) → x ≡ slice_get xs n → standing x ≡ value_at (placed 0 xs) n
  found_at n xs x e = ap standing e ∙ sym (found 0 n n xs (omega arith))

  -- ---- a place that is written

  there : (n : ℕ) (x : Option T) (xs : List (Option T)) → n < length xs → slice_get (slice_set xs n x) n ≡ Some x
  there n x [] lt = absurd (omega (arith, lt))
  there zero x (y ∷ xs) lt = refl
  there (suc n) x (y ∷ xs) lt = there n x xs (omega (arith, lt))

  elsewhere : (n m : ℕ) (x : Option T) (xs : List (Option T)) → ¬ (n ≡ m) → slice_get (slice_set xs n x) m ≡ slice_get xs m
  elsewhere n m x [] apart = refl
  elsewhere zero zero x (y ∷ xs) apart = absurd (apart refl)
  elsewhere zero (suc m) x (y ∷ xs) apart = refl
  elsewhere (suc n) zero x (y ∷ xs) apart = refl
  elsewhere (suc n) (suc m) x (y ∷ xs) apart = elsewhere n m x xs (λ e. apart (ap suc e))

  pub written : (n : ℕ) (x : Option T) (xs : List (Option T)) → n < length xs → (m : ℕ)
      → value_at (placed 0 (slice_set xs n x)) m ≡ (if n == m then x else value_at (placed 0 xs) m)
  written n x xs lt m = found 0 m m (slice_set xs n x) (omega arith) ∙ by_test (n == m) refl
    where
      by_test : (b : Bool) → (n == m) ≡ b → standing (slice_get (slice_set xs n x) m) ≡ (if b then x else value_at (placed 0 xs) m)
      by_test true e = ap standing (ap (slice_get (slice_set xs n x)) (sym ((Decides-eqb n m).0 e)) ∙ there n x xs lt)
      by_test false e =
          ap standing (elsewhere n m x xs (λ same. both_ways (n == m) e ((Decides-eqb n m).1 same))) ∙ sym (found 0 m m xs (omega arith))

  -- how many there are then
  pub counted : (k n : ℕ) (x old : Option T) (xs : List (Option T)) → slice_get xs n ≡ Some old
      → length (placed k (slice_set xs n x)) + one old ≡ length (placed k xs) + one x
  counted k n x old [] e = cc
  counted k zero x old (y ∷ xs) e = by_slots x y old (same_Some y old e)
    where
      by_slots : (x y old : Option T) → y ≡ old → length (placed k (x ∷ xs)) + one old ≡ length (placed k (y ∷ xs)) + one x
      by_slots None None None is = refl
      by_slots None None (Some w) is = cc
      by_slots None (Some v) None is = cc
      by_slots None (Some v) (Some w) is = omega arith
      by_slots (Some u) None None is = omega arith
      by_slots (Some u) None (Some w) is = cc
      by_slots (Some u) (Some v) None is = cc
      by_slots (Some u) (Some v) (Some w) is = omega arith
  counted k (suc n) x old (None ∷ xs) e = counted (suc k) n x old xs e
  counted k (suc n) x old (Some v ∷ xs) e = let rest = counted (suc k) n x old xs e in omega (arith, rest)

  pub no_more : (k : ℕ) (xs : List (Option T)) → length (placed k xs) ≤ length xs
  no_more k [] = omega arith
  no_more k (None ∷ xs) = let rest = no_more (suc k) xs in omega (arith, rest)
  no_more k (Some v ∷ xs) = let rest = no_more (suc k) xs in omega (arith, rest)

  pub slots_stay : (n : ℕ) (x : Option T) (xs : List (Option T)) → length (slice_set xs n x) ≡ length xs
  slots_stay n x [] = refl
  slots_stay zero x (y ∷ xs) = refl
  slots_stay (suc n) x (y ∷ xs) = ap suc (slots_stay n x xs)

  -- ---- room

  pub roomier : (k n : ℕ) (xs : List (Option T)) → placed k (xs ++ replicate n None) ≡ placed k xs
  roomier k zero [] = refl
  roomier k (suc n) [] = roomier (suc k) n []
  roomier k n (None ∷ xs) = roomier (suc k) n xs
  roomier k n (Some v ∷ xs) = ap (λ (rest : List (ℕ × T)). (k, v) ∷ rest) (roomier (suc k) n xs)

  -- ---- order

  after : (n k : ℕ) (xs : List (Option T)) → n < k → AllByRecursion (λ (row : ℕ × T). n < row.0) (placed k xs)
  after n k [] lt = tt
  after n k (None ∷ xs) lt = after n (suc k) xs (omega (arith, lt))
  after n k (Some v ∷ xs) lt = (lt, after n (suc k) xs (omega (arith, lt)))

  none_rise : AreRising {T = T} []
  none_rise i j d lt within = absurd (omega (arith, within))

  pub rising : (k : ℕ) (xs : List (Option T)) → AreRising (placed k xs)
  rising k [] = none_rise
  rising k (None ∷ xs) = rising (suc k) xs
  rising k (Some v ∷ xs) =
      AllPairs-cons (λ (a b : ℕ × T). a.0 < b.0) (k, v) (placed (suc k) xs)
      (All-from_recursion (λ (row : ℕ × T). k < row.0) (placed (suc k) xs) (after k (suc k) xs (omega arith)))
      (rising (suc k) xs)

  -- ---- one place after another

  step : (n k : ℕ) (v : T) (rest : List (ℕ × T)) (b : Bool) → nat_lt k n ≡ b
      → entries_from n ((k, v) ∷ rest) ≡ (if b then entries_from n rest else (k, v) ∷ entries_from n rest)
  step n k v rest b e = ap (λ (d : Bool). cond (not d) ((k, v) ∷ entries_from n rest) (entries_from n rest)) e ∙ by_test b
    where
      by_test : (b : Bool) → cond (not b) ((k, v) ∷ entries_from n rest) (entries_from n rest)
          ≡ (if b then entries_from n rest else (k, v) ∷ entries_from n rest)
      by_test true = refl
      by_test false = refl

  all_from : (n k : ℕ) (xs : List (Option T)) → n ≤ k → entries_from n (placed k xs) ≡ placed k xs
  all_from n k [] le = refl
  all_from n k (None ∷ xs) le = all_from n (suc k) xs (omega (arith, le))
  all_from n k (Some v ∷ xs) le =
      step n k v (placed (suc k) xs) false (not_less k n le) ∙ ap (λ (rest : List (ℕ × T)). (k, v) ∷ rest) (all_from n (suc k) xs (omega (arith, le)))

  pub from_place : (n k j : ℕ) (xs : List (Option T)) → n ≡ k + j → entries_from n (placed k xs) ≡ placed n (drop j xs)
  from_place n k zero xs e = all_from n k xs (omega (arith, e)) ∙ ap (λ m. placed m xs) (omega (arith, e))
  from_place n k (suc j) [] e = refl
  from_place n k (suc j) (None ∷ xs) e = from_place n (suc k) j xs (omega (arith, e))
  from_place n k (suc j) (Some v ∷ xs) e =
      step n k v (placed (suc k) xs) true (less k n (omega (arith, e))) ∙ from_place n (suc k) j xs (omega (arith, e))

  -- the rest of a list whose place is known
  pub rest_at : (xs : List (Option T)) (j : ℕ) (x : Option T) → slice_get xs j ≡ Some x → drop j xs ≡ x ∷ drop (suc j) xs
  rest_at [] j x e = cc
  rest_at (y ∷ xs) zero x e = ap (λ (z : Option T). z ∷ xs) (same_Some y x e)
  rest_at (y ∷ xs) (suc j) x e = rest_at xs j x e

  pub no_rest : (xs : List (Option T)) (j : ℕ) → slice_get xs j ≡ None → drop j xs ≡ []
  no_rest [] zero e = refl
  no_rest [] (suc j) e = refl
  no_rest (y ∷ xs) zero e = cc
  no_rest (y ∷ xs) (suc j) e = no_rest xs j e

  -- one place further, at which no value stands
  pub passed : (xs : List (Option T)) (j n : ℕ) → slice_get xs j ≡ Some None → n ≡ suc j → placed j (drop j xs) ≡ placed n (drop n xs)
  passed xs j n at is = ap (placed j) (rest_at xs j None at) ∙ ap (λ m. placed m (drop m xs)) (sym is)

  -- what there is from a number on
  pub left_of : (n : ℕ) (xs : List (Option T)) → entries_from n (placed 0 xs) ≡ placed n (drop n xs)
  left_of n xs = from_place n 0 n xs (omega arith)

  -- how many values there are after a write
  pub fewer : (n : ℕ) (old : Option T) (xs : List (Option T)) → slice_get xs n ≡ Some old
      → length (placed 0 (slice_set xs n None)) ≤ length (placed 0 xs)
  fewer n old xs at = let is = counted 0 n None old xs at in omega (arith, is)

  -- nothing is found past the end
  pub past : (n : ℕ) (xs : List (Option T)) → length xs ≤ n → None ≡ value_at (placed 0 xs) n
  past n xs le = found_at n xs None (sym (slice_get_past xs n le))

  pub past_stays : (n : ℕ) (xs : List (Option T)) → length xs ≤ n → (m : ℕ)
      → value_at (placed 0 xs) m ≡ (if n == m then None else value_at (placed 0 xs) m)
  past_stays n xs le m = by_test (n == m) refl
    where
      by_test : (b : Bool) → (n == m) ≡ b → value_at (placed 0 xs) m ≡ (if b then None else value_at (placed 0 xs) m)
      by_test true e = sym (past m xs (subst (λ k. length xs ≤ k) ((Decides-eqb n m).0 e) le))
      by_test false e = refl
