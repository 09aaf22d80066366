-- Elements of lists by their places.
use Rattle.std.specs.Prelude.{◌≡◌, ℕ, zero, suc, ◌<◌, ◌+◌, Bool, true, false, List, [], ◌∷◌, ◌++◌, length, drop, get_or, slice_get, slice_set, Some, None}
use Rattle.std.specs.List.{AllByRecursion, range_with_len}
use Rattle.std.specs.Option.{option_map_or}
use Rattle.std.proofs.Common.{refl, ap, sym, subst, ◌∙◌, arith, add-one}
use Rattle.std.proofs.lemmas.Option.{same_Some, slice_get_within, get_or_from_slice_get}
use Rattle.std.proofs.Math.Seq.{drop-cons}

-- the elements before the one that is added keep their places
pub before_end : {A : Type 0} (xs : List A) (x : A) (n : ℕ) → n < length xs → slice_get (xs ++ x ∷ []) n ≡ slice_get xs n
before_end [] x n h = absurd (omega arith)
before_end (y ∷ xs) x zero h = refl
before_end (y ∷ xs) x (suc n) h = before_end xs x n (omega arith)

pub at_end : {A : Type 0} (xs : List A) (x : A) → slice_get (xs ++ x ∷ []) (length xs) ≡ Some x
at_end [] x = refl
at_end (y ∷ xs) x = at_end xs x

pub passes_within : {A : Type 0} (test : A → Bool) (xs : List A) (n : ℕ) → option_map_or test (slice_get xs n) false ≡ true → n < length xs
passes_within test [] n h = cc
passes_within test (x ∷ xs) zero h = omega arith
passes_within test (x ∷ xs) (suc n) h = let lt = passes_within test xs n h in omega arith

-- each place of the list has an element
pub element_at : {A : Type 0} (xs : List A) (n : ℕ) → n < length xs → (x : A) × (slice_get xs n ≡ Some x)
element_at [] n h = absurd (omega arith)
element_at (x ∷ xs) zero h = (x, refl)
element_at (x ∷ xs) (suc n) h = element_at xs n (omega arith)

-- what is left begins with the next element
pub rest_at : {A : Type 0} (xs : List A) (i : ℕ) (x : A) → i < length xs → x ≡ get_or xs i x → drop i xs ≡ x ∷ drop (i + 1) xs
rest_at {A = A} xs i x lt e = rw add-one (drop-cons xs i x lt ∙ ap (λ (y : A). y ∷ drop (suc i) xs) (sym e))

-- what is left, by what stands at the place
pub left_at : {A : Type 0} (xs : List A) (n : ℕ) (x : A) → slice_get xs n ≡ Some x → drop n xs ≡ x ∷ drop (n + 1) xs
left_at xs n x e = rest_at xs n x (slice_get_within xs n x e) (sym (get_or_from_slice_get xs n x x e))

pub none_left : {A : Type 0} (xs : List A) (n : ℕ) → slice_get xs n ≡ None → drop n xs ≡ []
none_left [] zero e = refl
none_left [] (suc n) e = refl
none_left (x ∷ xs) zero e = cc
none_left (x ∷ xs) (suc n) e = none_left xs n e

-- what holds of each element holds of the one at a place, and once one of those is put in its place
pub all_at : {A : Type 0} (P : A → Type 0) (xs : List A) (n : ℕ) (x : A) → slice_get xs n ≡ Some x → AllByRecursion P xs → P x
all_at P [] n x e h = cc
all_at P (y ∷ xs) zero x e h = subst P (same_Some y x e) h.0
all_at P (y ∷ xs) (suc n) x e h = all_at P xs n x e h.1

pub all_set : {A : Type 0} (P : A → Type 0) (xs : List A) (n : ℕ) (x : A) → P x → AllByRecursion P xs → AllByRecursion P (slice_set xs n x)
all_set P [] n x p h = tt
all_set P (y ∷ xs) zero x p h = (p, h.1)
all_set P (y ∷ xs) (suc n) x p h = (h.0, all_set P xs n x p h.1)

-- what holds of each element and of the one that is added
pub each_and_last : {A : Type 0} (P : A → Type 0) (xs : List A) (x y : A) (n : ℕ) → ((n : ℕ) (y : A) → slice_get xs n ≡ Some y → P y) → P x
    → slice_get (xs ++ x ∷ []) n ≡ Some y → P y
each_and_last P [] x y zero h k e = subst P (same_Some x y e) k
each_and_last P [] x y (suc n) h k e = cc
each_and_last P (z ∷ xs) x y zero h k e = h 0 y e
each_and_last P (z ∷ xs) x y (suc n) h k e = each_and_last P xs x y n (λ n y e. h (suc n) y e) k e

-- a range one longer
pub range_end : (a n : ℕ) → range_with_len a (n + 1) ≡ range_with_len a n ++ (a + n) ∷ []
range_end a zero = ap (λ (k : ℕ). k ∷ []) (omega arith)
range_end a (suc n) =
    ap (range_with_len a) (add-one (suc n))
    ∙ ap (λ (k : ℕ). a ∷ range_with_len (a + 1) k) (sym (add-one n))
    ∙ ap (λ (xs : List ℕ). a ∷ xs) (range_end (a + 1) n)
    ∙ ap (λ (k : ℕ). a ∷ (range_with_len (a + 1) n ++ k ∷ [])) (omega arith)
