-- Tests put together, and tests over lists.
use Rattle.std.specs.Prelude.{◌≡◌, ℕ, zero, suc, ◌+◌, ◌<◌, ◌≤◌, ◌==◌, ◌⊎◌, Bool, true, false, cond, ◌&&◌, ◌||◌, List, [], ◌∷◌, map, filter}
use Rattle.std.specs.List.{list_any, range_with_len}
use Rattle.std.proofs.Common.{refl, ap, ◌∙◌, arith, inl, inr}
use Rattle.std.proofs.lemmas.Bool.{or_right, or_left, or_cases, both_ways}
use Rattle.std.proofs.lemmas.Bool.Decides.{Decides-eqb}
use Rattle.std.proofs.Math.Arith.{lt_of_le-ne}

pub or_none : (b : Bool) → (b || false) ≡ b
or_none true = refl
or_none false = refl

-- an element of a list that passes both tests
pub record Passing {A : Type 0} (p f : A → Bool) : Type 0 where
  pub item : A
  pub meets : p item ≡ true
  pub passes : f item ≡ true

-- an element that passes is among those that the filter leaves
pub any-filter : {A : Type 0} (p f : A → Bool) (xs : List A) → list_any f (filter p xs) ≡ true → Passing p f
any-filter p f [] h = cc
any-filter p f (x ∷ xs) h = by_test p f x xs (p x) refl h (any-filter p f xs)
  where
    here_or : {A : Type 0} (p f : A → Bool) (x : A) (xs : List A) → p x ≡ true → (f x ≡ true) ⊎ (list_any f (filter p xs) ≡ true)
        → (list_any f (filter p xs) ≡ true → Passing p f) → Passing p f
    here_or p f x xs e (inl is) rest = record { item = x; meets = e; passes = is }
    here_or p f x xs e (inr more) rest = rest more

    by_test : {A : Type 0} (p f : A → Bool) (x : A) (xs : List A) (b : Bool) → p x ≡ b → list_any f (cond b (x ∷ filter p xs) (filter p xs)) ≡ true
        → (list_any f (filter p xs) ≡ true → Passing p f) → Passing p f
    by_test p f x xs true e h rest = here_or p f x xs e (or_cases (f x) (list_any f (filter p xs)) h) rest
    by_test p f x xs false e h rest = rest h

-- the number y is in the list, and passes
pub any-filter-at : (p f : ℕ → Bool) (y : ℕ) (xs : List ℕ) → list_any (λ x. x == y) xs ≡ true → p y ≡ true → f y ≡ true → list_any f (filter p xs) ≡ true
any-filter-at p f y [] m h k = cc
any-filter-at p f y (x ∷ xs) m h k = by_place p f y x xs (x == y) refl m h k (λ more. any-filter-at p f y xs more h k)
  where
    found : (p f : ℕ → Bool) (y x : ℕ) (xs : List ℕ) → x ≡ y → p y ≡ true → f y ≡ true → list_any f (filter p (x ∷ xs)) ≡ true
    found p f y x xs e h k = ap (λ (b : Bool). list_any f (cond b (x ∷ filter p xs) (filter p xs))) (ap p e ∙ h)
        ∙ or_left (f x) (list_any f (filter p xs)) (ap f e ∙ k)

    more_or : (p f : ℕ → Bool) (x : ℕ) (xs : List ℕ) (b : Bool) → p x ≡ b → list_any f (filter p xs) ≡ true
        → list_any f (cond b (x ∷ filter p xs) (filter p xs)) ≡ true
    more_or p f x xs true e h = or_right (f x) (list_any f (filter p xs)) h
    more_or p f x xs false e h = h

    by_place : (p f : ℕ → Bool) (y x : ℕ) (xs : List ℕ) (b : Bool) → (x == y) ≡ b → (b || list_any (λ x. x == y) xs) ≡ true → p y ≡ true
        → f y ≡ true → (list_any (λ x. x == y) xs ≡ true → list_any f (filter p xs) ≡ true) → list_any f (filter p (x ∷ xs)) ≡ true
    by_place p f y x xs true e m h k rest = found p f y x xs ((Decides-eqb x y).0 e) h k
    by_place p f y x xs false e m h k rest = more_or p f x xs (p x) refl (rest m)

pub any-map : {A B : Type 0} (f : B → Bool) (g : A → B) (xs : List A) → list_any f (map g xs) ≡ list_any (λ x. f (g x)) xs
any-map f g [] = refl
any-map f g (x ∷ xs) = ap (λ (b : Bool). f (g x) || b) (any-map f g xs)

-- some number of the range passes
pub any-range-to : (f : ℕ → Bool) (a n : ℕ) → list_any f (range_with_len a n) ≡ true → (i : ℕ) × (f i ≡ true)
any-range-to f a zero h = cc
any-range-to f a (suc n) h = elim (or_cases (f a) (list_any f (range_with_len (a + 1) n)) h) [ inl is ↦ (a, is) | inr more ↦ any-range-to f (a + 1) n more ]

pub any-range-from : (f : ℕ → Bool) (a n i : ℕ) → a ≤ i → i < a + n → f i ≡ true → list_any f (range_with_len a n) ≡ true
any-range-from f a zero i h k is = absurd (omega arith)
any-range-from f a (suc n) i h k is = by_place f a n i (a == i) refl h k is (λ l. any-range-from f (a + 1) n i l (omega arith) is)
  where
    above : (a i : ℕ) → a ≤ i → a < i → a + 1 ≤ i
    above a i h k = omega arith

    by_place : (f : ℕ → Bool) (a n i : ℕ) (b : Bool) → (a == i) ≡ b → a ≤ i → i < a + suc n → f i ≡ true
        → (a + 1 ≤ i → list_any f (range_with_len (a + 1) n) ≡ true) → list_any f (range_with_len a (suc n)) ≡ true
    by_place f a n i true e h k is rest = or_left (f a) (list_any f (range_with_len (a + 1) n)) (ap f ((Decides-eqb a i).0 e) ∙ is)
    by_place f a n i false e h k is rest = or_right (f a) (list_any f (range_with_len (a + 1) n))
        (rest (above a i h (lt_of_le-ne h (λ same. both_ways (a == i) e ((Decides-eqb a i).1 same)))))

-- two tests that hold both hold
pub first_test : (a b : Bool) → (a && b) ≡ true → a ≡ true
first_test true b h = refl
first_test false b h = cc

pub second_test : (a b : Bool) → (a && b) ≡ true → b ≡ true
second_test true b h = h
second_test false b h = cc
