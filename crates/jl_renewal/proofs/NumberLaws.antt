-- Numbers of what stays.
use Rattle.std.specs.Prelude.{◌≡◌, ℕ, zero, suc, ◌+◌, ◌<◌, ◌≤◌, Bool, true, false, List, [], ◌∷◌, ◌++◌, map, filter, drop, length, get_or, slice_get}
use Rattle.std.specs.Prelude.{Option, Some, None, if◌then◌else◌}
use Rattle.std.proofs.Common.{refl, sym, ap, ◌∙◌, arith, unwrap_or}
use Rattle.std.proofs.lemmas.Option.{same_Some, slice_get_within}
use Rattle.jl_renewal.specs.Numbers.{numbered_from, numbered, staying, how_many, new_number, renumbered}

-- how many of the first k stay
abbrev pub before : List Bool → ℕ → ℕ
before [] k = zero
before (b ∷ stays) zero = zero
before (true ∷ stays) (suc k) = suc (before stays k)
before (false ∷ stays) (suc k) = before stays k

-- ---- the number of what stays

number_from : (m : ℕ) (stays : List Bool) (k : ℕ) → slice_get stays k ≡ Some true → new_number (numbered_from m stays) k ≡ Some (m + before stays k)
number_from m [] k e = cc
number_from m (true ∷ stays) zero e = ap Some (omega arith)
number_from m (false ∷ stays) zero e = cc
number_from m (true ∷ stays) (suc k) e = number_from (m + 1) stays k e ∙ ap Some (omega arith)
number_from m (false ∷ stays) (suc k) e = number_from m stays k e

pub number_is : (stays : List Bool) (k : ℕ) → slice_get stays k ≡ Some true → new_number (numbered stays) k ≡ Some (before stays k)
number_is stays k e = number_from zero stays k e ∙ ap Some (omega arith)

pub renumbered_is : (stays : List Bool) (k : ℕ) → slice_get stays k ≡ Some true → renumbered (numbered stays) k ≡ before stays k
renumbered_is stays k e = ap (λ (o : Option ℕ). unwrap_or o 0) (number_is stays k e)

gone_from : (m : ℕ) (stays : List Bool) (k : ℕ) → slice_get stays k ≡ Some false → new_number (numbered_from m stays) k ≡ None
gone_from m [] k e = cc
gone_from m (true ∷ stays) zero e = cc
gone_from m (false ∷ stays) zero e = refl
gone_from m (true ∷ stays) (suc k) e = gone_from (m + 1) stays k e
gone_from m (false ∷ stays) (suc k) e = gone_from m stays k e

pub number_gone : (stays : List Bool) (k : ℕ) → slice_get stays k ≡ Some false → new_number (numbered stays) k ≡ None
number_gone stays k e = gone_from zero stays k e

some_from : (m : ℕ) (stays : List Bool) (k j : ℕ) → new_number (numbered_from m stays) k ≡ Some j → slice_get stays k ≡ Some true
some_from m [] k j e = cc
some_from m (true ∷ stays) zero j e = refl
some_from m (false ∷ stays) zero j e = cc
some_from m (true ∷ stays) (suc k) j e = some_from (m + 1) stays k j e
some_from m (false ∷ stays) (suc k) j e = some_from m stays k j e

-- what has a new number stays
pub some_stays : (stays : List Bool) (k j : ℕ) → new_number (numbered stays) k ≡ Some j → slice_get stays k ≡ Some true
some_stays stays k j e = some_from zero stays k j e

pub some_is : (stays : List Bool) (k j : ℕ) → new_number (numbered stays) k ≡ Some j → j ≡ before stays k
some_is stays k j e = same_Some j (before stays k) (sym e ∙ number_is stays k (some_stays stays k j e))

-- ---- no two have one number

pub before_rises : (stays : List Bool) (j k : ℕ) → slice_get stays j ≡ Some true → j < k → before stays j < before stays k
before_rises [] j k e lt = cc
before_rises (b ∷ stays) j zero e lt = absurd (omega (arith, lt))
before_rises (true ∷ stays) zero (suc k) e lt = omega arith
before_rises (false ∷ stays) zero (suc k) e lt = cc
before_rises (true ∷ stays) (suc j) (suc k) e lt = let h = before_rises stays j k e (omega (arith, lt)) in omega (arith, h)
before_rises (false ∷ stays) (suc j) (suc k) e lt = before_rises stays j k e (omega (arith, lt))

pub before_once : (stays : List Bool) (j k : ℕ) → slice_get stays j ≡ Some true → slice_get stays k ≡ Some true → before stays j ≡ before stays k → j ≡ k
before_once [] j k ej ek same = cc
before_once (b ∷ stays) zero zero ej ek same = refl
before_once (true ∷ stays) zero (suc k) ej ek same = absurd (omega (arith, same))
before_once (false ∷ stays) zero (suc k) ej ek same = cc
before_once (true ∷ stays) (suc j) zero ej ek same = absurd (omega (arith, same))
before_once (false ∷ stays) (suc j) zero ej ek same = cc
before_once (true ∷ stays) (suc j) (suc k) ej ek same = let h = before_once stays j k ej ek (omega (arith, same)) in omega (arith, h)
before_once (false ∷ stays) (suc j) (suc k) ej ek same = let h = before_once stays j k ej ek same in omega (arith, h)

-- ---- what stays of a list

module _ {A : Type 0} where
  staying_none : (stays : List Bool) → staying {A = A} stays [] ≡ []
  staying_none [] = refl
  staying_none (b ∷ stays) = refl

  pub staying_at : (stays : List Bool) (xs : List A) (k : ℕ) (x : A) → slice_get stays k ≡ Some true → slice_get xs k ≡ Some x
      → slice_get (staying stays xs) (before stays k) ≡ Some x
  staying_at [] xs k x e there = cc
  staying_at (b ∷ stays) [] k x e there = cc
  staying_at (true ∷ stays) (y ∷ xs) zero x e there = there
  staying_at (false ∷ stays) (y ∷ xs) zero x e there = cc
  staying_at (true ∷ stays) (y ∷ xs) (suc k) x e there = staying_at stays xs k x e there
  staying_at (false ∷ stays) (y ∷ xs) (suc k) x e there = staying_at stays xs k x e there

  pub staying_more : (stays : List Bool) (xs : List A) (x : A) → slice_get stays (length xs) ≡ Some true
      → staying stays (xs ++ x ∷ []) ≡ staying stays xs ++ x ∷ []
  staying_more [] xs x e = cc
  staying_more (true ∷ stays) [] x e = ap (λ (ys : List A). x ∷ ys) (staying_none stays)
  staying_more (false ∷ stays) [] x e = cc
  staying_more (true ∷ stays) (y ∷ xs) x e = ap (λ (ys : List A). y ∷ ys) (staying_more stays xs x e)
  staying_more (false ∷ stays) (y ∷ xs) x e = staying_more stays xs x e

  pub staying_less : (stays : List Bool) (xs : List A) (x : A) → slice_get stays (length xs) ≡ Some false
      → staying stays (xs ++ x ∷ []) ≡ staying stays xs
  staying_less [] xs x e = cc
  staying_less (true ∷ stays) [] x e = cc
  staying_less (false ∷ stays) [] x e = staying_none stays
  staying_less (true ∷ stays) (y ∷ xs) x e = ap (λ (ys : List A). y ∷ ys) (staying_less stays xs x e)
  staying_less (false ∷ stays) (y ∷ xs) x e = staying_less stays xs x e

  pub staying_length : (stays : List Bool) (xs : List A) → length xs ≤ length stays → length (staying stays xs) ≡ before stays (length xs)
  staying_length [] [] le = refl
  staying_length [] (x ∷ xs) le = absurd (omega (arith, le))
  staying_length (b ∷ stays) [] le = refl
  staying_length (true ∷ stays) (x ∷ xs) le = ap suc (staying_length stays xs (omega (arith, le)))
  staying_length (false ∷ stays) (x ∷ xs) le = staying_length stays xs (omega (arith, le))

  pub staying_fewer : (stays : List Bool) (xs : List A) → length (staying stays xs) ≤ length xs
  staying_fewer [] xs = omega arith
  staying_fewer (b ∷ stays) [] = omega arith
  staying_fewer (true ∷ stays) (x ∷ xs) = let h = staying_fewer stays xs in omega (arith, h)
  staying_fewer (false ∷ stays) (x ∷ xs) = let h = staying_fewer stays xs in omega (arith, h)

  pub staying_filter : (p : A → Bool) (xs : List A) → staying (map p xs) xs ≡ filter p xs
  staying_filter p [] = refl
  staying_filter p (x ∷ xs) = by_test (p x) (staying_filter p xs)
    where
      by_test : (b : Bool) → staying (map p xs) xs ≡ filter p xs
          → staying (b ∷ map p xs) (x ∷ xs) ≡ (if b then x ∷ filter p xs else filter p xs)
      by_test true rest = ap (λ (ys : List A). x ∷ ys) rest
      by_test false rest = rest

pub staying_map : {A B : Type 0} (f : A → B) (stays : List Bool) (xs : List A) → staying stays (map f xs) ≡ map f (staying stays xs)
staying_map f [] xs = refl
staying_map f (b ∷ stays) [] = refl
staying_map f (true ∷ stays) (x ∷ xs) = ap (λ ys. f x ∷ ys) (staying_map f stays xs)
staying_map f (false ∷ stays) (x ∷ xs) = staying_map f stays xs

-- ---- how many stay

-- the next one, if it stays, and those after it
pub many_at : (stays : List Bool) (i : ℕ) (d : Bool) → i < length stays
    → how_many (drop i stays) ≡ (if get_or stays i d then 1 else 0) + how_many (drop (i + 1) stays)
many_at [] i d lt = absurd (omega (arith, lt))
many_at (true ∷ stays) zero d lt = omega arith
many_at (false ∷ stays) zero d lt = omega arith
many_at (b ∷ stays) (suc i) d lt =
    let up : suc (i + 1) ≡ suc i + 1 = omega arith in
    many_at stays i d (omega (arith, lt)) ∙ ap (λ (k : ℕ). (if get_or stays i d then 1 else 0) + how_many (drop k (b ∷ stays))) up

pub many_fewer : (stays : List Bool) → how_many stays ≤ length stays
many_fewer [] = omega arith
many_fewer (true ∷ stays) = let le = many_fewer stays in omega (arith, le)
many_fewer (false ∷ stays) = let le = many_fewer stays in omega (arith, le)

-- they are those of all the first ones
pub before_all : (stays : List Bool) → before stays (length stays) ≡ how_many stays
before_all [] = refl
before_all (true ∷ stays) = ap suc (before_all stays)
before_all (false ∷ stays) = before_all stays

-- one that stays comes after fewer than stay
pub before_many : (stays : List Bool) (k : ℕ) → slice_get stays k ≡ Some true → before stays k < how_many stays
before_many stays k e =
    let rises = before_rises stays k (length stays) e (slice_get_within stays k true e) in
    let all = before_all stays in
    omega (arith, rises, all)

-- as many of a list
pub many_staying : {A : Type 0} (stays : List Bool) (xs : List A) → length stays ≡ length xs → length (staying stays xs) ≡ how_many stays
many_staying [] [] e = refl
many_staying [] (x ∷ xs) e = cc
many_staying (b ∷ stays) [] e = cc
many_staying (true ∷ stays) (x ∷ xs) e = ap suc (many_staying stays xs (omega (arith, e)))
many_staying (false ∷ stays) (x ∷ xs) e = many_staying stays xs (omega (arith, e))
