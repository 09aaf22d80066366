-- Numbers and lists by flags: these tell what stays of the first numbers, and all later ones stay.
use Rattle.std.specs.Prelude.{◌≡◌, ℕ, zero, suc, ◌<◌, ◌≤◌, ◌⊎◌, ◌==◌, ◌||◌, Bool, true, false, List, [], ◌∷◌, ◌++◌, map, filter_map, length}
use Rattle.std.specs.Prelude.{slice_get, slice_set, Option, Some, None, option_map, is_some}
use Rattle.std.specs.Option.{unwrap_or}
use Rattle.std.specs.List.{cons_option, list_any}
use Rattle.std.proofs.Common.{refl, sym, ap, ◌∙◌, arith, inl, inr}
use Rattle.std.proofs.lemmas.Bool.{cases_order}
use Rattle.std.proofs.lemmas.Bool.Decides.{Decides-eqb}
use Rattle.std.proofs.lemmas.Cmp.{nat_eq_equiv}
use Rattle.std.proofs.lemmas.Option.{same_Some, slice_get_within}
use Rattle.jl_types.specs.Events.Retirement.{emptied}
use Rattle.jl_types.proofs.Lists.{element_at}
use Rattle.jl_hierarchy.proofs.Rising.{other_number}
use Rattle.jl_renewal.specs.Moved.{moved, shifted, kept}

-- ---- options

pub up_from : (o : Option ℕ) (i : ℕ) → option_map suc o ≡ Some i → (h : ℕ) × (o ≡ Some h) × (i ≡ suc h)
up_from None i e = cc
up_from (Some h) i e = (h, refl, sym (same_Some (suc h) i e))

none_from : (o : Option ℕ) → option_map suc o ≡ None → o ≡ None
none_from None e = refl
none_from (Some h) e = cc

-- nothing isn't something
pub clash : {A P : Type 0} (a : A) → ◌≡◌ {A = Option A} None (Some a) → P
clash a e = cc

-- what there is, where there is one
pub there_is : {A : Type 0} (o : Option A) → is_some o ≡ true → (a : A) × (o ≡ Some a)
there_is None e = cc
there_is (Some a) e = (a, refl)

pub none_of : {A : Type 0} (o : Option A) → is_some o ≡ false → o ≡ None
none_of None e = refl
none_of (Some a) e = cc

-- ---- numbers

pub shifted_is : (stays : List Bool) (j i : ℕ) → moved stays j ≡ Some i → shifted stays j ≡ i
shifted_is stays j i e = ap (λ (o : Option ℕ). unwrap_or o 0) e

pub moved_rises : (stays : List Bool) (a b i j : ℕ) → moved stays a ≡ Some i → moved stays b ≡ Some j → a < b → i < j
moved_rises [] a b i j ea eb lt = let x = same_Some a i ea in let y = same_Some b j eb in omega (arith, x, y, lt)
moved_rises (t ∷ stays) a zero i j ea eb lt = absurd (omega (arith, lt))
moved_rises (true ∷ stays) zero (suc b) i j ea eb lt =
    let x = same_Some 0 i ea in
    let u = up_from (moved stays b) j eb in
    let y = u.2 in
    omega (arith, x, y)
moved_rises (false ∷ stays) zero (suc b) i j ea eb lt = cc
moved_rises (true ∷ stays) (suc a) (suc b) i j ea eb lt =
    let u = up_from (moved stays a) i ea in
    let v = up_from (moved stays b) j eb in
    let x = u.2 in
    let y = v.2 in
    let h = moved_rises stays a b u.0 v.0 u.1 v.1 (omega (arith, lt)) in
    omega (arith, x, y, h)
moved_rises (false ∷ stays) (suc a) (suc b) i j ea eb lt = moved_rises stays a b i j ea eb (omega (arith, lt))

-- no two have one number
pub same_numbers : (stays : List Bool) (a b i j : ℕ) → moved stays a ≡ Some i → moved stays b ≡ Some j → (i == j) ≡ (a == b)
same_numbers stays a b i j ea eb = by_order (cases_order a b)
  where
    by_order : (a ≡ b) ⊎ ((a < b) ⊎ (b < a)) → (i == j) ≡ (a == b)
    by_order (inl same) = (Decides-eqb i j).1 (same_Some i j (sym ea ∙ (ap (moved stays) same ∙ eb))) ∙ sym ((Decides-eqb a b).1 same)
    by_order (inr (inl lt)) = other_number i j (moved_rises stays a b i j ea eb lt) ∙ sym (other_number a b lt)
    by_order (inr (inr lt)) =
        nat_eq_equiv.symm i j ∙ (other_number j i (moved_rises stays b a j i eb ea lt) ∙ (sym (other_number b a lt) ∙ nat_eq_equiv.symm b a))

-- what has no number isn't what has one
pub other_moved : (stays : List Bool) (a b i : ℕ) → moved stays a ≡ None → moved stays b ≡ Some i → (a == b) ≡ false
other_moved stays a b i ea eb = by_test (a == b) refl
  where
    by_test : (t : Bool) → (a == b) ≡ t → t ≡ false
    by_test true e = clash i (sym ea ∙ (ap (moved stays) ((Decides-eqb a b).0 e) ∙ eb))
    by_test false e = refl

-- each number is that of one that stays
pub moved_onto : (stays : List Bool) (i : ℕ) → (j : ℕ) × (moved stays j ≡ Some i)
moved_onto [] i = (i, refl)
moved_onto (true ∷ stays) zero = (zero, refl)
moved_onto (true ∷ stays) (suc i) = let r = moved_onto stays i in (suc r.0, ap (option_map suc) r.1)
moved_onto (false ∷ stays) i = let r = moved_onto stays i in (suc r.0, r.1)

-- a number for which there is no flag stays
pub later_stays : (stays : List Bool) (j : ℕ) → length stays ≤ j → is_some (moved stays j) ≡ true
later_stays [] j le = refl
later_stays (b ∷ stays) zero le = absurd (omega (arith, le))
later_stays (true ∷ stays) (suc j) le = by_option (moved stays j) (later_stays stays j (omega (arith, le)))
  where
    by_option : (o : Option ℕ) → is_some o ≡ true → is_some (option_map suc o) ≡ true
    by_option None e = e
    by_option (Some h) e = refl
later_stays (false ∷ stays) (suc j) le = later_stays stays j (omega (arith, le))

-- ---- lists

module _ {A : Type 0} where
  pub kept_at : (stays : List Bool) (xs : List A) (j i : ℕ) → moved stays j ≡ Some i → slice_get (kept stays xs) i ≡ slice_get xs j
  kept_at [] xs j i e = ap (slice_get xs) (sym (same_Some j i e))
  kept_at (b ∷ stays) [] j i e = refl
  kept_at (true ∷ stays) (x ∷ xs) zero i e = ap (slice_get (x ∷ kept stays xs)) (sym (same_Some 0 i e))
  kept_at (false ∷ stays) (x ∷ xs) zero i e = cc
  kept_at (true ∷ stays) (x ∷ xs) (suc j) i e =
      let u = up_from (moved stays j) i e in
      ap (slice_get (x ∷ kept stays xs)) u.2 ∙ kept_at stays xs j u.0 u.1
  kept_at (false ∷ stays) (x ∷ xs) (suc j) i e = kept_at stays xs j i e

  pub kept_more : (stays : List Bool) (xs : List A) (x : A) → length stays ≤ length xs → kept stays (xs ++ x ∷ []) ≡ kept stays xs ++ x ∷ []
  kept_more [] xs x le = refl
  kept_more (b ∷ stays) [] x le = absurd (omega (arith, le))
  kept_more (true ∷ stays) (y ∷ xs) x le = ap (λ (ys : List A). y ∷ ys) (kept_more stays xs x (omega (arith, le)))
  kept_more (false ∷ stays) (y ∷ xs) x le = kept_more stays xs x (omega (arith, le))

  pub moved_end : (stays : List Bool) (xs : List A) → length stays ≤ length xs → moved stays (length xs) ≡ Some (length (kept stays xs))
  moved_end [] xs le = refl
  moved_end (b ∷ stays) [] le = absurd (omega (arith, le))
  moved_end (true ∷ stays) (y ∷ xs) le = ap (option_map suc) (moved_end stays xs (omega (arith, le)))
  moved_end (false ∷ stays) (y ∷ xs) le = moved_end stays xs (omega (arith, le))

  pub kept_fewer : (stays : List Bool) (xs : List A) → length (kept stays xs) ≤ length xs
  kept_fewer [] xs = omega arith
  kept_fewer (b ∷ stays) [] = omega arith
  kept_fewer (true ∷ stays) (x ∷ xs) = let h = kept_fewer stays xs in omega (arith, h)
  kept_fewer (false ∷ stays) (x ∷ xs) = let h = kept_fewer stays xs in omega (arith, h)

  pub kept_set : (stays : List Bool) (xs : List A) (j i : ℕ) (x : A) → moved stays j ≡ Some i
      → kept stays (slice_set xs j x) ≡ slice_set (kept stays xs) i x
  kept_set [] xs j i x e = ap (λ (k : ℕ). slice_set xs k x) (same_Some j i e)
  kept_set (b ∷ stays) [] j i x e = refl
  kept_set (true ∷ stays) (y ∷ xs) zero i x e = ap (λ (k : ℕ). slice_set (y ∷ kept stays xs) k x) (same_Some 0 i e)
  kept_set (false ∷ stays) (y ∷ xs) zero i x e = cc
  kept_set (true ∷ stays) (y ∷ xs) (suc j) i x e =
      let u = up_from (moved stays j) i e in
      ap (λ (ys : List A). y ∷ ys) (kept_set stays xs j u.0 x u.1) ∙ ap (λ (k : ℕ). slice_set (y ∷ kept stays xs) k x) (sym u.2)
  kept_set (false ∷ stays) (y ∷ xs) (suc j) i x e = kept_set stays xs j i x e

  pub kept_unset : (stays : List Bool) (xs : List A) (j : ℕ) (x : A) → moved stays j ≡ None → kept stays (slice_set xs j x) ≡ kept stays xs
  kept_unset [] xs j x e = cc
  kept_unset (b ∷ stays) [] j x e = refl
  kept_unset (true ∷ stays) (y ∷ xs) zero x e = cc
  kept_unset (false ∷ stays) (y ∷ xs) zero x e = refl
  kept_unset (true ∷ stays) (y ∷ xs) (suc j) x e = ap (λ (ys : List A). y ∷ ys) (kept_unset stays xs j x (none_from (moved stays j) e))
  kept_unset (false ∷ stays) (y ∷ xs) (suc j) x e = kept_unset stays xs j x e

  -- what is there has a number that is there
  pub moved_within : (stays : List Bool) (xs : List A) (j i : ℕ) → moved stays j ≡ Some i → j < length xs → i < length (kept stays xs)
  moved_within stays xs j i e lt =
      let here = element_at xs j lt in
      slice_get_within (kept stays xs) i here.0 (kept_at stays xs j i e ∙ here.1)

  pub length_set : (xs : List A) (i : ℕ) (x : A) → length (slice_set xs i x) ≡ length xs
  length_set [] i x = refl
  length_set (y ∷ xs) zero x = refl
  length_set (y ∷ xs) (suc i) x = ap suc (length_set xs i x)

-- retired loaders stay in the list, and find nothing
pub length_emptied : (found : List (List (List ℕ × ℕ))) (loaders : List ℕ) → length (emptied found loaders) ≡ length found
length_emptied found [] = refl
length_emptied found (l ∷ loaders) = length_emptied (slice_set found l []) loaders ∙ length_set found l []

pub map_set : {A B : Type 0} (f : A → B) (xs : List A) (i : ℕ) (x : A) → map f (slice_set xs i x) ≡ slice_set (map f xs) i (f x)
map_set f [] i x = refl
map_set f (y ∷ xs) zero x = refl
map_set f (y ∷ xs) (suc i) x = ap (λ ys. f y ∷ ys) (map_set f xs i x)

pub kept_map : {A B : Type 0} (f : A → B) (stays : List Bool) (xs : List A) → kept stays (map f xs) ≡ map f (kept stays xs)
kept_map f [] xs = refl
kept_map f (b ∷ stays) [] = refl
kept_map f (true ∷ stays) (x ∷ xs) = ap (λ ys. f x ∷ ys) (kept_map f stays xs)
kept_map f (false ∷ stays) (x ∷ xs) = kept_map f stays xs

-- a number is among those that stay where it was among all
pub among_moved : (stays : List Bool) (xs : List ℕ) (a i : ℕ) → moved stays a ≡ Some i
    → list_any (λ m. m == i) (filter_map (moved stays) xs) ≡ list_any (λ m. m == a) xs
among_moved stays [] a i e = refl
among_moved stays (x ∷ xs) a i e = by_number (moved stays x) refl (among_moved stays xs a i e)
  where
    by_number : (o : Option ℕ) → moved stays x ≡ o → list_any (λ m. m == i) (filter_map (moved stays) xs) ≡ list_any (λ m. m == a) xs
        → list_any (λ m. m == i) (cons_option o (filter_map (moved stays) xs)) ≡ ((x == a) || list_any (λ m. m == a) xs)
    by_number None is rest = rest ∙ sym (ap (λ (b : Bool). b || list_any (λ m. m == a) xs) (other_moved stays x a i is e))
    by_number (Some j) is rest = λ t. same_numbers stays x a j i is e t || rest t
