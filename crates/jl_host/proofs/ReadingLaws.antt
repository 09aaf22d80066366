-- Items that are read one after another, and such that are written to the front of an array.
use Rattle.std.specs.Prelude.{◌≡◌, ℕ, suc, ◌<◌, ◌≤◌, ◌+◌, List, [], ◌∷◌, ◌++◌, map, take, drop, length, get_or, slice_get, slice_set, Option, Some}
use Rattle.std.specs.Prelude.{None, option_map}
use Rattle.std.specs.List.{AllZip}
use Rattle.std.proofs.Common.{refl, sym, ap, ◌∙◌, subst, arith, add-one, inl, inr}
use Rattle.std.proofs.lemmas.List.{append_assoc, append-nil, drop_all, take-append-drop, take_more, map-append, length-map, length-take-le, take_all}
use Rattle.std.proofs.lemmas.Option.{slice_get_cases}
use Rattle.std.proofs.Math.Seq.{drop-cons}
use Rattle.jl_host.specs.Reading.{all_of, with_first}

-- these were read, and what all are is these and what is left
abbrev pub AreSoFar : {A B : Type 0} → (A → Option B) → List A → ℕ → List B → Type 0
AreSoFar f xs i made = all_of f xs ≡ option_map (λ rest. made ++ rest) (all_of f (drop i xs))

pub none_yet : {A B : Type 0} (f : A → Option B) (xs : List A) → AreSoFar f xs 0 []
none_yet f xs = unchanged (all_of f xs)
  where
    unchanged : {B : Type 0} (o : Option (List B)) → o ≡ option_map (λ rest. [] ++ rest) o
    unchanged None = refl
    unchanged (Some ys) = refl

moved : {B : Type 0} (made : List B) (y : B) (o : Option (List B))
    → option_map (λ rest. made ++ rest) (with_first (Some y) o) ≡ option_map (λ rest. (made ++ y ∷ []) ++ rest) o
moved made y None = refl
moved made y (Some ys) = ap Some (sym (append_assoc made (y ∷ []) ys))

pub rest_from : {A : Type 0} (xs : List A) (i : ℕ) (d : A) → i < length xs → drop i xs ≡ get_or xs i d ∷ drop (i + 1) xs
rest_from xs i d few = rw add-one (drop-cons xs i d few)

module _ {A B : Type 0} (f : A → Option B) (xs : List A) (i : ℕ) (d : A) (made : List B) (few : i < length xs) where
  next : (o : Option B) → f (get_or xs i d) ≡ o → AreSoFar f xs i made
      → all_of f xs ≡ option_map (λ rest. made ++ rest) (with_first o (all_of f (drop (i + 1) xs)))
  unfolding all_of
  next o is so_far =
      so_far
      ∙ ap (λ (r : List A). option_map (λ rest. made ++ rest) (all_of f r)) (rest_from xs i d few)
      ∙ ap (λ (p : Option B). option_map (λ rest. made ++ rest) (with_first p (all_of f (drop (i + 1) xs)))) is

  pub one_more : (y : B) → f (get_or xs i d) ≡ Some y → AreSoFar f xs i made → AreSoFar f xs (i + 1) (made ++ y ∷ [])
  one_more y is so_far = next (Some y) is so_far ∙ moved made y (all_of f (drop (i + 1) xs))

  pub one_is_none : f (get_or xs i d) ≡ None → AreSoFar f xs i made → None ≡ all_of f xs
  one_is_none is so_far = sym (next None is so_far)

pub all_made : {A B : Type 0} (f : A → Option B) (xs : List A) (i : ℕ) (made : List B) → length xs ≤ i → AreSoFar f xs i made → Some made ≡ all_of f xs
unfolding all_of
all_made f xs i made le so_far =
    sym (so_far ∙ ap (λ r. option_map (λ rest. made ++ rest) (all_of f r)) (drop_all i xs le) ∙ ap Some (append-nil made))

-- ---- by what each item was read as

same_rest : {B : Type 0} (o : Option (List B)) → o ≡ option_map (λ rest. [] ++ rest) o
same_rest None = refl
same_rest (Some ys) = refl

shifted : {B : Type 0} (y : B) (made : List B) (o : Option (List B))
    → with_first (Some y) (option_map (λ rest. made ++ rest) o) ≡ option_map (λ rest. (y ∷ made) ++ rest) o
shifted y made None = refl
shifted y made (Some ys) = refl

pub read_before : {A B : Type 0} (f : A → Option B) (xs : List A) (made : List B) → AllZip (λ x y. f x ≡ Some y) xs made → (rest : List A)
    → all_of f (xs ++ rest) ≡ option_map (λ ys. made ++ ys) (all_of f rest)
unfolding all_of
read_before f [] [] h rest = same_rest (all_of f rest)
read_before f [] (y ∷ made) h rest = absurd h
read_before f (x ∷ xs) [] h rest = absurd h
read_before f (x ∷ xs) (y ∷ made) h rest =
    ap (λ o. with_first o (all_of f (xs ++ rest))) h.0 ∙ ap (with_first (Some y)) (read_before f xs made h.1 rest) ∙ shifted y made (all_of f rest)

pub all_read : {A B : Type 0} (f : A → Option B) (xs : List A) (made : List B) → AllZip (λ x y. f x ≡ Some y) xs made → Some made ≡ all_of f xs
unfolding all_of
all_read f xs made h = sym (ap (all_of f) (sym (append-nil xs)) ∙ read_before f xs made h [] ∙ ap Some (append-nil made))

pub first_is_none : {A B : Type 0} (f : A → Option B) (xs : List A) (n : ℕ) (made : List B) (x : A) → AllZip (λ x y. f x ≡ Some y) (take n xs) made
    → drop n xs ≡ x ∷ drop (n + 1) xs → f x ≡ None → None ≡ all_of f xs
unfolding all_of
first_is_none f xs n made x h next is =
    sym (ap (all_of f) (sym (take-append-drop n xs)) ∙ read_before f (take n xs) made h (drop n xs)
    ∙ ap (λ rest. option_map (λ ys. made ++ ys) (all_of f rest)) next
    ∙ ap (λ o. option_map (λ ys. made ++ ys) (with_first o (all_of f (drop (n + 1) xs)))) is)

-- ---- the front of an array

front : {B : Type 0} (done ys : List B) (x : B) → length done < length ys
    → slice_set (done ++ drop (length done) ys) (length done) x ≡ done ++ x ∷ drop (suc (length done)) ys
front [] [] x few = absurd (omega arith)
front [] (y ∷ ys) x few = refl
front (d ∷ done) [] x few = absurd (omega arith)
front (d ∷ done) (y ∷ ys) x few = ap (λ r. d ∷ r) (front done ys x (omega arith))

pub one_at_front : {A B : Type 0} (g : A → B) (rows : List A) (before now : List B) (i : ℕ) (row : A) (v : B) → i < length rows
    → length rows ≤ length before → row ≡ get_or rows i row → v ≡ g row → now ≡ map g (take i rows) ++ drop i before
    → slice_set now i v ≡ map g (take (i + 1) rows) ++ drop (i + 1) before
one_at_front g rows before now i row v few room at is so_far =
    (λ j. slice_set (so_far j) i (is j))
    ∙ subst (λ k. slice_set (map g (take i rows) ++ drop k before) k (g row) ≡ map g (take i rows) ++ g row ∷ drop (suc k) before) long
    (front (map g (take i rows)) before (g row) (omega (arith, long)))
    ∙ sym (ap (λ xs. map g xs ++ drop (i + 1) before) more
    ∙ ap (λ ys. ys ++ drop (i + 1) before) (map-append g (take i rows) (row ∷ []))
    ∙ append_assoc (map g (take i rows)) (g row ∷ []) (drop (i + 1) before)
    ∙ rw add-one refl)
  where
    long : length (map g (take i rows)) ≡ i
    long = length-map (take i rows) g ∙ length-take-le i rows (omega (arith, few))

    more : take (i + 1) rows ≡ take i rows ++ row ∷ []
    more = take_more rows i row few ∙ ap (λ r. take i rows ++ r ∷ []) (sym at)

-- the last ones were written, if there is no further one
pub all_at_front : {A B : Type 0} (g : A → B) (rows : List A) (before now : List B) (i : ℕ) → i ≤ length rows → slice_get rows i ≡ None
    → now ≡ map g (take i rows) ++ drop i before → now ≡ map g rows ++ drop (length rows) before
all_at_front g rows before now i few none so_far =
    elim ((slice_get_cases rows i).1) [
      | inl h ↦ absurd (some_none (sym h.2 ∙ none))
      | inr h ↦
          let all : i ≡ length rows =
          let past = h.0 in
          omega (arith, few, past)
          in
          so_far ∙ ap (λ xs. map g xs ++ drop i before) (take_all i rows h.0) ∙ ap (λ k. map g rows ++ drop k before) all
    ]
  where
    some_none : {A : Type 0} {x : A} → Some x ≡ None → ⊥
    some_none e = cc
