-- Walks over lists.
use Rattle.std.specs.Prelude.{◌≡◌, ℕ, ◌+◌, ◌<◌, Bool, true, false, cond, ◌||◌, List, [], ◌∷◌, ◌++◌, filter, drop, take, length}
use Rattle.std.specs.Prelude.{get_or, slice_get, Some, if◌then◌else◌, nat_eq, ◌==◌}
use Rattle.std.specs.List.{list_any}
use Rattle.std.proofs.Common.{refl, ap, sym, ◌∙◌, Vec}
use Rattle.std.proofs.lemmas.Cmp.{nat_eq_equiv}
use Rattle.std.proofs.lemmas.List.{take_more}
use Rattle.std.proofs.lemmas.List.Elements.{filter-append}
use Rattle.jl_types.specs.Values.World.{Class}
use Rattle.jl_types.proofs.Lists.{left_at}
use Rattle.jl_hierarchy.specs.ForProofs.Kept.{named}
use Rattle.jl_hierarchy.specs.Retiring.{is_row_of, own_recorded}

grouped : {A : Type 0} (xs ys zs : List A) → (xs ++ ys) ++ zs ≡ xs ++ (ys ++ zs)
grouped [] ys zs = refl
grouped (x ∷ xs) ys zs = ap (λ (us : List _). x ∷ us) (grouped xs ys zs)

-- a number is sought either way round
pub any_turned : (k : ℕ) (xs : List ℕ) → list_any (nat_eq k) xs ≡ list_any (λ x. x == k) xs
any_turned k [] = refl
any_turned k (x ∷ xs) = λ i. nat_eq_equiv.symm k x i || any_turned k xs i

-- ---- records

-- whether one of those from this place on passes, by the first
pub any_next : {A : Type 0} (p : ℕ → Bool) (entries : List (Vec ℕ A × ℕ)) (n : ℕ) (key : Vec ℕ A) (c : ℕ) → Some (key, c) ≡ slice_get entries n
    → list_any (λ r. p r.1) (named (drop n entries)) ≡ (p c || list_any (λ r. p r.1) (named (drop (n + 1) entries)))
any_next p entries n key c e = ap (λ es. list_any (λ r. p r.1) (named es)) (left_at entries n (key, c) (sym e))

-- those of the loader from this place on, by the first
pub own_next : {A : Type 0} (rows : List Class) (loader : ℕ) (entries : List (Vec ℕ A × ℕ)) (n : ℕ) (key : Vec ℕ A) (c : ℕ) (xs : List ℕ)
    → Some (key, c) ≡ slice_get entries n
    → (xs ++ (if is_row_of rows loader c then c ∷ [] else [])) ++ own_recorded rows loader (named (drop (n + 1) entries))
    ≡ xs ++ own_recorded rows loader (named (drop n entries))
own_next rows loader entries n key c xs e =
    grouped xs (if is_row_of rows loader c then c ∷ [] else []) (own_recorded rows loader (named (drop (n + 1) entries)))
    ∙ ap (λ (ys : List ℕ). xs ++ ys) (by_test (is_row_of rows loader c) (own_recorded rows loader (named (drop (n + 1) entries))))
    ∙ sym (ap (λ es. xs ++ own_recorded rows loader (named es)) (left_at entries n (key, c) (sym e)))
  where
    by_test : (b : Bool) (ys : List ℕ) → (if b then c ∷ [] else []) ++ ys ≡ cond b (c ∷ ys) ys
    by_test true ys = refl
    by_test false ys = refl

-- ---- filters

-- a filter of one element more
pub filtered_more : (p : ℕ → Bool) (xs : List ℕ) (n x : ℕ) → n < length xs → x ≡ get_or xs n x
    → filter p (take (n + 1) xs) ≡ filter p (take n xs) ++ (if p x then x ∷ [] else [])
filtered_more p xs n x lt is =
    ap (filter p) (take_more xs n x lt ∙ ap (λ (y : ℕ). take n xs ++ y ∷ []) (sym is))
    ∙ filter-append p (take n xs) (x ∷ [])
    ∙ ap (λ (ys : List ℕ). filter p (take n xs) ++ ys) (by_test (p x))
  where
    by_test : (b : Bool) → cond b (x ∷ []) [] ≡ (if b then x ∷ [] else [])
    by_test true = refl
    by_test false = refl
