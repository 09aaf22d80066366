-- Values by site: what is found once a value is put in its place, and their order.
use Rattle.std.specs.Prelude.{◌≡◌, ℕ, suc, ◌<◌, ◌==◌, ◌⊎◌, nat_lt, Bool, true, false, cond, List, [], ◌∷◌, length, find}
use Rattle.std.specs.Prelude.{Some, None, option_map, if◌then◌else◌, AllPairs}
use Rattle.std.specs.List.{AllByRecursion, IsDistinct}
use Rattle.std.specs.Map.{lookup, keys_of}
use Rattle.std.proofs.Common.{refl, ap, sym, subst, ◌∙◌, arith, get_or, inl, inr}
use Rattle.std.proofs.lemmas.Bool.{ltb-false, ltb-true, cases_order, both_ways}
use Rattle.std.proofs.lemmas.Option.{same_Some}
use Rattle.std.proofs.lemmas.Cmp.{nat_eq_equiv}
use Rattle.std.proofs.lemmas.Bool.Decides.{Decides-eqb}
use Rattle.std.proofs.lemmas.List.Elements.{All-from_recursion}
use Rattle.std.proofs.lemmas.List.Kept.{AllPairs-cons}
use Rattle.std.proofs.lemmas.Map.Keys.{IsDistinct-head, IsDistinct-tail}
use Rattle.std.proofs.Math.Arith.{lt_of_le-ne}
use Rattle.jl_types.specs.ForProofs.BySite.{value_at, put, by_site}

-- ---- what is found

pub found_first : {A : Type 0} (s t : ℕ) (l : A) (rows : List (ℕ × A)) → value_at ((s, l) ∷ rows) t ≡ (if s == t then Some l else value_at rows t)
found_first s t l rows = by_test (s == t)
  where
    by_test : (b : Bool) → option_map (λ row. row.1) (cond b (Some (s, l)) (find (λ row. row.0 == t) rows)) ≡ (if b then Some l else value_at rows t)
    by_test true = refl
    by_test false = refl

pub found_put : {A : Type 0} (s : ℕ) (l : A) (rows : List (ℕ × A)) (t : ℕ) → value_at (put s l rows) t ≡ (if s == t then Some l else value_at rows t)
found_put s l [] t = found_first s t l []
found_put s l (row ∷ rows) t = by_order (nat_lt s row.0) (s == row.0) refl (found_put s l rows t)
  where
    by_key : (b d : Bool) → (s == t) ≡ b → (row.0 == t) ≡ d → (s == row.0) ≡ true
        → (if b then Some l else value_at rows t) ≡ (if b then Some l else option_map (λ r. r.1) (cond d (Some row) (find (λ r. r.0 == t) rows)))
    by_key true d e f g = refl
    by_key false true e f g = absurd (both_ways (s == t) e ((Decides-eqb s t).1 ((Decides-eqb s row.0).0 g ∙ (Decides-eqb row.0 t).0 f)))
    by_key false false e f g = refl

    below : (b d : Bool) → (s == t) ≡ b → (row.0 == t) ≡ d → (s == row.0) ≡ false → value_at (put s l rows) t ≡ (if b then Some l else value_at rows t)
        → option_map (λ r. r.1) (cond d (Some row) (find (λ r. r.0 == t) (put s l rows)))
        ≡ (if b then Some l else option_map (λ r. r.1) (cond d (Some row) (find (λ r. r.0 == t) rows)))
    below true true e f g ih = absurd (both_ways (s == row.0) g ((Decides-eqb s row.0).1 ((Decides-eqb s t).0 e ∙ sym ((Decides-eqb row.0 t).0 f))))
    below true false e f g ih = ih
    below false true e f g ih = refl
    below false false e f g ih = ih

    by_order : (before same : Bool) → (s == row.0) ≡ same → value_at (put s l rows) t ≡ (if s == t then Some l else value_at rows t)
        → value_at (if before then (s, l) ∷ row ∷ rows else if same then (s, l) ∷ rows else row ∷ put s l rows) t
        ≡ (if s == t then Some l else value_at (row ∷ rows) t)
    by_order true same e ih = found_first s t l (row ∷ rows)
    by_order false true e ih = found_first s t l rows ∙ by_key (s == t) (row.0 == t) refl refl e
    by_order false false e ih = below (s == t) (row.0 == t) refl refl e ih

-- the value that the map has at the site
pub found_by_site : {A : Type 0} (entries : List (ℕ × A)) (t : ℕ) → value_at (by_site entries) t ≡ lookup (λ k. t == k) entries
found_by_site [] t = refl
found_by_site (entry ∷ entries) t =
    found_put entry.0 entry.1 (by_site entries) t
    ∙ ap (λ (b : Bool). if b then Some entry.1 else value_at (by_site entries) t) (nat_eq_equiv.symm entry.0 t)
    ∙ by_test (t == entry.0) (found_by_site entries t)
  where
    by_test : (b : Bool) → value_at (by_site entries) t ≡ lookup (λ k. t == k) entries
        → (if b then Some entry.1 else value_at (by_site entries) t) ≡ cond b (Some entry.1) (lookup (λ k. t == k) entries)
    by_test true e = refl
    by_test false e = e

-- ---- order

all_after : {A : Type 0} (n s : ℕ) (l : A) (rows : List (ℕ × A)) → n < s → AllByRecursion (λ (r : ℕ × A). n < r.0) rows
    → AllByRecursion (λ (r : ℕ × A). n < r.0) (put s l rows)
all_after n s l [] h k = (h, tt)
all_after {A = A} n s l (row ∷ rows) h k = by_order (nat_lt s row.0) (s == row.0) (all_after n s l rows h k.1)
  where
    by_order : (before same : Bool) → AllByRecursion (λ (r : ℕ × A). n < r.0) (put s l rows)
        → AllByRecursion (λ (r : ℕ × A). n < r.0) (if before then (s, l) ∷ row ∷ rows else if same then (s, l) ∷ rows else row ∷ put s l rows)
    by_order true same ih = (h, k)
    by_order false true ih = (h, k.1)
    by_order false false ih = (k.0, ih)

-- each row before those after it
abbrev pub Rises : {A : Type 0} → List (ℕ × A) → Type 0
Rises [] = Unit {0}
Rises {A = A} (row ∷ rows) = AllByRecursion (λ (r : ℕ × A). row.0 < r.0) rows × Rises rows

pub wider : {A : Type 0} (n m : ℕ) (rows : List (ℕ × A)) → n < m → AllByRecursion (λ (r : ℕ × A). m < r.0) rows → AllByRecursion (λ (r : ℕ × A). n < r.0) rows
wider n m [] h k = tt
wider n m (row ∷ rows) h k = (let lt = k.0 in omega arith, wider n m rows h k.1)

rises_put : {A : Type 0} (s : ℕ) (l : A) (rows : List (ℕ × A)) → Rises rows → Rises (put s l rows)
rises_put s l [] h = (tt, tt)
rises_put {A = A} s l (row ∷ rows) h = by_order (nat_lt s row.0) (s == row.0) refl refl (rises_put s l rows h.1)
  where
    by_order : (before same : Bool) → nat_lt s row.0 ≡ before → (s == row.0) ≡ same → Rises (put s l rows)
        → Rises (if before then (s, l) ∷ row ∷ rows else if same then (s, l) ∷ rows else row ∷ put s l rows)
    by_order true same e f ih = ((ltb-true s row.0 e, wider s row.0 rows (ltb-true s row.0 e) h.0), h)
    by_order false true e f ih = (subst (λ n. AllByRecursion (λ (r : ℕ × A). n < r.0) rows) (sym ((Decides-eqb s row.0).0 f)) h.0, h.1)
    by_order false false e f ih =
        (all_after row.0 s l rows (lt_of_le-ne (ltb-false s row.0 e) (λ same. both_ways (s == row.0) f ((Decides-eqb s row.0).1 (sym same)))) h.0, ih)

pub rises : {A : Type 0} (entries : List (ℕ × A)) → Rises (by_site entries)
rises [] = tt
rises (entry ∷ entries) = rises_put entry.0 entry.1 (by_site entries) (rises entries)

pairs_of : {A : Type 0} (rows : List (ℕ × A)) → Rises rows → AllPairs (λ a b. a.0 < b.0) rows
pairs_of [] h = λ i j d lt le. absurd (omega arith)
pairs_of {A = A} (row ∷ rows) h = AllPairs-cons (λ (a b : ℕ × A). a.0 < b.0) row rows (All-from_recursion (λ (r : ℕ × A). row.0 < r.0) rows h.0)
    (pairs_of rows h.1)

pub sites_rise : {A : Type 0} (entries : List (ℕ × A)) → AllPairs (λ a b. a.0 < b.0) (by_site entries)
sites_rise entries = pairs_of (by_site entries) (rises entries)

-- ---- what is found in a rising list

pub same_there : {A : Type 0} (s : ℕ) (l : A) (rows : List (ℕ × A)) → value_at ((s, l) ∷ rows) s ≡ Some l
same_there s l rows = found_first s s l rows ∙ ap (λ (b : Bool). if b then Some l else value_at rows s) ((Decides-eqb s s).1 refl)

pub other_there : {A : Type 0} (s t : ℕ) (l : A) (rows : List (ℕ × A)) → ¬ (s ≡ t) → value_at ((s, l) ∷ rows) t ≡ value_at rows t
other_there s t l rows h = found_first s t l rows ∙ by_test (s == t) refl
  where
    by_test : (b : Bool) → (s == t) ≡ b → (if b then Some l else value_at rows t) ≡ value_at rows t
    by_test true e = absurd (h ((Decides-eqb s t).0 e))
    by_test false e = refl

-- nothing is found below the first site
pub none_below : {A : Type 0} (n : ℕ) (rows : List (ℕ × A)) → AllByRecursion (λ (r : ℕ × A). n < r.0) rows → value_at rows n ≡ None
none_below n [] h = refl
none_below n (row ∷ rows) h = other_there row.0 n row.1 rows (λ e. let lt = h.0 in omega arith) ∙ none_below n rows h.1

pub no_value : {A : Type 0} (l : A) → Some l ≡ None → ⊥
no_value l e = cc

-- ---- rising lists with equal values are equal

pub same_values : {A : Type 0} (xs ys : List (ℕ × A)) → Rises xs → Rises ys → ((s : ℕ) → value_at xs s ≡ value_at ys s) → xs ≡ ys
same_values [] [] h k e = refl
same_values [] (y ∷ ys) h k e = absurd (no_value y.1 (sym (same_there y.0 y.1 ys) ∙ sym (e y.0)))
same_values (x ∷ xs) [] h k e = absurd (no_value x.1 (sym (same_there x.0 x.1 xs) ∙ e x.0))
same_values {A = A} (x ∷ xs) (y ∷ ys) h k e = by_order (cases_order x.0 y.0) (same_values xs ys h.1 k.1)
  where
    tails : x.0 ≡ y.0 → (s : ℕ) → value_at xs s ≡ value_at ys s
    tails same s = by_test (x.0 == s) refl
      where
        by_test : (b : Bool) → (x.0 == s) ≡ b → value_at xs s ≡ value_at ys s
        by_test true is =
            let here = (Decides-eqb x.0 s).0 is in
            none_below s xs (subst (λ n. AllByRecursion (λ (r : ℕ × A). n < r.0) xs) here h.0)
            ∙ sym (none_below s ys (subst (λ n. AllByRecursion (λ (r : ℕ × A). n < r.0) ys) (sym same ∙ here) k.0))
        by_test false is =
            let other : ¬ (x.0 ≡ s) = λ at. both_ways (x.0 == s) is ((Decides-eqb x.0 s).1 at) in
            sym (other_there x.0 s x.1 xs other) ∙ e s ∙ other_there y.0 s y.1 ys (λ at. other (same ∙ at))

    heads : x.0 ≡ y.0 → x ≡ y
    heads same =
        let links : x.1 ≡ y.1 = same_Some x.1 y.1 (sym (same_there x.0 x.1 xs) ∙ e x.0 ∙ ap (value_at (y ∷ ys)) same ∙ same_there y.0 y.1 ys) in
        λ i. (same i, links i)

    by_order : ((x.0 ≡ y.0) ⊎ ((x.0 < y.0) ⊎ (y.0 < x.0))) → (((s : ℕ) → value_at xs s ≡ value_at ys s) → xs ≡ ys) → x ∷ xs ≡ y ∷ ys
    by_order (inr (inl lt)) rest = absurd (no_value x.1 (sym (same_there x.0 x.1 xs) ∙ e x.0 ∙ none_below x.0 (y ∷ ys) (lt, wider x.0 y.0 ys lt k.0)))
    by_order (inl same) rest = λ i. heads same i ∷ rest (tails same) i
    by_order (inr (inr gt)) rest = absurd (no_value y.1 (sym (same_there y.0 y.1 ys) ∙ sym (e y.0) ∙ none_below y.0 (x ∷ xs) (gt, wider y.0 x.0 xs gt h.0)))

-- ---- lists by AllPairs

each_above : {A : Type 0} (n : ℕ) (rows : List (ℕ × A)) → ((j : ℕ) (d : ℕ × A) → j < length rows → n < (get_or rows j d).0)
    → AllByRecursion (λ (r : ℕ × A). n < r.0) rows
each_above n [] h = tt
each_above n (row ∷ rows) h = (h 0 row (omega arith), each_above n rows (λ j d lt. h (suc j) d (omega arith)))

pub rises_of : {A : Type 0} (rows : List (ℕ × A)) → AllPairs (λ a b. a.0 < b.0) rows → Rises rows
rises_of [] h = tt
rises_of (row ∷ rows) h = (
  each_above row.0 rows (λ j d lt. h 0 (suc j) d (omega arith) (omega arith)),
  rises_of rows (λ i j d le lt. h (suc i) (suc j) d (omega arith) (omega arith)),
)

-- ---- how many there are

some_none : {A : Type 0} (l : A) → Some l ≡ None → ⊥
some_none l e = cc

-- a value of a new site makes the list longer
longer_put : {A : Type 0} (s : ℕ) (l : A) (rows : List (ℕ × A)) → value_at rows s ≡ None → length (put s l rows) ≡ suc (length rows)
longer_put s l [] h = refl
longer_put s l (row ∷ rows) h = by_place (row.0 == s) refl (λ e. longer_put s l rows (after false e))
  where
    after : (b : Bool) → (row.0 == s) ≡ b → (if b then Some row.1 else value_at rows s) ≡ None
    after b e = ap (λ (b : Bool). if b then Some row.1 else value_at rows s) (sym e) ∙ sym (found_first row.0 s row.1 rows) ∙ h

    by_order : (before same : Bool) → (s == row.0) ≡ same → (s == row.0) ≡ false → length (put s l rows) ≡ suc (length rows)
        → length (if before then (s, l) ∷ row ∷ rows else if same then (s, l) ∷ rows else row ∷ put s l rows) ≡ suc (suc (length rows))
    by_order true same e f ih = refl
    by_order false true e f ih = absurd (both_ways (s == row.0) f e)
    by_order false false e f ih = ap suc ih

    by_place : (b : Bool) → (row.0 == s) ≡ b → ((row.0 == s) ≡ false → length (put s l rows) ≡ suc (length rows))
        → length (put s l (row ∷ rows)) ≡ suc (length (row ∷ rows))
    by_place true e ih = absurd (some_none row.1 (after true e))
    by_place false e ih = by_order (nat_lt s row.0) (s == row.0) refl (nat_eq_equiv.symm s row.0 ∙ e) (ih e)

none_there : {A : Type 0} (s : ℕ) (entries : List (ℕ × A)) → AllByRecursion (λ k. (s == k) ≡ false) (keys_of entries) → lookup (λ k. s == k) entries ≡ None
none_there s [] h = refl
none_there s (entry ∷ entries) h = ap (λ b. cond b (Some entry.1) (lookup (λ k. s == k) entries)) h.0 ∙ none_there s entries h.1

-- entries of different sites are as many as the values
pub as_many : {A : Type 0} (entries : List (ℕ × A)) → IsDistinct (λ a b. a == b) (keys_of entries) → length (by_site entries) ≡ length entries
as_many [] h = refl
as_many (entry ∷ entries) h =
    longer_put entry.0 entry.1 (by_site entries)
    (found_by_site entries entry.0 ∙ none_there entry.0 entries (IsDistinct-head (λ a b. a == b) entry.0 (keys_of entries) h))
    ∙ ap suc (as_many entries (IsDistinct-tail (λ a b. a == b) entry.0 (keys_of entries) h))
