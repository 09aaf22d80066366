-- Lists of rising numbers, which their elements determine.
use Rattle.std.specs.Prelude.{◌≡◌, ℕ, zero, suc, ◌+◌, ◌<◌, ◌≤◌, ◌==◌, ◌||◌, ◌⊎◌, Bool, true, false, cond, List, [], ◌∷◌, filter, length, get_or}
use Rattle.std.specs.List.{AllByRecursion, list_any, range_with_len}
use Rattle.std.specs.List.Sorted.{IsStrictlySortedBy}
use Rattle.std.specs.Ordering.{nat_cmp}
use Rattle.std.specs.Cmp.{nat_cmp_is}
use Rattle.std.specs.declared.cmp.Ordering.TheVariants.{Less, Equal, Greater}
use Rattle.std.proofs.Common.{refl, ap, sym, subst, ◌∙◌, arith, inl, inr}
use Rattle.std.proofs.lemmas.Bool.Decides.{Decides-eqb}
use Rattle.jl_hierarchy.specs.ForProofs.Kept.{Rises}
use Rattle.std.proofs.lemmas.Bool.{or_right, both_ways}
use Rattle.std.proofs.lemmas.Cmp.{nat_eq_equiv}

-- whether the number is in the list
abbrev pub has : ℕ → List ℕ → Bool
has a xs = list_any (λ k. k == a) xs

pub other_number : (x a : ℕ) → x < a → (x == a) ≡ false
other_number x a lt = by_test (x == a) refl
  where
    by_test : (b : Bool) → (x == a) ≡ b → b ≡ false
    by_test true e = absurd (let same = (Decides-eqb x a).0 e in omega arith)
    by_test false e = refl

turned_number : (x a : ℕ) → a < x → (x == a) ≡ false
turned_number x a lt = by_test (x == a) refl
  where
    by_test : (b : Bool) → (x == a) ≡ b → b ≡ false
    by_test true e = absurd (let same = (Decides-eqb x a).0 e in omega arith)
    by_test false e = refl

-- no number up to x is among those above x
pub none_up_to : (x a : ℕ) (xs : List ℕ) → AllByRecursion (λ y. x < y) xs → a ≤ x → has a xs ≡ false
none_up_to x a [] h le = refl
none_up_to x a (y ∷ xs) h le =
    ap (λ (b : Bool). b || has a xs) (let lt = h.0 in turned_number y a (omega arith)) ∙ none_up_to x a xs h.1 le

head_alike : (x y : ℕ) (xs ys : List ℕ) → AllByRecursion (λ z. y < z) ys → (has x (x ∷ xs) ≡ has x (y ∷ ys)) → x < y → ⊥
head_alike x y xs ys above same lt =
    both_ways (has x (x ∷ xs)) (same ∙ ap (λ (b : Bool). b || has x ys) (turned_number y x lt) ∙ none_up_to y x ys above (omega arith))
    (ap (λ (b : Bool). b || has x xs) (nat_eq_equiv.refl x))

compare : (x y : ℕ) → (x < y) ⊎ ((x ≡ y) ⊎ (y < x))
compare zero zero = inr (inl refl)
compare zero (suc y) = inl (omega arith)
compare (suc x) zero = inr (inr (omega arith))
compare (suc x) (suc y) = elim (compare x y) [
  | inl lt ↦ inl (omega arith)
  | inr rest ↦ elim rest [ inl e ↦ inr (inl (ap suc e)) | inr gt ↦ inr (inr (omega arith)) ]
]

tail_alike : (x a : ℕ) (xs ys : List ℕ) → AllByRecursion (λ z. x < z) xs → AllByRecursion (λ z. x < z) ys
    → ((x == a) || has a xs) ≡ ((x == a) || has a ys) → has a xs ≡ has a ys
tail_alike x a xs ys above above' same = by_test (x == a) refl same
  where
    by_test : (b : Bool) → (x == a) ≡ b → (b || has a xs) ≡ (b || has a ys) → has a xs ≡ has a ys
    by_test true e same =
        let is = (Decides-eqb x a).0 e in
        none_up_to x a xs above (omega arith) ∙ sym (none_up_to x a ys above' (omega arith))
    by_test false e same = same

-- rising lists with the same numbers are equal
pub one_rising : (xs ys : List ℕ) → Rises xs → Rises ys → ((a : ℕ) → has a xs ≡ has a ys) → xs ≡ ys
one_rising [] [] r s same = refl
one_rising [] (y ∷ ys) r s same = absurd (both_ways (has y (y ∷ ys)) (sym (same y)) (ap (λ (b : Bool). b || has y ys) (nat_eq_equiv.refl y)))
one_rising (x ∷ xs) [] r s same = absurd (both_ways (has x (x ∷ xs)) (same x) (ap (λ (b : Bool). b || has x xs) (nat_eq_equiv.refl x)))
one_rising (x ∷ xs) (y ∷ ys) r s same = elim (compare x y) [
  | inl lt ↦ absurd (head_alike x y xs ys s.0 (same x) lt)
  | inr rest ↦ elim rest [
    | inl e ↦ joined e (λ more. one_rising xs ys r.1 s.1 more)
    | inr gt ↦ absurd (head_alike y x ys xs r.0 (sym (same y)) gt)
  ]
]
  where
    joined : x ≡ y → (((a : ℕ) → has a xs ≡ has a ys) → xs ≡ ys) → x ∷ xs ≡ y ∷ ys
    joined e on =
        let above : AllByRecursion (λ z. x < z) ys = subst (λ k. AllByRecursion (λ z. k < z) ys) (sym e) s.0 in
        let rest : xs ≡ ys = on (λ a. tail_alike x a xs ys r.0 above
        (same a ∙ ap (λ k. (k == a) || has a ys) (sym e))) in
        λ i. e i ∷ rest i

less_than : (x y : ℕ) → nat_cmp x y ≡ Less → x < y
less_than x y e = elim (compare x y) [
  | inl lt ↦ lt
  | inr rest ↦ elim rest [ inl same ↦ absurd (not_equal (nat_cmp_is x y Equal same ∙ e)) | inr gt ↦ absurd (not_greater (nat_cmp_is x y Greater gt ∙ e)) ]
]
  where
    not_equal : Equal ≡ Less → ⊥
    not_equal h = cc

    not_greater : Greater ≡ Less → ⊥
    not_greater h = cc

less_of : (x : ℕ) (xs : List ℕ) → AllByRecursion (λ y. nat_cmp x y ≡ Less) xs → AllByRecursion (λ y. x < y) xs
less_of x [] h = tt
less_of x (y ∷ xs) h = (less_than x y h.0, less_of x xs h.1)

pub rising_of : (xs : List ℕ) → IsStrictlySortedBy nat_cmp xs → Rises xs
unfolding IsStrictlySortedBy
rising_of [] h = tt
rising_of (x ∷ xs) h = (less_of x xs h.0, rising_of xs h.1)

-- what a filter leaves of a range rises
filtered_above : (p : ℕ → Bool) (x a n : ℕ) → x < a → AllByRecursion (λ y. x < y) (filter p (range_with_len a n))
filtered_above p x a zero lt = tt
filtered_above p x a (suc n) lt = by_test (p a) (filtered_above p x (a + 1) n (omega arith))
  where
    by_test : (b : Bool) → AllByRecursion (λ y. x < y) (filter p (range_with_len (a + 1) n))
        → AllByRecursion (λ y. x < y) (cond b (a ∷ filter p (range_with_len (a + 1) n)) (filter p (range_with_len (a + 1) n)))
    by_test true more = (lt, more)
    by_test false more = more

pub filter_rises : (p : ℕ → Bool) (a n : ℕ) → Rises (filter p (range_with_len a n))
filter_rises p a zero = tt
filter_rises p a (suc n) = by_test (p a) (filter_rises p (a + 1) n)
  where
    by_test : (b : Bool) → Rises (filter p (range_with_len (a + 1) n))
        → Rises (cond b (a ∷ filter p (range_with_len (a + 1) n)) (filter p (range_with_len (a + 1) n)))
    by_test true more = (filtered_above p a (a + 1) n (omega arith), more)
    by_test false more = more

-- ---- by place

pub above_at : (x : ℕ) (xs : List ℕ) (j : ℕ) → AllByRecursion (λ y. x < y) xs → j < length xs → x < get_or xs j 0
above_at x [] j h lt = absurd (omega arith)
above_at x (y ∷ xs) zero h lt = h.0
above_at x (y ∷ xs) (suc j) h lt = above_at x xs j h.1 (omega arith)

pub rising_at : (xs : List ℕ) → Rises xs → (i j : ℕ) → i ≤ j → j < length xs → get_or xs i 0 ≤ get_or xs j 0
rising_at [] r i j le lt = absurd (omega arith)
rising_at (x ∷ xs) r zero zero le lt = omega arith
rising_at (x ∷ xs) r zero (suc j) le lt = let more = above_at x xs j r.0 (omega arith) in omega arith
rising_at (x ∷ xs) r (suc i) zero le lt = absurd (omega arith)
rising_at (x ∷ xs) r (suc i) (suc j) le lt = rising_at xs r.1 i j (omega arith) (omega arith)

pub has_at : (x : ℕ) (xs : List ℕ) (i : ℕ) → i < length xs → get_or xs i 0 ≡ x → has x xs ≡ true
has_at x [] i lt e = absurd (omega arith)
has_at x (y ∷ xs) zero lt e = ap (λ (b : Bool). b || has x xs) ((Decides-eqb y x).1 e)
has_at x (y ∷ xs) (suc i) lt e = or_right (y == x) (has x xs) (has_at x xs i (omega arith) e)

pub has_none : (x : ℕ) (xs : List ℕ) → ((k : ℕ) → k < length xs → (get_or xs k 0 == x) ≡ false) → has x xs ≡ false
has_none x [] h = refl
has_none x (y ∷ xs) h = ap (λ (b : Bool). b || has x xs) (h 0 (omega arith)) ∙ has_none x xs (λ k lt. h (suc k) (omega arith))

-- a place that splits the list into less and more
pub split_none : (x : ℕ) (xs : List ℕ) (i : ℕ) → ((k : ℕ) → k < i → get_or xs k 0 < x)
    → ((k : ℕ) → i ≤ k → k < length xs → x < get_or xs k 0) → has x xs ≡ false
split_none x xs i low high = has_none x xs (λ k lt. elim (compare k i) [
  | inl less ↦ other_number (get_or xs k 0) x (low k less)
  | inr rest ↦ turned_number (get_or xs k 0) x (high k (elim rest [ inl e ↦ omega arith | inr gt ↦ omega arith ]) lt)
])
