-- What lanes of a vector of bytes, and windows of a text, tell of the text.
use Rattle.std.proofs.Common.{◌≡◌, ◌∙◌, refl, ap, ap₂, subst, arith, ℕ, zero, suc, ◌+◌, ◌*◌, ◌%◌, ◌^◌, ◌≤◌, leb, eqb, not, ◌||◌, Bool, true, false}
use Rattle.std.proofs.Common.{cond, List, [], ◌∷◌, length, take, drop, map, replicate, bit_or}
use Rattle.std.specs.List.{list_any}
use Rattle.std.proofs.lemmas.Bool.Decides.{nat_tests}
use Rattle.std.proofs.lemmas.List.{take_all, length-drop, length-map}
use Rattle.std.proofs.lemmas.Simd.{length-chunk, mask_l-mod}
use lib.Lanes.{chunk, mask_l, zip2, top}
use Rattle.jl_pool.specs.declared.form.Marks.{Marks}
use Rattle.jl_pool.specs.ForProofs.Marks.{is_barred, is_slash, is_angle, is_odd, marks_of, either}

-- ---- one vector

-- what a test makes of a lane
abbrev pub lane : Bool → ℕ
lane test = cond test 255 0

-- the lanes of a vector by a test of a byte
abbrev pub lanes : (ℕ → Bool) → List ℕ → List ℕ
lanes test v = map (λ x. lane (test x)) v

equal_lanes : (y : ℕ) (v : List ℕ) → zip2 (λ a b. lane (eqb a b)) v (replicate (length v) y) ≡ lanes (λ x. eqb x y) v
equal_lanes y [] = refl
equal_lanes y (x ∷ v) = ap (λ l. lane (eqb x y) ∷ l) (equal_lanes y v)

large_lanes : (y : ℕ) (v : List ℕ) → zip2 (λ a b. lane (leb a b)) (replicate (length v) y) v ≡ lanes (λ x. leb y x) v
large_lanes y [] = refl
large_lanes y (x ∷ v) = ap (λ l. lane (leb y x) ∷ l) (large_lanes y v)

or_lane : (a b : Bool) → bit_or (lane a) (lane b) ≡ lane (a || b)
or_lane true true = refl
or_lane true false = refl
or_lane false true = refl
or_lane false false = refl

or_lanes : (p q : ℕ → Bool) (v : List ℕ) → zip2 bit_or (lanes p v) (lanes q v) ≡ lanes (λ x. p x || q x) v
or_lanes p q [] = refl
or_lanes p q (x ∷ v) = ap (λ y. y ∷ zip2 bit_or (lanes p v) (lanes q v)) (or_lane (p x) (q x)) ∙ ap (λ l. lane (p x || q x) ∷ l) (or_lanes p q v)

top_lane : (a : Bool) → top 7 (lane a) ≡ a
top_lane true = refl
top_lane false = refl

top_lanes : (p : ℕ → Bool) (v : List ℕ) → map (top 7) (lanes p v) ≡ map p v
top_lanes p [] = refl
top_lanes p (x ∷ v) = ap (λ b. b ∷ map (top 7) (lanes p v)) (top_lane (p x)) ∙ ap (λ l. p x ∷ l) (top_lanes p v)

one_more : (here : Bool) (m : ℕ) (rest : Bool) → not (eqb m 0) ≡ rest → not (eqb (cond here 1 0 + 2 * m) 0) ≡ (here || rest)
one_more true m rest e = grind (arith, nat_tests)
one_more false m rest e = grind (arith, nat_tests)

some_lane : (p : ℕ → Bool) (v : List ℕ) → not (eqb (mask_l (map p v)) 0) ≡ list_any p v
some_lane p [] = refl
some_lane p (x ∷ v) = one_more (p x) (mask_l (map p v)) (list_any p v) (some_lane p v)

-- whether some lane is set, as the code asks it
abbrev pub is_some_set : List ℕ → Bool
is_some_set v = not (eqb (mask_l (map (top 7) v) % 2 ^ 64) 0)

pub some_set : (p : ℕ → Bool) (v : List ℕ) → length v ≤ 64 → is_some_set (lanes p v) ≡ list_any p v
some_set p v few =
    ap (λ l. not (eqb (mask_l l % 2 ^ 64) 0)) (top_lanes p v)
    ∙ ap (λ m. not (eqb m 0)) (mask_l-mod (map p v) 64 (omega (arith, length-map v p)))
    ∙ some_lane p v

abbrev pub equals : ℕ → ℕ → List ℕ → List ℕ
equals y n v = zip2 (λ a b. lane (eqb a b)) v (replicate n y)

-- the tests of a vector of n lanes, as the code makes them
abbrev marks_by_lanes : ℕ → List ℕ → Marks
marks_by_lanes n v = record {
  barred = is_some_set (zip2 bit_or (equals 46 n v) (zip2 bit_or (equals 59 n v) (equals 91 n v)));
  slash = is_some_set (equals 47 n v);
  angle = is_some_set (zip2 bit_or (equals 60 n v) (equals 62 n v));
  odd = is_some_set (zip2 bit_or (equals 0 n v) (zip2 (λ a b. lane (leb a b)) (replicate n 128) v));
}

two_equals : (y z : ℕ) (v : List ℕ) → zip2 bit_or (equals y (length v) v) (equals z (length v) v) ≡ lanes (λ x. eqb x y || eqb x z) v
two_equals y z v = ap₂ (zip2 bit_or) (equal_lanes y v) (equal_lanes z v) ∙ or_lanes (λ x. eqb x y) (λ x. eqb x z) v

barred_lanes : (v : List ℕ) → zip2 bit_or (equals 46 (length v) v) (zip2 bit_or (equals 59 (length v) v) (equals 91 (length v) v)) ≡ lanes is_barred v
barred_lanes v = ap₂ (zip2 bit_or) (equal_lanes 46 v) (two_equals 59 91 v) ∙ or_lanes (λ x. eqb x 46) (λ x. eqb x 59 || eqb x 91) v

pub odd_lanes : (v : List ℕ) → zip2 bit_or (equals 0 (length v) v) (zip2 (λ a b. lane (leb a b)) (replicate (length v) 128) v) ≡ lanes is_odd v
odd_lanes v = ap₂ (zip2 bit_or) (equal_lanes 0 v) (large_lanes 128 v) ∙ or_lanes (λ x. eqb x 0) (λ x. leb 128 x) v

by_lanes : (v : List ℕ) → length v ≤ 64 → marks_by_lanes (length v) v ≡ marks_of v
by_lanes v few =
    let barred = ap is_some_set (barred_lanes v) ∙ some_set is_barred v few in
    let slash = ap is_some_set (equal_lanes 47 v) ∙ some_set is_slash v few in
    let angle = ap is_some_set (two_equals 60 62 v) ∙ some_set is_angle v few in
    let odd = ap is_some_set (odd_lanes v) ∙ some_set is_odd v few in
    λ i. record { barred = barred i; slash = slash i; angle = angle i; odd = odd i }

pub marks_in_window : (text : List ℕ) (i n : ℕ) → i + n ≤ length text → n ≤ 64 → marks_by_lanes n (chunk i n text) ≡ marks_of (chunk i n text)
marks_in_window text i n room few =
    let v = chunk i n text in
    let long : length v ≡ n = length-chunk i n text room in
    subst (λ m. marks_by_lanes m v ≡ marks_of v) long (by_lanes v (omega (arith, long)))

-- ---- windows that overlap

or_assoc : (x y z : Bool) → ((x || y) || z) ≡ (x || (y || z))
or_assoc true y z = refl
or_assoc false y z = refl

absorbed : (here part all : Bool) → (part || all) ≡ all → ((here || part) || (here || all)) ≡ (here || all)
absorbed true part all e = refl
absorbed false part all e = e

module _ (test : ℕ → Bool) where
  -- what is in the front is in the text
  front : (n : ℕ) (text : List ℕ) → (list_any test (take n text) || list_any test text) ≡ list_any test text
  front zero text = refl
  front (suc n) [] = refl
  front (suc n) (x ∷ xs) = absorbed (test x) (list_any test (take n xs)) (list_any test xs) (front n xs)

  -- a front, and all from a place in it on
  pub covered : (i n : ℕ) (text : List ℕ) → i ≤ n → (list_any test (take n text) || list_any test (drop i text)) ≡ list_any test text
  covered zero n text le = front n text
  covered (suc i) zero text le = absurd (omega arith)
  covered (suc i) (suc n) [] le = refl
  covered (suc i) (suc n) (x ∷ xs) le =
      or_assoc (test x) (list_any test (take n xs)) (list_any test (drop i xs)) ∙ ap (λ b. test x || b) (covered i n xs (omega arith))

  -- a front, and a window after it
  pub longer : (i n j : ℕ) (text : List ℕ) → j ≡ i + n → (list_any test (take i text) || list_any test (take n (drop i text))) ≡ list_any test (take j text)
  longer zero n j text e = let same : n ≡ j = omega arith in ap (λ k. list_any test (take k text)) same
  longer (suc i) n zero text e = absurd (omega arith)
  longer (suc i) n (suc j) [] e = none n where
    none : (n : ℕ) → list_any test (take n []) ≡ false
    none zero = refl
    none (suc n) = refl
  longer (suc i) n (suc j) (x ∷ xs) e =
      or_assoc (test x) (list_any test (take i xs)) (list_any test (take n (drop i xs))) ∙ ap (λ b. test x || b) (longer i n j xs (omega arith))

-- the marks of a front and of a window after it
pub window_more : (i n j : ℕ) (text : List ℕ) → j ≡ i + n → either (marks_of (take i text)) (marks_of (take n (drop i text))) ≡ marks_of (take j text)
window_more i n j text e = λ k. record {
  barred = longer is_barred i n j text e k;
  slash = longer is_slash i n j text e k;
  angle = longer is_angle i n j text e k;
  odd = longer is_odd i n j text e k;
}

front_and_rest : (i n : ℕ) (text : List ℕ) → i ≤ n → either (marks_of (take n text)) (marks_of (drop i text)) ≡ marks_of text
front_and_rest i n text le = λ k. record {
  barred = covered is_barred i n text le k;
  slash = covered is_slash i n text le k;
  angle = covered is_angle i n text le k;
  odd = covered is_odd i n text le k;
}

-- the marks of a front and of the last window, which overlap
pub last_window : (i j n : ℕ) (text : List ℕ) → i ≤ j → length text ≤ i + n → either (marks_of (take j text)) (marks_of (take n (drop i text))) ≡ marks_of text
last_window i j n text le fits =
    ap (λ rest. either (marks_of (take j text)) (marks_of rest)) (take_all n (drop i text) (omega (arith, length-drop i text)))
    ∙ front_and_rest i j text le
