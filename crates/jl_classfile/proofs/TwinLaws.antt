-- Methods of one name and one descriptor.
use Rattle.std.proofs.Common.{◌≡◌, ℕ, zero, suc, ◌+◌, ◌<◌, ◌≤◌, Bool, true, false, not, ◌&&◌, List, [], ◌∷◌, ◌++◌, length, get_or}
use Rattle.std.proofs.Common.{take, drop, Option, Some, None, refl, sym, ap, ap₂, subst, ◌∙◌, arith, inl, inr}
use Rattle.std.specs.Prelude.{◌==◌, ◌||◌, nat_eq, nat_lt, MatchOption, IfSome, IsTrue, Decides, map, slice_get, option_map}
use Rattle.std.specs.Option.{option_map_or}
use Rattle.std.specs.List.{list_any, AllAdjacentBelow, IsAllAdjacentAnswer, IsDistinct}
use Rattle.std.specs.List.Sorted.{IsPermutation, IsSorted, IsStrictlyIncreasing}
use Rattle.std.specs.Ordering.{nat_cmp}
use Rattle.std.specs.Borrow.{Bor}
use Rattle.std.specs.Str.{bytes_eq}
use Rattle.std.proofs.lemmas.Option.{slice_get-map, slice_get-get_or, slice_get_within, get_or_from_slice_get}
use Rattle.std.proofs.lemmas.List.Sorted.{IsPermutation-sym, IsNonDecreasingBy-from_sort}
use Rattle.std.proofs.lemmas.Map.Keys.{IsDistinct-IsPermutation, IsDistinct-from_apart, apart_from_distinct, sorted_from_strictly_increasing}
use Rattle.std.proofs.lemmas.Map.Keys.{below_from_sorted, IsStrictlyIncreasing-from_distinct}
use Rattle.std.proofs.lemmas.Bool.{cases_lt, eqb-false, and_parts}
use Rattle.std.proofs.Math.Seq.{take-append_seam}
use Rattle.std.proofs.lemmas.Bool.Decides.{nat_tests}
use Rattle.std.proofs.lemmas.Slice.Eq.{bytes_eq-Decides}
use Rattle.jl_names.specs.Repeats.{NameOneText, SameTexts, IsRepeat, NoRepeat, IsFirstRepeat}
use Rattle.jl_classfile.specs.declared.body.Member.{Member}
use Rattle.jl_pool.specs.Pools.{Pool, text_at}
use Rattle.jl_classfile.specs.Conditions.{is_text, same_place_text, same_method, no_twins}
use Rattle.jl_classfile.specs.ForProofs.Members.{is_at, IsTwin, IsFirstTwin, IsTextAt, AreTexts, print_onto, print_of}

-- ---- the texts of a pool, kept for the methods so far

-- the methods before this place have their texts kept
abbrev Kept : List (Option (Bor (List ℕ))) → Pool → List Member → ℕ → Type 0
Kept texts pool ms i = (k : ℕ) (m : Member) → k < i → slice_get ms k ≡ Some m → AreTexts texts pool m

-- what was kept stays
abbrev Stays : List (Option (Bor (List ℕ))) → List (Option (Bor (List ℕ))) → Pool → Type 0
Stays old new pool = (n : ℕ) → IsTextAt old pool n → IsTextAt new pool n

pub keep_more : (old mid new : List (Option (Bor (List ℕ)))) (pool : Pool) (ms : List Member) (i : ℕ) (m : Member) → i < length ms → m ≡ get_or ms i m
    → Kept old pool ms i
    → Stays old mid pool → IsTextAt mid pool m.name → Stays mid new pool → IsTextAt new pool m.descriptor → Kept new pool ms (i + 1)
keep_more old mid new pool ms i m within item kept first name second descriptor k n lt e = elim (cases_lt k i) [
  | inl before ↦ let was = kept k n before e in (second n.name (first n.name was.0), second n.descriptor (first n.descriptor was.1))
  | inr last ↦
      let here : k ≡ i = omega (arith, lt, last) in
      let stands : slice_get ms i ≡ Some m = slice_get-get_or ms i m within ∙ ap (λ (x : Member). Some x) (sym item) in
      let both : ◌≡◌ {A = Option Member} (Some m) (Some n) = sym stands ∙ ap (λ (j : ℕ). slice_get ms j) (sym here) ∙ e in
      let same : m ≡ n = cc in
      subst (λ (x : Member). AreTexts new pool x) same (second m.name name, descriptor)
]

pub keep_all : (texts : List (Option (Bor (List ℕ)))) (pool : Pool) (ms : List Member) (i : ℕ) → length ms ≤ i → Kept texts pool ms i → (k : ℕ) (m : Member)
    → slice_get ms k ≡ Some m → AreTexts texts pool m
keep_all texts pool ms i all kept k m e = let within = slice_get_within ms k m e in kept k m (omega (arith, within, all)) e

-- all items were written
pub filled : {X : Type 0} (n : ℕ) (old new : List X) → length new ≡ n → take n (new ++ drop (length new) old) ≡ new
filled {X = X} n old new e = ap (λ (k : ℕ). take k (new ++ drop (length new) old)) (sym e) ∙ take-append_seam new (drop (length new) old)

-- ---- one name and one descriptor

placed : (pool : Pool) (n : ℕ) (t : List ℕ) (u : Option (List ℕ)) → text_at pool n ≡ u → option_map_or (λ x. bytes_eq x t) u false ≡ true
    → text_at pool n ≡ Some t
placed pool n t None e h = absurd cc
placed pool n t (Some x) e h = e ∙ ap (λ (y : List ℕ). Some y) ((bytes_eq-Decides x t).0 h)

pub record OneText (pool : Pool) (m n : ℕ) : Type 0 where
  pub text : List ℕ
  pub one : text_at pool m ≡ Some text
  pub other : text_at pool n ≡ Some text

one_text : (pool : Pool) (m n : ℕ) → same_place_text pool m n ≡ true → OneText pool m n
one_text pool m n e = by_text (text_at pool n) refl e where
  by_text : (u : Option (List ℕ)) → text_at pool n ≡ u → option_map_or (is_text pool m) u false ≡ true → OneText pool m n
  by_text None is h = absurd cc
  by_text (Some t) is h = record { text = t; one = placed pool m t (text_at pool m) refl h; other = is }

text_one : (pool : Pool) (m n : ℕ) → OneText pool m n → same_place_text pool m n ≡ true
text_one pool m n o =
    ap (λ (u : Option (List ℕ)). option_map_or (is_text pool m) u false) o.other
    ∙ ap (λ (u : Option (List ℕ)). option_map_or (λ t. bytes_eq t o.text) u false) o.one
    ∙ (bytes_eq-Decides o.text o.text).1 refl

abbrev signature : Member → ℕ × ℕ
signature m = (m.name, m.descriptor)

module _ (texts : List (Option (Bor (List ℕ)))) (pool : Pool) (ms : List Member) (pairs : List (ℕ × ℕ))
    (same : (k : ℕ) (m : Member) → slice_get ms k ≡ Some m → AreTexts texts pool m) (signed : pairs ≡ map (λ m. (m.name, m.descriptor)) ms) where
  named : (m n : ℕ) → IsTextAt texts pool m → IsTextAt texts pool n → OneText pool m n → NameOneText texts n m
  named m n x y o = record { text = o.text; one = y ∙ o.other; other = x ∙ o.one }

  unnamed : (m n : ℕ) → IsTextAt texts pool m → IsTextAt texts pool n → NameOneText texts n m → OneText pool m n
  unnamed m n x y o = record { text = o.text; one = sym x ∙ o.other; other = sym y ∙ o.one }

  pair_at : (i : ℕ) → slice_get pairs i ≡ option_map signature (slice_get ms i)
  pair_at i = ap (λ (l : List (ℕ × ℕ)). slice_get l i) signed ∙ slice_get-map signature ms i

  paired : (i : ℕ) (m : Member) → slice_get ms i ≡ Some m → slice_get pairs i ≡ Some (signature m)
  paired i m e = pair_at i ∙ ap (λ (o : Option Member). option_map signature o) e

  unpaired : (i : ℕ) (p : ℕ × ℕ) (o : Option Member) → slice_get ms i ≡ o → option_map signature o ≡ Some p → (m : Member) × (slice_get ms i ≡ Some m)
      × (signature m ≡ p)
  unpaired i p None e h = absurd cc
  unpaired i p (Some m) e h = (m, e, cc)

  twin_repeats : (i : ℕ) → IsTwin pool ms i → IsRepeat texts pairs i
  twin_repeats i t =
      let both = and_parts (same_place_text pool t.other.name t.one.name) (same_place_text pool t.other.descriptor t.one.descriptor) t.same in
      let other = same i t.other t.other_stands in
      let one = same t.earlier t.one t.one_stands in
      record {
        earlier = t.earlier;
        before = t.before;
        pair = signature t.one;
        again = signature t.other;
        pair_stands = paired t.earlier t.one t.one_stands;
        again_stands = paired i t.other t.other_stands;
        same = record {
          first = named t.other.name t.one.name other.0 one.0 (one_text pool t.other.name t.one.name both.0);
          second = named t.other.descriptor t.one.descriptor other.1 one.1 (one_text pool t.other.descriptor t.one.descriptor both.1);
        };
      }

  repeat_twins : (i : ℕ) → IsRepeat texts pairs i → IsTwin pool ms i
  repeat_twins i r =
      let a = unpaired r.earlier r.pair (slice_get ms r.earlier) refl (sym (pair_at r.earlier) ∙ r.pair_stands) in
      let b = unpaired i r.again (slice_get ms i) refl (sym (pair_at i) ∙ r.again_stands) in
      let there : SameTexts texts (signature a.0) (signature b.0) =
      subst (λ (p : ℕ × ℕ). SameTexts texts p (signature b.0)) (sym a.2) (subst (λ (q : ℕ × ℕ). SameTexts texts r.pair q) (sym b.2) r.same)
      in
      let other = same i b.0 b.1 in
      let one = same r.earlier a.0 a.1 in
      let names = text_one pool b.0.name a.0.name (unnamed b.0.name a.0.name other.0 one.0 there.first) in
      let descriptors = text_one pool b.0.descriptor a.0.descriptor (unnamed b.0.descriptor a.0.descriptor other.1 one.1 there.second) in
      record {
        earlier = r.earlier;
        before = r.before;
        one = a.0;
        other = b.0;
        one_stands = a.1;
        other_stands = b.1;
        same = rw (names, descriptors) refl;
      }

  pub twins_of : (found : Option ℕ) → MatchOption found (NoRepeat texts pairs) (IsFirstRepeat texts pairs)
      → MatchOption found ((i : ℕ) → ¬ IsTwin pool ms i) (IsFirstTwin pool ms)
  twins_of None none = λ i t. none i (twin_repeats i t)
  twins_of (Some i) f = record { twin = repeat_twins i f.repeat; first = λ k lt t. f.first k lt (twin_repeats k t) }

-- ---- prints

flips : (a b : ℕ) → nat_eq a b ≡ nat_eq b a
flips a b = grind (arith, nat_tests)

apart : (a b : ℕ) → a < b → nat_eq a b ≡ false
apart a b lt = grind (arith, nat_tests)

rises : (xs : List ℕ) → AllAdjacentBelow (λ x y. true ≡ nat_lt x y) xs (length xs) → IsStrictlyIncreasing xs
rises xs h k within = let test = h k 0 within in grind (arith, nat_tests)

-- numbers are distinct exactly if they rise once they are sorted
pub distinct_if_rising : (xs ys : List ℕ) (answer : Bool) → IsPermutation xs ys → IsSorted nat_cmp ys → IsAllAdjacentAnswer (λ x y b. b ≡ nat_lt x y) ys answer
    → Decides answer (IsDistinct nat_eq xs)
distinct_if_rising xs ys true moved sorted h =
    let strict = sorted_from_strictly_increasing ys (rises ys h) in
    let there = IsDistinct-from_apart nat_eq ys (λ i j d lt within. apart (get_or ys i d) (get_or ys j d) (below_from_sorted ys i j d strict lt within)) in
    (λ e. IsDistinct-IsPermutation nat_eq flips ys xs (IsPermutation-sym xs ys moved) there, λ distinct. refl)
distinct_if_rising xs ys false moved sorted h = (
  λ e. absurd cc,
  λ distinct.
      let up = IsStrictlyIncreasing-from_distinct ys (IsNonDecreasingBy-from_sort (λ x. x) ys sorted)
      (IsDistinct-IsPermutation nat_eq flips xs ys moved distinct) in
      let below = up h.0 h.1 in
      let test = h.2 0 in
      absurd grind (arith, nat_tests),
)

same_print : (pool : Pool) (a b : Member) → same_method pool a b ≡ true → print_of pool a ≡ print_of pool b
same_print pool a b e =
    let both = and_parts (same_place_text pool a.name b.name) (same_place_text pool a.descriptor b.descriptor) e in
    let name = one_text pool a.name b.name both.0 in
    let descriptor = one_text pool a.descriptor b.descriptor both.1 in
    ap₂ (λ (n d : Option (List ℕ)). print_onto (print_onto 0 n) d) (name.one ∙ sym name.other) (descriptor.one ∙ sym descriptor.other)

-- methods of distinct prints have no twins
pub no_twins_if_distinct : (pool : Pool) (ms : List Member) (prints : List ℕ) → prints ≡ map (print_of pool) ms → IsDistinct nat_eq prints → (i : ℕ)
    → ¬ IsTwin pool ms i
no_twins_if_distinct pool ms prints are distinct i t =
    let print_at : (k : ℕ) (m : Member) → slice_get ms k ≡ Some m → slice_get prints k ≡ Some (print_of pool m) =
    λ k m e.
    ap (λ (l : List ℕ). slice_get l k) are ∙ slice_get-map (print_of pool) ms k ∙ ap (λ (o : Option Member). option_map (print_of pool) o) e
    in
    let one = print_at t.earlier t.one t.one_stands in
    let other = print_at i t.other t.other_stands in
    let differ = apart_from_distinct nat_eq prints t.earlier i 0 distinct t.before (slice_get_within prints i (print_of pool t.other) other) in
    let there = get_or_from_slice_get prints t.earlier (print_of pool t.one) 0 one in
    let here = get_or_from_slice_get prints i (print_of pool t.other) 0 other in
    let same = there ∙ sym (same_print pool t.other t.one t.same) ∙ sym here in
    eqb-false (get_or prints t.earlier 0) (get_or prints i 0) differ same

-- ---- no two of them

not_so : (b : Bool) → ¬ IsTrue b → b ≡ false
not_so true h = absurd (h refl)
not_so false h = refl

neither : (a b : Bool) → a ≡ false → b ≡ false → (a || b) ≡ false
neither false b e h = h
neither true b e h = absurd cc

none_and : (a b : Bool) → a ≡ false → IsTrue b → IsTrue (not a && b)
none_and false b e h = h
none_and true b e h = absurd cc

abbrev Fresh : Pool → List Member → List Member → Type 0
Fresh pool earlier ms =
    (i : ℕ) (m : Member) → slice_get ms i ≡ Some m
    → (list_any (same_method pool m) earlier ≡ false) × ((j : ℕ) (e : Member) → j < i → slice_get ms j ≡ Some e → same_method pool m e ≡ false)

distinct_from : (pool : Pool) (earlier ms : List Member) → Fresh pool earlier ms → IsTrue (no_twins pool earlier ms)
distinct_from pool earlier [] h = refl
distinct_from pool earlier (m ∷ ms) h = none_and (list_any (same_method pool m) earlier) (no_twins pool (m ∷ earlier) ms) (h zero m refl).0
    (distinct_from pool (m ∷ earlier) ms later) where
      later : Fresh pool (m ∷ earlier) ms
      later i n e =
          let there = h (suc i) n e in (
            neither (same_method pool n m) (list_any (same_method pool n) earlier) (there.1 zero m (omega arith) refl) there.0,
            λ j a lt ea. there.1 (suc j) a (omega (arith, lt)) ea,
          )

distinct : (pool : Pool) (ms : List Member) → ((i : ℕ) → ¬ IsTwin pool ms i) → IsTrue (no_twins pool [] ms)
distinct pool ms none =
    distinct_from pool [] ms
    (λ i m e. (
      refl,
      λ j a lt ea.
          not_so (same_method pool m a) (λ s. none i (record { earlier = j; before = lt; one = a; other = m; one_stands = ea; other_stands = e; same = s })),
    ))

pub distinct_unless : (pool : Pool) (ms : List Member) (found : Option ℕ) → MatchOption found ((i : ℕ) → ¬ IsTwin pool ms i) (IsFirstTwin pool ms)
    → IfSome found (λ t. length ms ≤ t) → IsTrue (no_twins pool [] ms)
distinct_unless pool ms None none h = distinct pool ms none
distinct_unless pool ms (Some t) f h = let low = slice_get_within ms t f.twin.other f.twin.other_stands in absurd (omega (arith, h, low))

pub past : (found : Option ℕ) (i : ℕ) → IfSome found (λ t. i ≤ t) → is_at found i ≡ false → IfSome found (λ t. i + 1 ≤ t)
past None i h e = tt
past (Some t) i h e = grind (arith, nat_tests)

same_place : (t i : ℕ) → (t == i) ≡ true → t ≡ i
same_place t i e = grind (arith, nat_tests)

pub twin_at : (pool : Pool) (ms : List Member) (found : Option ℕ) (i : ℕ) → MatchOption found ((k : ℕ) → ¬ IsTwin pool ms k) (IsFirstTwin pool ms)
    → is_at found i ≡ true → IsTwin pool ms i
twin_at pool ms None i none e = absurd cc
twin_at pool ms (Some t) i f e = subst (λ (k : ℕ). IsTwin pool ms k) (same_place t i e) f.twin
