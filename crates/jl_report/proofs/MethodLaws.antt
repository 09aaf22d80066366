-- Different methods that are collected, call by call.
use Rattle.std.proofs.Common.{◌≡◌, ◌∙◌, sym, ap, refl, arith, append_assoc, append-nil, length-append, ℕ, zero, suc, ◌≤◌, ◌<◌, ◌+◌, ◌==◌, ◌&&◌, ◌||◌}
use Rattle.std.proofs.Common.{List, [], ◌∷◌, ◌++◌, take, drop, length, cond}
use Rattle.std.specs.Prelude.{Bool, true, false, not, filter, filter_map, slice_get, is_some, Option, Some, None, option_to_list, if◌then◌else◌}
use Rattle.std.specs.List.{list_any, cons_option, AllByRecursion, IsDistinct}
use Rattle.std.specs.Option.{option_map_or}
use Rattle.std.proofs.lemmas.Bool.{and_parts}
use Rattle.std.proofs.lemmas.Bool.Decides.{Decides-eqb}
use Rattle.std.proofs.lemmas.List.Folds.{list_any-append}
use Rattle.std.proofs.lemmas.Map.Keys.{IsDistinct-cons}
use Rattle.std.proofs.lemmas.Map.Views.{any-filter_same}
use Rattle.jl_types.specs.declared.ids.MethodId.{MethodId}
use Rattle.jl_types.specs.Values.World.{Class, Classes}
use Rattle.jl_types.specs.Values.Members.{has_class, is_concrete, numbers}
use Rattle.jl_types.specs.Values.Ancestry.{parents, is_ancestor_within, is_ancestor, receivers}
use Rattle.jl_report.specs.Methods.{is_same, distinct}
use Rattle.jl_report.specs.ForProofs.Found.{is_among, with_run}

-- ---- filters

filter_twice : {X : Type 0} (p q r : X → Bool) → ((x : X) → r x ≡ (q x && p x)) → (xs : List X) → filter p (filter q xs) ≡ filter r xs
filter_twice p q r is [] = refl
filter_twice {X = X} p q r is (x ∷ xs) = with_first (q x) (r x) (is x) (filter_twice p q r is xs)
  where
    with_first : (b t : Bool) → t ≡ (b && p x) → filter p (filter q xs) ≡ filter r xs
        → filter p (cond b (x ∷ filter q xs) (filter q xs)) ≡ cond t (x ∷ filter r xs) (filter r xs)
    with_first false t e rest = rest ∙ sym (ap (λ (b : Bool). cond b (x ∷ filter r xs) (filter r xs)) e)
    with_first true t e rest =
        (λ i. cond (p x) (x ∷ rest i) (rest i)) ∙ sym (ap (λ (b : Bool). cond b (x ∷ filter r xs) (filter r xs)) e)

-- ---- one call more

-- those that aren't among these
abbrev pub others : List MethodId → List MethodId → List MethodId
others ms ds = filter (λ n. not (is_among ms n)) ds

-- methods of one class and one number are the same to each test
alike : (ms : List MethodId) (m n : MethodId) → is_same m n ≡ true → is_among ms m ≡ is_among ms n
alike ms m n e =
    let parts = and_parts (m.class == n.class) (m.index == n.index) e in
    let p = (Decides-eqb m.class n.class).0 parts.0 in
    let q = (Decides-eqb m.index n.index).0 parts.1 in
    λ i. list_any (λ k. (k.class == p i) && (k.index == q i)) ms

-- what isn't among some isn't one of them
apart : (ms : List MethodId) (m n : MethodId) → is_among ms m ≡ true → not (is_among ms n) ≡ (not (is_same m n) && not (is_among ms n))
apart ms m n there = by_test (is_same m n) refl
  where
    by_test : (b : Bool) → is_same m n ≡ b → not (is_among ms n) ≡ (not b && not (is_among ms n))
    by_test true e = ap not (sym (alike ms m n e) ∙ there)
    by_test false e = refl

not_either : (a b : Bool) → not (a || (b || false)) ≡ (not b && not a)
not_either true true = refl
not_either true false = refl
not_either false true = refl
not_either false false = refl

one_run : (ms : List MethodId) (o : Option MethodId) (rest : List MethodId)
    → with_run ms o ++ others (with_run ms o) (distinct rest) ≡ ms ++ others ms (distinct (cons_option o rest))
one_run ms None rest = refl
one_run ms (Some m) rest = by_test (is_among ms m) refl
  where
    left : List MethodId
    left = filter (λ n. not (is_same m n)) (distinct rest)

    by_test : (b : Bool) → is_among ms m ≡ b
        → (if b then ms else ms ++ m ∷ []) ++ others (if b then ms else ms ++ m ∷ []) (distinct rest) ≡ ms ++ others ms (distinct (m ∷ rest))
    by_test true there =
        let same = filter_twice (λ n. not (is_among ms n)) (λ n. not (is_same m n)) (λ n. not (is_among ms n))
        (λ n. apart ms m n there) (distinct rest) in
        ap (λ (xs : List MethodId). ms ++ xs) (sym same ∙ sym (ap (λ (b : Bool). cond (not b) (m ∷ others ms left) (others ms left)) there))
    by_test false new =
        let same = filter_twice (λ n. not (is_among ms n)) (λ n. not (is_same m n)) (λ n. not (is_among (ms ++ m ∷ []) n))
        (λ n. ap not (list_any-append (λ k. is_same k n) ms (m ∷ [])) ∙ not_either (is_among ms n) (is_same m n)) (distinct rest) in
        append_assoc ms (m ∷ []) (others (ms ++ m ∷ []) (distinct rest))
        ∙ ap (λ (xs : List MethodId). ms ++ m ∷ xs) (sym same)
        ∙ sym (ap (λ (b : Bool). ms ++ cond (not b) (m ∷ others ms left) (others ms left)) new)

pub one_alone : (o : Option MethodId) → with_run [] o ≡ distinct (option_to_list o)
one_alone None = refl
one_alone (Some m) = refl

-- ---- the loop

-- those so far and the others of the calls from here on are those of all, and so far there are so many at most
pub record Found (f : ℕ → Option MethodId) (xs : List ℕ) (most i : ℕ) (ms : List MethodId) : Type 0 where
  pub all : ms ++ others ms (distinct (filter_map f (drop i xs))) ≡ distinct (filter_map f xs)
  pub few : length ms ≤ most

others_none : (ds : List MethodId) → others [] ds ≡ ds
others_none [] = refl
others_none (d ∷ ds) = ap (λ (xs : List MethodId). d ∷ xs) (others_none ds)

pub begun : (f : ℕ → Option MethodId) (xs : List ℕ) (most : ℕ) → Found f xs most 0 []
begun f xs most = record { all = others_none (distinct (filter_map f xs)); few = omega arith }

one_longer : (ms : List MethodId) (o : Option MethodId) (most : ℕ) → length ms < most → length (with_run ms o) ≤ most
one_longer ms None most lt = omega (arith, lt)
one_longer ms (Some m) most lt = by_test (is_among ms m)
  where
    by_test : (b : Bool) → length (if b then ms else ms ++ m ∷ []) ≤ most
    by_test true = omega (arith, lt)
    by_test false = let e = length-append ms (m ∷ []) in omega (arith, lt, e)

pub one_more : (f : ℕ → Option MethodId) (xs : List ℕ) (most i : ℕ) (ms : List MethodId) (x : ℕ) → Found f xs most i ms → drop i xs ≡ x ∷ drop (i + 1) xs
    → length ms < most → Found f xs most (i + 1) (with_run ms (f x))
one_more f xs most i ms x found at lt = record {
  all =
      one_run ms (f x) (filter_map f (drop (i + 1) xs))
      ∙ sym (ap (λ (ys : List ℕ). ms ++ others ms (distinct (filter_map f ys))) at)
      ∙ found.all;
  few = one_longer ms (f x) most lt;
}

take_all : (ms : List MethodId) (n : ℕ) → length ms ≤ n → take n ms ≡ ms
take_all [] zero le = refl
take_all [] (suc n) le = refl
take_all (m ∷ ms) zero le = absurd (omega (arith, le))
take_all (m ∷ ms) (suc n) le = ap (λ (xs : List MethodId). m ∷ xs) (take_all ms n (omega (arith, le)))

pub take_front : {A : Type 0} (xs rest : List A) (n : ℕ) → length xs ≤ n → n ≤ length xs → take n (xs ++ rest) ≡ xs
take_front [] rest zero le ge = refl
take_front [] rest (suc n) le ge = absurd (omega (arith, ge))
take_front (x ∷ xs) rest zero le ge = absurd (omega (arith, le))
take_front {A = A} (x ∷ xs) rest (suc n) le ge =
    ap (λ (ys : List A). x ∷ ys) (take_front xs rest n (omega (arith, le)) (omega (arith, ge)))

-- so many are there
pub enough : (f : ℕ → Option MethodId) (xs : List ℕ) (most i : ℕ) (ms : List MethodId) → Found f xs most i ms → most ≤ length ms
    → ms ≡ take most (distinct (filter_map f xs))
enough f xs most i ms found ge =
    sym (take_front ms (others ms (distinct (filter_map f (drop i xs)))) most found.few ge) ∙ ap (take most) found.all

-- each call is asked
pub ended : (f : ℕ → Option MethodId) (xs : List ℕ) (most i : ℕ) (ms : List MethodId) → Found f xs most i ms → drop i xs ≡ []
    → ms ≡ take most (distinct (filter_map f xs))
ended f xs most i ms found none =
    let all = sym (append-nil ms) ∙ sym (ap (λ (ys : List ℕ). ms ++ others ms (distinct (filter_map f ys))) none) ∙ found.all in
    sym (take_all ms most found.few) ∙ ap (take most) all

-- ---- each that runs is told, once

same_test : (x n m : MethodId) → is_same n m ≡ true → is_same x n ≡ is_same x m
same_test x n m e =
    let parts = and_parts (n.class == m.class) (n.index == m.index) e in
    let p = (Decides-eqb n.class m.class).0 parts.0 in
    let q = (Decides-eqb n.index m.index).0 parts.1 in
    λ i. (x.class == p i) && (x.index == q i)

pub told_runs : (m : MethodId) (ms : List MethodId) → list_any (λ n. is_same n m) (distinct ms) ≡ list_any (λ n. is_same n m) ms
told_runs m [] = refl
told_runs m (x ∷ xs) = by_test (is_same x m) refl (told_runs m xs)
  where
    by_test : (b : Bool) → is_same x m ≡ b → list_any (λ n. is_same n m) (distinct xs) ≡ list_any (λ n. is_same n m) xs
        → (is_same x m || list_any (λ n. is_same n m) (filter (λ n. not (is_same x n)) (distinct xs))) ≡ (is_same x m || list_any (λ n. is_same n m) xs)
    by_test true e rest =
        ap (λ (b : Bool). b || list_any (λ n. is_same n m) (filter (λ n. not (is_same x n)) (distinct xs))) e
        ∙ sym (ap (λ (b : Bool). b || list_any (λ n. is_same n m) xs) e)
    by_test false e rest =
        ap (λ (b : Bool). is_same x m || b)
        (any-filter_same (λ n. is_same n m) (λ n. not (is_same x n)) true (λ n same. ap not (same_test x n m same ∙ e)) (distinct xs) ∙ rest)

all_apart : (m : MethodId) (ds : List MethodId) → AllByRecursion (λ n. is_same m n ≡ false) (filter (λ n. not (is_same m n)) ds)
all_apart m [] = tt
all_apart m (d ∷ ds) = by_test (is_same m d) refl (all_apart m ds)
  where
    by_test : (b : Bool) → is_same m d ≡ b → AllByRecursion (λ n. is_same m n ≡ false) (filter (λ n. not (is_same m n)) ds)
        → AllByRecursion (λ n. is_same m n ≡ false) (cond (not b) (d ∷ filter (λ n. not (is_same m n)) ds) (filter (λ n. not (is_same m n)) ds))
    by_test true e rest = rest
    by_test false e rest = (e, rest)

all_kept : (P : MethodId → Type 0) (test : MethodId → Bool) (ds : List MethodId) → AllByRecursion P ds → AllByRecursion P (filter test ds)
all_kept P test [] h = tt
all_kept P test (d ∷ ds) h = by_test (test d) (all_kept P test ds h.1)
  where
    by_test : (b : Bool) → AllByRecursion P (filter test ds) → AllByRecursion P (cond b (d ∷ filter test ds) (filter test ds))
    by_test true rest = (h.0, rest)
    by_test false rest = rest

kept_apart : (test : MethodId → Bool) (ds : List MethodId) → IsDistinct is_same ds → IsDistinct is_same (filter test ds)
unfolding IsDistinct
kept_apart test [] h = tt
kept_apart test (d ∷ ds) h = by_test (test d) (kept_apart test ds h.1)
  where
    by_test : (b : Bool) → IsDistinct is_same (filter test ds) → IsDistinct is_same (cond b (d ∷ filter test ds) (filter test ds))
    by_test true rest = IsDistinct-cons is_same d (filter test ds) (all_kept (λ n. is_same d n ≡ false) test ds h.0) rest
    by_test false rest = rest

pub told_apart : (ms : List MethodId) → IsDistinct is_same (distinct ms)
unfolding IsDistinct
told_apart [] = tt
told_apart (m ∷ ms) =
    IsDistinct-cons is_same m (filter (λ n. not (is_same m n)) (distinct ms)) (all_apart m (distinct ms))
    (kept_apart (λ n. not (is_same m n)) (distinct ms) (told_apart ms))

-- ---- a class that isn't there has no receivers

neither : (a b : Bool) → a ≡ false → b ≡ false → (a || b) ≡ false
neither true b e f = cc
neither false b e f = f

pub any_none : (test : ℕ → Bool) → ((x : ℕ) → test x ≡ false) → (xs : List ℕ) → list_any test xs ≡ false
any_none test none [] = refl
any_none test none (x ∷ xs) = neither (test x) (list_any test xs) (none x) (any_none test none xs)

not_there : (rows : List Class) (c x : ℕ) (row : Class) → slice_get rows c ≡ None → slice_get rows x ≡ Some row → (c == x) ≡ false
not_there rows c x row none there = by_test (c == x) refl
  where
    by_test : (b : Bool) → (c == x) ≡ b → b ≡ false
    by_test true e = let same = ap (slice_get rows) ((Decides-eqb c x).0 e) in let both = sym none ∙ same ∙ there in cc
    by_test false e = refl

over_row : (rows : List Class) (c n x : ℕ) → slice_get rows c ≡ None → ((y : ℕ) → is_ancestor_within n rows c y ≡ false)
    → (o : Option Class) → slice_get rows x ≡ o
    → option_map_or (λ row. (c == x) || list_any (is_ancestor_within n rows c) (parents row)) o false ≡ false
over_row rows c n x none before None e = refl
over_row rows c n x none before (Some row) e =
    neither (c == x) (list_any (is_ancestor_within n rows c) (parents row)) (not_there rows c x row none e)
    (any_none (is_ancestor_within n rows c) before (parents row))

pub no_ancestor : (rows : List Class) (c : ℕ) → slice_get rows c ≡ None → (n x : ℕ) → is_ancestor_within n rows c x ≡ false
no_ancestor rows c none zero x = refl
no_ancestor rows c none (suc n) x = over_row rows c n x none (no_ancestor rows c none n) (slice_get rows x) refl

not_both : (a b : Bool) → b ≡ false → (a && b) ≡ false
not_both true b e = e
not_both false b e = refl

filter_none : (test : ℕ → Bool) → ((x : ℕ) → test x ≡ false) → (xs : List ℕ) → filter test xs ≡ []
filter_none test none [] = refl
filter_none test none (x ∷ xs) =
    ap (λ (b : Bool). cond b (x ∷ filter test xs) (filter test xs)) (none x) ∙ filter_none test none xs

absent : (o : Option Class) → is_some o ≡ false → o ≡ None
absent None e = refl
absent (Some row) e = cc

pub no_receivers : (cs : Classes) (c : ℕ) → has_class cs c ≡ false → receivers cs c ≡ []
no_receivers cs c gone =
    filter_none (λ x. is_concrete cs x && is_ancestor cs c x)
    (λ x. not_both (is_concrete cs x) (is_ancestor cs c x) (no_ancestor cs.rows c (absent (slice_get cs.rows c) gone) (x + 1) x)) (numbers cs)
