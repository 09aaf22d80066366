-- What a retirement leaves as it is, and what it takes.
use Rattle.std.specs.Prelude.{◌≡◌, ℕ, zero, suc, ◌+◌, ◌<◌, ◌==◌, Bool, true, false, cond, not, ◌&&◌, ◌||◌, List, [], ◌∷◌, ◌++◌, find, filter}
use Rattle.std.specs.Prelude.{length, map, slice_get, slice_set, ◌↔◌, Option, Some, None, option_map, option_and_then, Ok, Err, if◌then◌else◌}
use Rattle.std.specs.Option.{option_map_or}
use Rattle.std.specs.List.{list_any, range_with_len}
use Rattle.std.specs.Bool.{then_some}
use Rattle.std.proofs.Common.{refl, ap, sym, subst, ◌∙◌, arith, inl, inr}
use Rattle.std.proofs.lemmas.Bool.{both_ways, or_cases, or_left, or_right}
use Rattle.std.proofs.lemmas.Bool.Decides.{Decides-eqb}
use Rattle.std.proofs.lemmas.Cmp.{nat_eq_equiv}
use Rattle.std.proofs.lemmas.List.Folds.{list_any-append}
use Rattle.jl_types.specs.declared.answer.Unlinked.TheVariants.{Gone}
use Rattle.jl_types.specs.declared.event.EventOf.TheVariants as event
use Rattle.jl_types.specs.declared.event.Made.TheVariants as made
use Rattle.jl_types.specs.declared.ids.Place.{Place}
use Rattle.jl_types.specs.declared.limits.Limits.{Limits}
use Rattle.jl_types.specs.declared.refusal.RetireFault.{RetireFault}
use Rattle.jl_types.specs.declared.refusal.RetireFault.TheVariants as fault
use Rattle.jl_types.specs.declared.refusal.Refusal.TheVariants as refusal
use Rattle.jl_types.specs.Values.World.{Class, Classes, World}
use Rattle.jl_types.specs.Values.Members.{class_test, is_retired, is_present, is_concrete, is_concrete_row, recorded, lookup, numbers}
use Rattle.jl_types.specs.Values.Ancestry.{ancestors, is_ancestor, receivers}
use Rattle.jl_types.specs.Linkage.Resolution.{first_of}
use Rattle.jl_types.specs.Events.Definitions.{is_unknown}
use Rattle.jl_types.specs.Events.Retirement.{is_listed, is_of, is_of_any, inherits_from, records_from, classes_fault, targeted, retire_fault, MayRetire}
use Rattle.jl_types.specs.Events.Retirement.{emptied, gone_with, retired, retires_site}
use Rattle.jl_types.specs.ForProofs.Leaving.{inherits_any, records_any}
use Rattle.jl_types.specs.Linkage.Stages.{Waits, stage_of, stage_at, invocation_at}
use Rattle.jl_types.specs.Linkage.Links.{link_of, scratch}
use Rattle.jl_types.specs.Events.Verdict.{retire_all_fault, unless, verdict, with_classes}
use Rattle.jl_types.proofs.Bools.{or_none, any-range-from}
use Rattle.jl_types.proofs.Firsts.{first_none, test_none}

-- ---- lists of loaders

-- a list of one loader has only that loader
pub listed_alone : (loader k : ℕ) → is_listed (loader ∷ []) k ≡ (loader == k)
listed_alone loader k = or_none (loader == k)

pub is_alone : (loader k : ℕ) → is_listed (loader ∷ []) k ≡ true → loader ≡ k
is_alone loader k e = (Decides-eqb loader k).0 (sym (listed_alone loader k) ∙ e)

pub gone_has : (gone loaders : List ℕ) (k : ℕ) → is_listed (gone_with gone loaders) k ≡ (is_listed gone k || is_listed loaders k)
gone_has gone [] k = sym (or_none (is_listed gone k))
gone_has gone (l ∷ loaders) k = by_test (is_listed gone l) refl (gone_has gone loaders k) (gone_has (gone ++ l ∷ []) loaders k)
  where
    same : (a b c : Bool) → a ≡ true → (a || c) ≡ (a || (b || c))
    same true b c e = refl
    same false b c e = cc

    known : is_listed gone l ≡ true → (b : Bool) → (l == k) ≡ b → (is_listed gone k || is_listed loaders k) ≡ (is_listed gone k || (b || is_listed loaders k))
    known there true e = same (is_listed gone k) true (is_listed loaders k) (sym (ap (is_listed gone) ((Decides-eqb l k).0 e)) ∙ there)
    known there false e = refl

    turned : (a b c : Bool) → ((a || (b || false)) || c) ≡ (a || (b || c))
    turned true b c = refl
    turned false true c = refl
    turned false false c = refl

    by_test : (b : Bool) → is_listed gone l ≡ b
        → is_listed (gone_with gone loaders) k ≡ (is_listed gone k || is_listed loaders k)
        → is_listed (gone_with (gone ++ l ∷ []) loaders) k ≡ (is_listed (gone ++ l ∷ []) k || is_listed loaders k)
        → is_listed (gone_with (if b then gone else gone ++ l ∷ []) loaders) k ≡ (is_listed gone k || ((l == k) || is_listed loaders k))
    by_test true there old more = old ∙ known there (l == k) refl
    by_test false new old more =
        more
        ∙ ap (λ (b : Bool). b || is_listed loaders k) (list_any-append (λ j. j == k) gone (l ∷ []))
        ∙ turned (is_listed gone k) (l == k) (is_listed loaders k)

-- a class of one of the loaders is of a certain one
pub one_of_any : (cs : Classes) (loaders : List ℕ) (c : ℕ) → is_of_any cs loaders c ≡ true
    → (l : ℕ) × (is_listed loaders l ≡ true) × (is_of cs l c ≡ true)
one_of_any cs loaders c e = by_row (slice_get cs.rows c) refl e
  where
    by_row : (o : Option Class) → slice_get cs.rows c ≡ o → option_map_or (λ row. is_listed loaders row.loader) o false ≡ true
        → (l : ℕ) × (is_listed loaders l ≡ true) × (option_map_or (λ row. row.loader == l) o false ≡ true)
    by_row None at e = cc
    by_row (Some row) at e = (row.loader, e, nat_eq_equiv.refl row.loader)

pub any_of_one : (cs : Classes) (loaders : List ℕ) (l c : ℕ) → is_listed loaders l ≡ true → is_of cs l c ≡ true → is_of_any cs loaders c ≡ true
any_of_one cs loaders l c there e = by_row (slice_get cs.rows c) e
  where
    by_row : (o : Option Class) → option_map_or (λ row. row.loader == l) o false ≡ true → option_map_or (λ row. is_listed loaders row.loader) o false ≡ true
    by_row None e = cc
    by_row (Some row) e = ap (is_listed loaders) ((Decides-eqb row.loader l).0 e) ∙ there

-- if one of the classes is of one of the loaders, one loader has one of them
pub one_of_all : {A : Type 0} (cs : Classes) (loaders : List ℕ) (g : A → ℕ) (xs : List A) → list_any (λ x. is_of_any cs loaders (g x)) xs ≡ true
    → (l : ℕ) × (is_listed loaders l ≡ true) × (list_any (λ x. is_of cs l (g x)) xs ≡ true)
one_of_all cs loaders g [] e = cc
one_of_all cs loaders g (x ∷ xs) e = elim (or_cases (is_of_any cs loaders (g x)) (list_any (λ x. is_of_any cs loaders (g x)) xs) e) [
  | inl here ↦ let one = one_of_any cs loaders (g x) here in
      (one.0, one.1, or_left (is_of cs one.0 (g x)) (list_any (λ x. is_of cs one.0 (g x)) xs) one.2)
  | inr more ↦ let one = one_of_all cs loaders g xs more in
      (one.0, one.1, or_right (is_of cs one.0 (g x)) (list_any (λ x. is_of cs one.0 (g x)) xs) one.2)
]

-- ---- what other loaders find stays

pub set_apart : {A : Type 0} (xs : List A) (l k : ℕ) (x : A) → (l ≡ k → ⊥) → slice_get (slice_set xs l x) k ≡ slice_get xs k
set_apart [] l k x e = refl
set_apart (y ∷ xs) zero zero x e = absurd (e refl)
set_apart (y ∷ xs) zero (suc k) x e = refl
set_apart (y ∷ xs) (suc l) zero x e = refl
set_apart (y ∷ xs) (suc l) (suc k) x e = set_apart xs l k x (λ same. e (ap suc same))

or_both_false : (a b : Bool) → (a || b) ≡ false → (a ≡ false) × (b ≡ false)
or_both_false true b e = cc
or_both_false false b e = (refl, e)

pub kept_apart : (found : List (List (List ℕ × ℕ))) (loaders : List ℕ) (k : ℕ) → is_listed loaders k ≡ false
    → slice_get (emptied found loaders) k ≡ slice_get found k
kept_apart found [] k other = refl
kept_apart found (l ∷ loaders) k other =
    let parts = or_both_false (l == k) (is_listed loaders k) other in
    kept_apart (slice_set found l []) loaders k parts.1 ∙ set_apart found l k [] (λ same. both_ways (l == k) parts.0 ((Decides-eqb l k).1 same))

-- ---- what is retired

module _ (cs : Classes) (loaders : List ℕ) where
  abbrev new : Classes
  new = retired cs loaders

  pub retired_after : (k : ℕ) → is_retired new k ≡ (is_retired cs k || is_listed loaders k)
  retired_after k = gone_has cs.retired loaders k

  pub present_after : (c : ℕ) → is_present new c ≡ (is_present cs c && not (is_of_any cs loaders c))
  present_after c = by_row (slice_get cs.rows c)
    where
      by_tests : (a b : Bool) → not (a || b) ≡ (not a && not b)
      by_tests true b = refl
      by_tests false b = refl

      by_row : (o : Option Class) → option_map_or (λ row. not (is_retired new row.loader)) o false
          ≡ (option_map_or (λ row. not (is_retired cs row.loader)) o false && not (option_map_or (λ row. is_listed loaders row.loader) o false))
      by_row None = refl
      by_row (Some row) = ap not (retired_after row.loader) ∙ by_tests (is_retired cs row.loader) (is_listed loaders row.loader)

  concrete_after : (c : ℕ) → is_concrete new c ≡ (is_concrete cs c && not (is_of_any cs loaders c))
  concrete_after c =
      ap (λ (b : Bool). b && class_test is_concrete_row cs c) (present_after c)
      ∙ turned (is_present cs c) (not (is_of_any cs loaders c)) (class_test is_concrete_row cs c)
    where
      turned : (a b d : Bool) → ((a && b) && d) ≡ ((a && d) && b)
      turned true true true = refl
      turned true true false = refl
      turned true false true = refl
      turned true false false = refl
      turned false b d = refl

  pub filter_twice : (p q r : ℕ → Bool) → ((x : ℕ) → r x ≡ (p x && q x)) → (xs : List ℕ) → filter r xs ≡ filter q (filter p xs)
  filter_twice p q r same [] = refl
  filter_twice p q r same (x ∷ xs) =
      ap (λ (b : Bool). cond b (x ∷ filter r xs) (filter r xs)) (same x) ∙ by_tests (p x) (q x) refl (filter_twice p q r same xs)
    where
      by_tests : (a b : Bool) → q x ≡ b → filter r xs ≡ filter q (filter p xs)
          → cond (a && b) (x ∷ filter r xs) (filter r xs) ≡ filter q (cond a (x ∷ filter p xs) (filter p xs))
      by_tests true true is rest =
          ap (λ (ys : List ℕ). x ∷ ys) rest ∙ sym (ap (λ (b : Bool). cond b (x ∷ filter q (filter p xs)) (filter q (filter p xs))) is)
      by_tests true false is rest = rest ∙ sym (ap (λ (b : Bool). cond b (x ∷ filter q (filter p xs)) (filter q (filter p xs))) is)
      by_tests false b is rest = rest

  -- the receivers that are left
  pub receivers_left : (c : ℕ) → receivers new c ≡ filter (λ x. not (is_of_any cs loaders x)) (receivers cs c)
  receivers_left c =
      filter_twice (λ x. is_concrete cs x && is_ancestor cs c x) (λ x. not (is_of_any cs loaders x)) (λ x. is_concrete new x && is_ancestor new c x)
      (λ x. ap (λ (b : Bool). b && is_ancestor cs c x) (concrete_after x) ∙ turned (is_concrete cs x) (not (is_of_any cs loaders x)) (is_ancestor cs c x))
      (numbers cs)
    where
      turned : (a b d : Bool) → ((a && b) && d) ≡ ((a && d) && b)
      turned true true true = refl
      turned true true false = refl
      turned true false true = refl
      turned true false false = refl
      turned false b d = refl

  -- ---- what loaders find

  pub found_before : (k : ℕ) (name : List ℕ) (c : ℕ) → lookup new k name ≡ Some c → lookup cs k name ≡ Some c
  found_before k name c = all loaders cs.loaders
    where
      at : (found : List (List (List ℕ × ℕ))) (l k : ℕ) → option_and_then (recorded name) (slice_get (slice_set found l []) k) ≡ Some c
          → option_and_then (recorded name) (slice_get found k) ≡ Some c
      at [] l k e = e
      at (x ∷ found) zero zero e = cc
      at (x ∷ found) zero (suc k) e = e
      at (x ∷ found) (suc l) zero e = e
      at (x ∷ found) (suc l) (suc k) e = at found l k e

      all : (loaders : List ℕ) (found : List (List (List ℕ × ℕ))) → option_and_then (recorded name) (slice_get (emptied found loaders) k) ≡ Some c
          → option_and_then (recorded name) (slice_get found k) ≡ Some c
      all [] found e = e
      all (l ∷ loaders) found e = at found l k (all loaders (slice_set found l []) e)

  pub found_after : (k : ℕ) (name : List ℕ) → is_listed loaders k ≡ false → lookup new k name ≡ lookup cs k name
  found_after k name other = ap (option_and_then (recorded name)) (kept_apart cs.loaders loaders k other)

-- ---- no fault

pub none_found : {A : Type 0} (p : A → Bool) (xs : List A) → find p xs ≡ None → list_any p xs ≡ false
none_found p [] e = refl
none_found p (x ∷ xs) e = by_test (p x) refl e (none_found p xs)
  where
    by_test : (b : Bool) → p x ≡ b → cond b (Some x) (find p xs) ≡ None → (find p xs ≡ None → list_any p xs ≡ false) → (b || list_any p xs) ≡ false
    by_test true is e rest = cc
    by_test false is e rest = rest e

pub no_fault : {A B : Type 0} (F : A → B) (o : Option A) → option_map F o ≡ None → o ≡ None
no_fault F None e = refl
no_fault F (Some x) e = cc

pub at_none : (p : ℕ → Bool) (n : ℕ) → list_any p (range_with_len 0 n) ≡ false → (x : ℕ) → x < n → p x ≡ false
at_none p n none x lt = by_test (p x) refl
  where
    by_test : (b : Bool) → p x ≡ b → b ≡ false
    by_test true is = absurd (both_ways (list_any p (range_with_len 0 n)) none (any-range-from p 0 n x (omega arith) (omega arith) is))
    by_test false is = refl

-- what no fault says
pub record IsFree (cs : Classes) (loaders : List ℕ) : Type 0 where
  pub known : (l : ℕ) → is_listed loaders l ≡ true → is_unknown cs l ≡ false
  pub other : is_listed loaders 0 ≡ false
  pub heirs : (x : ℕ) → x < length cs.rows → inherits_any cs loaders x ≡ false
  pub records : (k : ℕ) → k < length cs.loaders → records_any cs loaders k ≡ false

-- of one of them
record IsFreeOf (cs : Classes) (loaders : List ℕ) (l : ℕ) : Type 0 where
  known : is_unknown cs l ≡ false
  other : (l == 0) ≡ false
  heirs : (x : ℕ) → x < length cs.rows → inherits_from cs loaders l x ≡ false
  records : (k : ℕ) → k < length cs.loaders → records_from cs loaders l k ≡ false

free_of : (cs : Classes) (loaders : List ℕ) (l : ℕ) → classes_fault cs loaders l ≡ None → IsFreeOf cs loaders l
free_of cs loaders l none =
    let unknown = first_none (then_some (is_unknown cs l) fault.UnknownLoader) _ none in
    let first = first_none (then_some (l == 0) fault.FirstLoader) _ unknown.1 in
    let heir = first_none (option_map fault.Inherited (find (inherits_from cs loaders l) (numbers cs))) _ first.1 in
    let recorder = first_none (option_map fault.Recorded (find (records_from cs loaders l) (range_with_len 0 (length cs.loaders)))) _ heir.1 in
    record {
      known = test_none (is_unknown cs l) fault.UnknownLoader unknown.0;
      other = test_none (l == 0) fault.FirstLoader first.0;
      heirs = at_none (inherits_from cs loaders l) (length cs.rows)
          (none_found (inherits_from cs loaders l) (numbers cs) (no_fault fault.Inherited _ heir.0));
      records = at_none (records_from cs loaders l) (length cs.loaders)
          (none_found (records_from cs loaders l) (range_with_len 0 (length cs.loaders)) (no_fault fault.Recorded _ recorder.0));
    }

pub is_free : (cs : Classes) (loaders : List ℕ) → MayRetire cs loaders → IsFree cs loaders
is_free cs loaders may = record {
  known = λ l there. (free_of cs loaders l (may l there)).known;
  other = by_test (is_listed loaders 0) refl;
  heirs = λ x lt. no_heir x lt (is_present cs x) (not (is_of_any cs loaders x)) (list_any (is_of_any cs loaders) (ancestors cs.rows x)) refl refl refl;
  records = λ k lt. no_recorder k lt (slice_get cs.loaders k) refl (not (is_listed loaders k)) refl;
}
  where
    by_test : (b : Bool) → is_listed loaders 0 ≡ b → b ≡ false
    by_test true there = (free_of cs loaders 0 (may 0 there)).other
    by_test false none = refl

    no_heir : (x : ℕ) → x < length cs.rows → (a b d : Bool) → is_present cs x ≡ a → not (is_of_any cs loaders x) ≡ b
        → list_any (is_of_any cs loaders) (ancestors cs.rows x) ≡ d → (a && (b && d)) ≡ false
    no_heir x lt true true true here apart below =
        let one = one_of_all cs loaders (λ a. a) (ancestors cs.rows x) below in
        absurd (both_ways (inherits_from cs loaders one.0 x) ((free_of cs loaders one.0 (may one.0 one.1)).heirs x lt) (λ i. here i && (apart i && one.2 i)))
    no_heir x lt true true false here apart below = refl
    no_heir x lt true false d here apart below = refl
    no_heir x lt false b d here apart below = refl

    no_recorder : (k : ℕ) → k < length cs.loaders → (o : Option (List (List ℕ × ℕ))) → slice_get cs.loaders k ≡ o → (b : Bool) → not (is_listed loaders k) ≡ b
        → (b && option_map_or (list_any (λ r. is_of_any cs loaders r.1)) o false) ≡ false
    no_recorder k lt o at false apart = refl
    no_recorder k lt None at true apart = refl
    no_recorder k lt (Some records) at true apart = by_record (list_any (λ r. is_of_any cs loaders r.1) records) refl
      where
        by_record : (d : Bool) → list_any (λ r. is_of_any cs loaders r.1) records ≡ d → d ≡ false
        by_record true has_one =
            let one = one_of_all cs loaders (λ (r : List ℕ × ℕ). r.1) records has_one in
            absurd (both_ways (records_from cs loaders one.0 k) ((free_of cs loaders one.0 (may one.0 one.1)).records k lt)
            (λ i. apart i && (ap (λ (o : Option (List (List ℕ × ℕ))). option_map_or (list_any (λ r. is_of cs one.0 r.1)) o false) at ∙ one.2) i))
        by_record false none = refl

-- if nothing that stays needs one of them, no fault is told
pub free_may : (cs : Classes) (loaders : List ℕ) → IsFree cs loaders → MayRetire cs loaders
free_may cs loaders free l there =
    let no_heir = none_find (inherits_from cs loaders l) 0 (length cs.rows)
    (λ x lt. no_heir_of x (omega (arith, lt)) (is_present cs x) refl (not (is_of_any cs loaders x)) refl) in
    let no_recorder = none_find (records_from cs loaders l) 0 (length cs.loaders)
    (λ k lt. no_recorder_of k (omega (arith, lt)) (not (is_listed loaders k)) refl (slice_get cs.loaders k) refl) in
    (λ i. first_of (
    then_some (free.known l there i) fault.UnknownLoader
    ∷ then_some (not_first i) fault.FirstLoader
    ∷ option_map fault.Inherited (no_heir i)
    ∷ option_map fault.Recorded (no_recorder i)
    ∷ []))
  where
    none_find : (p : ℕ → Bool) (a n : ℕ) → ((x : ℕ) → x < a + n → p x ≡ false) → find p (range_with_len a n) ≡ None
    none_find p a zero none = refl
    none_find p a (suc n) none =
        ap (λ (b : Bool). cond b (Some a) (find p (range_with_len (a + 1) n))) (none a (omega arith)) ∙ none_find p (a + 1) n (λ x lt. none x (omega arith))

    not_first : (l == 0) ≡ false
    not_first = by_test (l == 0) refl
      where
        by_test : (b : Bool) → (l == 0) ≡ b → b ≡ false
        by_test true is = absurd (both_ways (is_listed loaders 0) free.other (subst (λ k. is_listed loaders k ≡ true) ((Decides-eqb l 0).0 is) there))
        by_test false is = refl

    any_of : {A : Type 0} (g : A → ℕ) (xs : List A) → list_any (λ x. is_of cs l (g x)) xs ≡ true → list_any (λ x. is_of_any cs loaders (g x)) xs ≡ true
    any_of g [] e = cc
    any_of g (x ∷ xs) e = elim (or_cases (is_of cs l (g x)) (list_any (λ x. is_of cs l (g x)) xs) e) [
      | inl here ↦ or_left (is_of_any cs loaders (g x)) (list_any (λ x. is_of_any cs loaders (g x)) xs) (any_of_one cs loaders l (g x) there here)
      | inr more ↦ or_right (is_of_any cs loaders (g x)) (list_any (λ x. is_of_any cs loaders (g x)) xs) (any_of g xs more)
    ]

    no_heir_of : (x : ℕ) → x < length cs.rows → (a : Bool) → is_present cs x ≡ a → (b : Bool) → not (is_of_any cs loaders x) ≡ b
        → (a && (b && list_any (is_of cs l) (ancestors cs.rows x))) ≡ false
    no_heir_of x lt false here b apart = refl
    no_heir_of x lt true here false apart = refl
    no_heir_of x lt true here true apart = by_test (list_any (is_of cs l) (ancestors cs.rows x)) refl
      where
        by_test : (d : Bool) → list_any (is_of cs l) (ancestors cs.rows x) ≡ d → d ≡ false
        by_test true is = absurd (both_ways (inherits_any cs loaders x) (free.heirs x lt)
            (λ i. here i && (apart i && any_of (λ a. a) (ancestors cs.rows x) is i)))
        by_test false is = refl

    no_recorder_of : (k : ℕ) → k < length cs.loaders → (b : Bool) → not (is_listed loaders k) ≡ b → (o : Option (List (List ℕ × ℕ)))
        → slice_get cs.loaders k ≡ o
        → (b && option_map_or (list_any (λ r. is_of cs l r.1)) o false) ≡ false
    no_recorder_of k lt false apart o at = refl
    no_recorder_of k lt true apart None at = refl
    no_recorder_of k lt true apart (Some records) at = by_test (list_any (λ r. is_of cs l r.1) records) refl
      where
        by_test : (d : Bool) → list_any (λ r. is_of cs l r.1) records ≡ d → d ≡ false
        by_test true is = absurd (both_ways (records_any cs loaders k) (free.records k lt)
            (λ i. apart i && (ap (λ (o : Option (List (List ℕ × ℕ))). option_map_or (list_any (λ r. is_of_any cs loaders r.1)) o false) at
            ∙ any_of (λ (r : List ℕ × ℕ). r.1) records is) i))
        by_test false is = refl

-- ---- the verdicts

-- nothing speaks against a retirement of all of these at once
abbrev pub AreFree : World → List ℕ → Type 0
AreFree w loaders = (l : ℕ) → is_listed loaders l ≡ true → retire_fault w loaders l ≡ None

pub one_free : (w : World) (loader : ℕ) → retire_fault w (loader ∷ []) loader ≡ None → AreFree w (loader ∷ [])
one_free w loader none l there = subst (λ k. retire_fault w (loader ∷ []) k ≡ None) (is_alone loader l there) none

pub all_free : (w : World) (loaders : List ℕ) → retire_all_fault w loaders ≡ None → AreFree w loaders
all_free w loaders none l there = each loaders none there
  where
    each : (ks : List ℕ) → first_of (map (λ k. option_map (refusal.RetireAll k) (retire_fault w loaders k)) ks) ≡ None → is_listed ks l ≡ true
        → retire_fault w loaders l ≡ None
    each [] none there = cc
    each (k ∷ ks) none there =
        let parts = first_none (option_map (refusal.RetireAll k) (retire_fault w loaders k)) _ none in
        elim (or_cases (k == l) (is_listed ks l) there) [
          | inl same ↦ subst (λ j. retire_fault w loaders j ≡ None) ((Decides-eqb k l).0 same) (no_fault (refusal.RetireAll k) _ parts.0)
          | inr more ↦ each ks parts.1 more
        ]

-- of what none speaks against, no fault is told
pub free_one : (w : World) (loader : ℕ) → AreFree w (loader ∷ []) → retire_fault w (loader ∷ []) loader ≡ None
free_one w loader free = free loader (listed_alone loader loader ∙ nat_eq_equiv.refl loader)

pub free_all : (w : World) (loaders : List ℕ) → AreFree w loaders → retire_all_fault w loaders ≡ None
free_all w loaders free = each loaders (λ l there. there)
  where
    each : (ks : List ℕ) → ((l : ℕ) → is_listed ks l ≡ true → is_listed loaders l ≡ true)
        → first_of (map (λ k. option_map (refusal.RetireAll k) (retire_fault w loaders k)) ks) ≡ None
    each [] among = refl
    each (k ∷ ks) among =
        ap (λ (o : Option RetireFault). first_of (option_map (refusal.RetireAll k) o ∷ map
        (λ k. option_map (refusal.RetireAll k) (retire_fault w loaders k)) ks))
        (free k (among k (or_left (k == k) (is_listed ks k) (nat_eq_equiv.refl k))))
        ∙ each ks (λ l there. among l (or_right (k == l) (is_listed ks l) there))

-- by the classes, and by the call sites
pub may_retire : (w : World) (loaders : List ℕ) → AreFree w loaders → MayRetire w.classes loaders
may_retire w loaders free l there =
    (first_none (classes_fault w.classes loaders l) (option_map fault.Targeted (targeted w.classes w.sites.call_sites l) ∷ []) (free l there)).0

pub untargeted : (w : World) (loaders : List ℕ) → AreFree w loaders → (l : ℕ) → is_listed loaders l ≡ true
    → targeted w.classes w.sites.call_sites l ≡ None
untargeted w loaders free l there =
    no_fault fault.Targeted (targeted w.classes w.sites.call_sites l) (first_none (option_map fault.Targeted (targeted w.classes w.sites.call_sites l)) []
    (first_none (classes_fault w.classes loaders l) (option_map fault.Targeted (targeted w.classes w.sites.call_sites l) ∷ []) (free l there)).1).0

-- ---- sites

module _ (w : World) (loaders : List ℕ) (s : ℕ) where
  abbrev after : World
  after = with_classes w (retired w.classes loaders)

  absent : (place : Place) → is_of_any w.classes loaders place.class ≡ true → is_present after.classes place.class ≡ false
  absent place is =
      present_after w.classes loaders place.class
      ∙ ap (λ (b : Bool). is_present w.classes place.class && not b) is
      ∙ nothing (is_present w.classes place.class)
    where
      nothing : (b : Bool) → (b && not true) ≡ false
      nothing true = refl
      nothing false = refl

  -- a site of the loaders' is gone
  pub gone_after : retires_site w loaders s ≡ true → scratch after s ≡ Err Gone
  gone_after goes = by_place (slice_get w.places s) refl goes
    where
      by_place : (o : Option Place) → slice_get w.places s ≡ o → option_map_or (λ place. is_of_any w.classes loaders place.class) o false ≡ true
          → scratch after s ≡ Err Gone
      by_place None at is = cc
      by_place (Some place) at is =
          ap (λ (o : Option Place). link_of after.classes (stage_at after s o)) at
          ∙ ap (λ (b : Bool). link_of after.classes (if b then stage_of after s place.class (invocation_at after.classes place) else Waits Gone))
          (absent place is)

-- ---- a list of one

-- a list of one loader may go exactly if the loader may
pub one_may_go : (limits : Limits) (w : World) (loader : ℕ)
    → (verdict limits w (event.RetireAll (loader ∷ [])) ≡ Ok made.Nothing) ↔ (verdict limits w (event.Retire loader) ≡ Ok made.Nothing)
one_may_go limits w loader = by_fault (retire_fault w (loader ∷ []) loader)
  where
    by_fault : (o : Option RetireFault) → (unless (first_of (option_map (refusal.RetireAll loader) o ∷ [])) made.Nothing ≡ Ok made.Nothing)
        ↔ (unless (option_map refusal.Retire o) made.Nothing ≡ Ok made.Nothing)
    by_fault None = (λ e. refl, λ e. refl)
    by_fault (Some f) = (λ e. cc, λ e. cc)
