-- What a fresh core finds and tests, from what the old one had at some time of its log.
use Rattle.std.specs.Prelude.{◌≡◌, ℕ, zero, suc, ◌+◌, ◌-◌, ◌<◌, not, Bool, true, false, List, [], ◌∷◌, ◌++◌, map, length, replicate}
use Rattle.std.specs.Prelude.{slice_get, find, Option, Some, None, option_map, option_and_then, if◌then◌else◌}
use Rattle.std.specs.Option.{option_map_or}
use Rattle.std.specs.List.{range_with_len}
use Rattle.std.specs.Str.{bytes_eq}
use Rattle.std.proofs.Common.{refl, sym, ap, ◌∙◌, arith}
use Rattle.std.proofs.lemmas.Option.{slice_get-map, slice_get_within}
use Rattle.jl_types.specs.Values.World.{World, Class, Classes}
use Rattle.jl_types.specs.Values.Members.{lookup, recorded, class_test, is_present, is_retired}
use Rattle.jl_renewal.specs.declared.released.Released.{Released}
use Rattle.jl_renewal.specs.Numbers.{Numbers, staying, renumbered}
use Rattle.jl_renewal.specs.Staying.{numbers_of, staying_loaders, staying_classes}
use Rattle.jl_renewal.specs.Renewed.{renumbered_record, renumbered_class}
use Rattle.jl_renewal.proofs.NumberLaws.{renumbered_is, staying_at}

-- ---- a list of tests, by number

range_at : (a n k : ℕ) → k < n → slice_get (range_with_len a n) k ≡ Some (a + k)
range_at a zero k lt = absurd (omega (arith, lt))
range_at a (suc n) zero lt = ap Some (omega arith)
range_at a (suc n) (suc k) lt = range_at (a + 1) n k (omega (arith, lt)) ∙ ap Some (omega arith)

pub tested_at : (p : ℕ → Bool) (n k : ℕ) → k < n → slice_get (map p (range_with_len 0 n)) k ≡ Some (p k)
tested_at p n k lt = slice_get-map p (range_with_len 0 n) k ∙ ap (option_map p) (range_at 0 n k lt ∙ ap Some (omega arith))

pub loader_stays : (cs : Classes) (l : ℕ) → l < length cs.loaders → is_retired cs l ≡ false → slice_get (staying_loaders cs) l ≡ Some true
loader_stays cs l there live = tested_at (λ k. not (is_retired cs k)) (length cs.loaders) l there ∙ ap (λ (b : Bool). Some (not b)) live

pub loader_goes : (cs : Classes) (l : ℕ) → l < length cs.loaders → is_retired cs l ≡ true → slice_get (staying_loaders cs) l ≡ Some false
loader_goes cs l there gone = tested_at (λ k. not (is_retired cs k)) (length cs.loaders) l there ∙ ap (λ (b : Bool). Some (not b)) gone

pub class_at : (cs : Classes) (c : ℕ) (row : Class) → slice_get cs.rows c ≡ Some row
    → slice_get (staying_classes cs) c ≡ Some (not (is_retired cs row.loader))
class_at cs c row is =
    tested_at (is_present cs) (length cs.rows) c (slice_get_within cs.rows c row is)
    ∙ ap (λ (o : Option Class). Some (option_map_or (λ row. not (is_retired cs row.loader)) o false)) is

pub class_stays : (cs : Classes) (c : ℕ) → is_present cs c ≡ true → slice_get (staying_classes cs) c ≡ Some true
class_stays cs c present = by_row (slice_get cs.rows c) refl present
  where
    by_row : (o : Option Class) → slice_get cs.rows c ≡ o → option_map_or (λ row. not (is_retired cs row.loader)) o false ≡ true
        → slice_get (staying_classes cs) c ≡ Some true
    by_row None is present = cc
    by_row (Some row) is present = class_at cs c row is ∙ ap Some present

-- ---- loaders that there are not yet

-- the list, longer by empty ones up to so many
abbrev pub padded : ℕ → List (List (List ℕ × ℕ)) → List (List (List ℕ × ℕ))
padded n loaders = loaders ++ replicate (n - length loaders) []

pub padded_at : (n : ℕ) (loaders : List (List (List ℕ × ℕ))) (l : ℕ) (records : List (List ℕ × ℕ)) → slice_get loaders l ≡ Some records
    → slice_get (padded n loaders) l ≡ Some records
padded_at n loaders l records is = front loaders l is
  where
    front : (xs : List (List (List ℕ × ℕ))) (l : ℕ) → slice_get xs l ≡ Some records
        → slice_get (xs ++ replicate (n - length loaders) []) l ≡ Some records
    front [] l e = cc
    front (x ∷ xs) zero e = e
    front (x ∷ xs) (suc l) e = front xs l e

-- ---- at some time of the log

-- The fresh classes, from the old ones at some time: what loaders that stay have found by then, and the classes that stay in the end.
abbrev pub fresh_of : World → Released → Classes → Classes
fresh_of w released mid = record {
  loaders = map (map (renumbered_record (numbers_of w released))) (staying (staying_loaders w.classes) (padded (length w.classes.loaders) mid.loaders));
  rows = map (renumbered_class (numbers_of w released)) (staying (staying_classes w.classes) mid.rows);
  retired = [];
}

recorded_same : (n : Numbers) (name : List ℕ) (records : List (List ℕ × ℕ))
    → recorded name (map (renumbered_record n) records) ≡ option_map (renumbered n.classes) (recorded name records)
recorded_same n name [] = refl
recorded_same n name (r ∷ records) = by_test (bytes_eq r.0 name) (recorded_same n name records)
  where
    by_test : (b : Bool) → recorded name (map (renumbered_record n) records) ≡ option_map (renumbered n.classes) (recorded name records)
        → option_map (λ (x : List ℕ × ℕ). x.1)
        (if b then Some (renumbered_record n r) else find (λ (x : List ℕ × ℕ). bytes_eq x.0 name) (map (renumbered_record n) records))
        ≡ option_map (renumbered n.classes) (option_map (λ (x : List ℕ × ℕ). x.1) (if b then Some r else find (λ (x : List ℕ × ℕ). bytes_eq x.0 name) records))
    by_test true rest = refl
    by_test false rest = rest

module _ (w : World) (released : Released) (mid : Classes) where
  abbrev n : Numbers
  n = numbers_of w released

  abbrev fresh : Classes
  fresh = fresh_of w released mid

  -- the records of a loader that stays
  records_at : (l : ℕ) (records : List (List ℕ × ℕ)) → slice_get (staying_loaders w.classes) l ≡ Some true → slice_get mid.loaders l ≡ Some records
      → slice_get fresh.loaders (renumbered n.loaders l) ≡ Some (map (renumbered_record n) records)
  records_at l records stays is =
      slice_get-map (map (renumbered_record n)) (staying (staying_loaders w.classes) (padded (length w.classes.loaders) mid.loaders)) (renumbered n.loaders l)
      ∙ ap (option_map (map (renumbered_record n)))
      (ap (slice_get (staying (staying_loaders w.classes) (padded (length w.classes.loaders) mid.loaders))) (renumbered_is (staying_loaders w.classes) l stays)
      ∙ staying_at (staying_loaders w.classes) (padded (length w.classes.loaders) mid.loaders) l records stays
      (padded_at (length w.classes.loaders) mid.loaders l records is))

  -- what it finds is what it found, under new numbers
  pub lookup_same : (l : ℕ) → slice_get (staying_loaders w.classes) l ≡ Some true → l < length mid.loaders → (name : List ℕ)
      → lookup fresh (renumbered n.loaders l) name ≡ option_map (renumbered n.classes) (lookup mid l name)
  lookup_same l stays there name = by_records (slice_get mid.loaders l) refl
    where
      by_records : (o : Option (List (List ℕ × ℕ))) → slice_get mid.loaders l ≡ o
          → lookup fresh (renumbered n.loaders l) name ≡ option_map (renumbered n.classes) (option_and_then (recorded name) o)
      by_records None is = absurd (none_there mid.loaders l there is)
        where
          none_there : (xs : List (List (List ℕ × ℕ))) (l : ℕ) → l < length xs → slice_get xs l ≡ None → ⊥
          none_there [] l lt e = omega (arith, lt)
          none_there (x ∷ xs) zero lt e = cc
          none_there (x ∷ xs) (suc l) lt e = none_there xs l (omega (arith, lt)) e
      by_records (Some records) is =
          ap (option_and_then (recorded name)) (records_at l records stays is) ∙ recorded_same n name records

  -- the class under its new number
  pub row_at : (c : ℕ) (row : Class) → slice_get (staying_classes w.classes) c ≡ Some true → slice_get mid.rows c ≡ Some row
      → slice_get fresh.rows (renumbered n.classes c) ≡ Some (renumbered_class n row)
  row_at c row stays is =
      slice_get-map (renumbered_class n) (staying (staying_classes w.classes) mid.rows) (renumbered n.classes c)
      ∙ ap (option_map (renumbered_class n))
      (ap (slice_get (staying (staying_classes w.classes) mid.rows)) (renumbered_is (staying_classes w.classes) c stays)
      ∙ staying_at (staying_classes w.classes) mid.rows c row stays is)

  -- a test of it
  pub class_same : (test' test : Class → Bool) (c : ℕ) (row : Class) → slice_get (staying_classes w.classes) c ≡ Some true
      → slice_get mid.rows c ≡ Some row → test' (renumbered_class n row) ≡ test row
      → class_test test' fresh (renumbered n.classes c) ≡ class_test test mid c
  class_same test' test c row stays is same =
      ap (λ (o : Option Class). option_map_or test' o false) (row_at c row stays is)
      ∙ (same ∙ sym (ap (λ (o : Option Class). option_map_or test o false) is))
