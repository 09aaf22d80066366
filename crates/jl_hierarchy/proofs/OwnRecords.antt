-- A class of a loader that isn't retired stands in that loader's records, through every change; what is found by them.
use Rattle.std.specs.Prelude.{◌≡◌, ℕ, zero, suc, ◌+◌, ◌<◌, ◌==◌, ◌||◌, ◌&&◌, Bool, true, false, cond, not, nat_le, List, [], ◌∷◌, ◌++◌, map, filter}
use Rattle.std.specs.Prelude.{find, length, get_or, slice_get, slice_set, take}
use Rattle.std.specs.Prelude.{Option, Some, None, option_map, option_and_then}
use Rattle.std.specs.Bool.{one_answer, then_some}
use Rattle.std.specs.List.{list_any, range_with_len}
use Rattle.std.specs.Option.{option_map_or}
use Rattle.std.specs.Str.{bytes_eq}
use Rattle.std.proofs.Common.{refl, ap, sym, subst, ◌∙◌, arith, inl, inr, length-append}
use Rattle.std.proofs.lemmas.Bool.{both_ways, leb-false, or_cases, or_right}
use Rattle.std.proofs.lemmas.Bool.Decides.{Decides-eqb}
use Rattle.std.proofs.lemmas.Cmp.{nat_eq_equiv}
use Rattle.std.proofs.lemmas.List.{take_more}
use Rattle.std.proofs.lemmas.List.Folds.{list_any-append}
use Rattle.std.proofs.lemmas.Map.Views.{any-filter_same}
use Rattle.std.proofs.lemmas.Option.{same_Some, slice_get_within}
use Rattle.std.proofs.lemmas.Slice.Eq.{bytes_eq-Decides}
use Rattle.jl_class.specs.Class.{ClassFile}
use Rattle.jl_types.specs.declared.refusal.DefineFault.TheVariants.{UnknownLoader}
use Rattle.jl_types.specs.Values.World.{Class, Classes}
use Rattle.jl_types.specs.Values.Members.{is_retired, is_present, is_concrete, recorded, lookup, numbers}
use Rattle.jl_types.specs.Values.Ancestry.{AreOrdered, is_ancestor, receivers}
use Rattle.jl_types.specs.Events.Definitions.{class_made, with_record, defined, is_unknown}
use Rattle.jl_types.specs.Events.Retirement.{is_listed, is_of, is_of_any, losing_receivers, retired}
use Rattle.jl_types.proofs.Ancestors.{ancestor_decides}
use Rattle.jl_types.proofs.Bools.{or_none, any-filter, any-filter-at, any-map, any-range-from, first_test, second_test}
use Rattle.jl_types.proofs.Firsts.{first_none, test_none}
use Rattle.jl_types.proofs.Grown.{above}
use Rattle.jl_types.proofs.Lists.{at_end, before_end, passes_within}
use Rattle.jl_types.proofs.Orders.{IsGood}
use Rattle.jl_types.proofs.Retiring.{retired_after}
use Rattle.jl_hierarchy.specs.Constancy.{MayDefine}
use Rattle.jl_hierarchy.specs.ForProofs.Kept.{AreRecorded, Rises}
use Rattle.jl_hierarchy.specs.Retiring.{own_recorded}
use Rattle.jl_hierarchy.proofs.Closed.{any_recorded, any_at}
use Rattle.jl_hierarchy.proofs.Constancy.{stays_defined, stays_with_record, stays_with_loader, stays_retired}
use Rattle.jl_hierarchy.proofs.FaultLaws.{is_new}
use Rattle.jl_hierarchy.proofs.Rising.{has, one_rising, filter_rises}

first_of_both : (a b : Bool) → (a || b) ≡ false → a ≡ false
first_of_both true b e = cc
first_of_both false b e = refl

and_none : (b : Bool) → (b && false) ≡ false
and_none true = refl
and_none false = refl

-- ---- through every change

module _ (cs : Classes) (good : IsGood cs) (own : AreRecorded cs) where
  pub own_with_loader : AreRecorded (record cs { loaders = cs.loaders ++ [] ∷ [] })
  own_with_loader c row at alive = (stays_with_loader cs good).records row.loader row.file.name c alive (own c row at alive)

  pub own_with_record : (loader : ℕ) (name : List ℕ) (d : ℕ) → AreRecorded (record cs { loaders = with_record cs.loaders loader name d })
  own_with_record loader name d c row at alive =
      (stays_with_record cs good loader name d).records row.loader row.file.name c alive (own c row at alive)

  pub own_retired : (loaders : List ℕ) → AreRecorded (retired cs loaders)
  own_retired loaders c row at alive =
      (stays_retired cs good loaders).records row.loader row.file.name c alive
      (own c row at (first_of_both (is_retired cs row.loader) (is_listed loaders row.loader) (sym (retired_after cs loaders row.loader) ∙ alive)))

-- a name that isn't recorded is found once it is
recorded_last : (name : List ℕ) (n : ℕ) (records : List (List ℕ × ℕ)) → recorded name records ≡ None → recorded name (records ++ (name, n) ∷ []) ≡ Some n
recorded_last name n [] none = ap (λ (b : Bool). option_map (λ (r : List ℕ × ℕ). r.1) (cond b (Some (name, n)) None)) ((bytes_eq-Decides name name).1 refl)
recorded_last name n (r ∷ records) none = by_test (bytes_eq r.0 name) none (recorded_last name n records)
  where
    by_test : (b : Bool) → option_map (λ r. r.1) (cond b (Some r) (find (λ r. bytes_eq r.0 name) records)) ≡ None
        → (recorded name records ≡ None → recorded name (records ++ (name, n) ∷ []) ≡ Some n)
        → option_map (λ r. r.1) (cond b (Some r) (find (λ r. bytes_eq r.0 name) (records ++ (name, n) ∷ []))) ≡ Some n
    by_test true none rest = cc
    by_test false none rest = rest none

found_last : (loaders : List (List (List ℕ × ℕ))) (loader : ℕ) (name : List ℕ) (n : ℕ) → loader < length loaders
    → option_and_then (recorded name) (slice_get loaders loader) ≡ None
    → option_and_then (recorded name) (slice_get (with_record loaders loader name n) loader) ≡ Some n
found_last [] loader name n lt none = absurd (omega arith)
found_last (records ∷ loaders) zero name n lt none = recorded_last name n records none
found_last (records ∷ loaders) (suc loader) name n lt none =
    by_loader (slice_get loaders loader) refl ∙ found_last loaders loader name n (omega arith) none
  where
    by_loader : (o : Option (List (List ℕ × ℕ))) → slice_get loaders loader ≡ o
        → option_and_then (recorded name)
        (slice_get (option_map_or (λ rs. slice_set (records ∷ loaders) (suc loader) (rs ++ (name, n) ∷ [])) o (records ∷ loaders)) (suc loader))
        ≡ option_and_then (recorded name) (slice_get (option_map_or (λ rs. slice_set loaders loader (rs ++ (name, n) ∷ [])) o loaders) loader)
    by_loader None e = refl
    by_loader (Some rs) e = refl

module _ (cs : Classes) (good : IsGood cs) (own : AreRecorded cs) (loader : ℕ) (file : ClassFile) (none : MayDefine cs loader file) where
  abbrev new : Classes
  new = defined cs loader file

  loader_there : loader < length cs.loaders
  loader_there =
      leb-false (length cs.loaders) loader
      (first_of_both (nat_le (length cs.loaders) loader) (is_retired cs loader)
      (test_none (is_unknown cs loader) UnknownLoader (first_none (then_some (is_unknown cs loader) UnknownLoader) _ none.accepted).0))

  pub own_defined : AreRecorded new
  own_defined c row at alive = by_number (length cs.rows == c) refl
    where
      low : (length cs.rows == c) ≡ false → c < length cs.rows
      low other =
          let lt = slice_get_within new.rows c row at in
          let many = length-append cs.rows (class_made cs loader file ∷ []) in
          let apart : length cs.rows ≡ c → ⊥ = λ same. both_ways (length cs.rows == c) other ((Decides-eqb (length cs.rows) c).1 same) in
          omega (arith, lt, many, apart)

      made_is : (length cs.rows == c) ≡ true → class_made cs loader file ≡ row
      made_is same =
          same_Some (class_made cs loader file) row
          (sym (at_end cs.rows (class_made cs loader file)) ∙ ap (slice_get new.rows) ((Decides-eqb (length cs.rows) c).0 same) ∙ at)

      by_number : (b : Bool) → (length cs.rows == c) ≡ b → lookup new row.loader row.file.name ≡ Some c
      by_number true same =
          (λ i. lookup new (sym (made_is same) i).loader (sym (made_is same) i).file.name)
          ∙ found_last cs.loaders loader file.name (length cs.rows) loader_there (is_new cs loader file none)
          ∙ ap Some ((Decides-eqb (length cs.rows) c).0 same)
      by_number false other =
          (stays_defined cs good loader file).records row.loader row.file.name c alive
          (own c row (sym (before_end cs.rows (class_made cs loader file) c (low other)) ∙ at) alive)

-- ---- the loader's own classes

pub has_filtered : (p : ℕ → Bool) (c : ℕ) (xs : List ℕ) → has c (filter p xs) ≡ (p c && has c xs)
has_filtered p c xs = any-filter_same (λ k. k == c) p (p c) (λ k is. ap p ((Decides-eqb k c).0 is)) xs

pub has_place : (xs : List ℕ) (k d : ℕ) → k < length xs → has (get_or xs k d) xs ≡ true
has_place [] k d lt = absurd (omega arith)
has_place (x ∷ xs) zero d lt = ap (λ (b : Bool). b || has x xs) (nat_eq_equiv.refl x)
has_place (x ∷ xs) (suc k) d lt = or_right (x == get_or xs k d) (has (get_or xs k d) xs) (has_place xs k d (omega arith))

-- what a filter leaves of the first n numbers is below n
filtered_there : (p : ℕ → Bool) (n : ℕ) (xs : List ℕ) → xs ≡ filter p (range_with_len 0 n) → (k d : ℕ) → k < length xs → get_or xs k d < n
filtered_there p n xs e k d lt =
    let c = get_or xs k d in
    let low : c < 0 + n = in_range 0 n c
    (second_test (p c) (has c (range_with_len 0 n)) (sym (ap (has c) e ∙ has_filtered p c (range_with_len 0 n)) ∙ has_place xs k d lt)) in
    omega (arith, low)
  where
    in_range : (a n c : ℕ) → has c (range_with_len a n) ≡ true → c < a + n
    in_range a zero c h = cc
    in_range a (suc n) c h = elim (or_cases (a == c) (has c (range_with_len (a + 1) n)) h) [
      | inl same ↦ let is = (Decides-eqb a c).0 same in omega (arith, is)
      | inr more ↦ let lt = in_range (a + 1) n c more in omega (arith, lt)
    ]

module _ (cs : Classes) (own : AreRecorded cs) (loader : ℕ) where
  abbrev is_own : ℕ → Bool
  is_own c = is_present cs c && is_of cs loader c

  -- of a retired loader no class is present
  pub none_own : is_retired cs loader ≡ true → (c : ℕ) → has c [] ≡ is_own c
  none_own gone c = sym (by_row (slice_get cs.rows c))
    where
      by_same : (l : ℕ) (b : Bool) → (l == loader) ≡ b → (not (is_retired cs l) && b) ≡ false
      by_same l true same = ap (λ (b : Bool). not b && true) (ap (is_retired cs) ((Decides-eqb l loader).0 same) ∙ gone)
      by_same l false same = and_none (not (is_retired cs l))

      by_row : (o : Option Class)
          → (option_map_or (λ row. not (is_retired cs row.loader)) o false && option_map_or (λ row. row.loader == loader) o false) ≡ false
      by_row None = refl
      by_row (Some row) = by_same row.loader (row.loader == loader) refl

  -- what a class of a present loader is found by
  found_own : is_retired cs loader ≡ false → (c : ℕ) → is_of cs loader c ≡ true → (row : Class) × (lookup cs loader row.file.name ≡ Some c)
  found_own alive c is = by_row (slice_get cs.rows c) refl is
    where
      by_row : (o : Option Class) → slice_get cs.rows c ≡ o → option_map_or (λ row. row.loader == loader) o false ≡ true
          → (row : Class) × (lookup cs loader row.file.name ≡ Some c)
      by_row None at is = cc
      by_row (Some row) at is =
          let same = (Decides-eqb row.loader loader).0 is in
          (row, subst (λ l. lookup cs l row.file.name ≡ Some c) same (own c row at (ap (is_retired cs) same ∙ alive)))

  present_own : is_retired cs loader ≡ false → (c : ℕ) → is_of cs loader c ≡ true → is_present cs c ≡ true
  present_own alive c is = by_row (slice_get cs.rows c) is
    where
      by_row : (o : Option Class) → option_map_or (λ row. row.loader == loader) o false ≡ true
          → option_map_or (λ row. not (is_retired cs row.loader)) o false ≡ true
      by_row None is = cc
      by_row (Some row) is = ap not (ap (is_retired cs) ((Decides-eqb row.loader loader).0 is) ∙ alive)

  -- those that are recorded and of the loader are all of its classes
  pub own_are : is_retired cs loader ≡ false → (c : ℕ) → has c (option_map_or (own_recorded cs.rows loader) (slice_get cs.loaders loader) []) ≡ is_own c
  own_are alive c = by_test (is_of cs loader c) refl
    where
      among : is_of cs loader c ≡ true → (o : Option (List (List ℕ × ℕ))) → slice_get cs.loaders loader ≡ o
          → has c (option_map_or (own_recorded cs.rows loader) o []) ≡ true
      among is None at = let found = found_own alive c is in absurd (none_found (sym (ap (option_and_then (recorded found.0.file.name)) at) ∙ found.1))
        where
          none_found : ◌≡◌ {A = Option ℕ} None (Some c) → ⊥
          none_found e = cc
      among is (Some records) at =
          let found = found_own alive c is in
          has_filtered (is_of cs loader) c (map (λ r. r.1) records)
          ∙ (λ i. is i && any-map (λ k. k == c) (λ (r : List ℕ × ℕ). r.1) records i)
          ∙ any_recorded (λ k. k == c) found.0.file.name c records
          (sym (ap (option_and_then (recorded found.0.file.name)) at) ∙ found.1) (nat_eq_equiv.refl c)

      not_among : is_of cs loader c ≡ false → (o : Option (List (List ℕ × ℕ))) → has c (option_map_or (own_recorded cs.rows loader) o []) ≡ false
      not_among other None = refl
      not_among other (Some records) =
          has_filtered (is_of cs loader) c (map (λ r. r.1) records) ∙ ap (λ (b : Bool). b && has c (map (λ r. r.1) records)) other

      by_test : (b : Bool) → is_of cs loader c ≡ b → has c (option_map_or (own_recorded cs.rows loader) (slice_get cs.loaders loader) []) ≡ is_own c
      by_test true is = among is (slice_get cs.loaders loader) refl ∙ sym (λ i. present_own alive c is i && is i)
      by_test false other =
          not_among other (slice_get cs.loaders loader) ∙ sym (and_none (is_present cs c)) ∙ ap (λ (b : Bool). is_present cs c && b) (sym other)

-- ---- the own classes of several loaders

module _ (cs : Classes) (loaders : List ℕ) (n : ℕ) (l : ℕ) where
  -- those of one loader more
  pub own_more : n < length loaders → l ≡ get_or loaders n l → (all own : List ℕ)
      → ((c : ℕ) → has c all ≡ (is_present cs c && is_of_any cs (take n loaders) c))
      → ((c : ℕ) → has c own ≡ (is_present cs c && is_of cs l c))
      → (c : ℕ) → has c (all ++ own) ≡ (is_present cs c && is_of_any cs (take (n + 1) loaders) c)
  own_more lt is all own alls owns c =
      list_any-append (λ k. k == c) all own ∙ (λ i. alls c i || owns c i) ∙ by_row (slice_get cs.rows c)
    where
      turned : (a b d : Bool) → ((a && b) || (a && d)) ≡ (a && (b || d))
      turned true b d = refl
      turned false b d = refl

      one_more : (k : ℕ) → is_listed (take (n + 1) loaders) k ≡ (is_listed (take n loaders) k || (l == k))
      one_more k =
          ap (λ (ks : List ℕ). is_listed ks k) (take_more loaders n l lt)
          ∙ list_any-append (λ j. j == k) (take n loaders) (get_or loaders n l ∷ [])
          ∙ ap (λ (b : Bool). is_listed (take n loaders) k || b) (or_none (get_or loaders n l == k) ∙ ap (λ j. j == k) (sym is))

      by_row : (o : Option Class)
          → ((option_map_or (λ row. not (is_retired cs row.loader)) o false && option_map_or (λ row. is_listed (take n loaders) row.loader) o false)
          || (option_map_or (λ row. not (is_retired cs row.loader)) o false && option_map_or (λ row. row.loader == l) o false))
          ≡ (option_map_or (λ row. not (is_retired cs row.loader)) o false && option_map_or (λ row. is_listed (take (n + 1) loaders) row.loader) o false)
      by_row None = refl
      by_row (Some row) =
          turned (not (is_retired cs row.loader)) (is_listed (take n loaders) row.loader) (row.loader == l)
          ∙ ap (λ (b : Bool). not (is_retired cs row.loader) && b)
          (ap (λ (b : Bool). is_listed (take n loaders) row.loader || b) (nat_eq_equiv.symm row.loader l) ∙ sym (one_more row.loader))

  pub none_of_none : (c : ℕ) → has c [] ≡ (is_present cs c && is_of_any cs [] c)
  none_of_none c = sym (by_row (slice_get cs.rows c))
    where
      by_row : (o : Option Class) → (option_map_or (λ row. not (is_retired cs row.loader)) o false && option_map_or (λ row. is_listed [] row.loader) o
          false) ≡ false
      by_row None = refl
      by_row (Some row) = and_none (not (is_retired cs row.loader))

-- ---- what loses a receiver

one_passing : (f : ℕ → Bool) (xs : List ℕ) → list_any f xs ≡ true → (x : ℕ) × (has x xs ≡ true) × (f x ≡ true)
one_passing f [] h = cc
one_passing f (x ∷ xs) h = elim (or_cases (f x) (list_any f xs) h) [
  | inl is ↦ (x, ap (λ (b : Bool). b || has x xs) (nat_eq_equiv.refl x), is)
  | inr more ↦ let rest = one_passing f xs more in (rest.0, or_right (x == rest.0) (has rest.0 xs) rest.1, rest.2)
]

module _ (cs : Classes) (o : AreOrdered cs.rows) (loaders : List ℕ) (own concrete : List ℕ)
    (own_is : (c : ℕ) → has c own ≡ (is_present cs c && is_of_any cs loaders c))
    (concrete_is : concrete ≡ filter (is_concrete cs) own) where
  there : (c : ℕ) → is_present cs c ≡ true → c < length cs.rows
  there c is = passes_within (λ (row : Class). not (is_retired cs row.loader)) cs.rows c is

  -- the loaders' classes are there
  pub own_there : (k d : ℕ) → k < length concrete → get_or concrete k d < length cs.rows
  own_there k d lt =
      let in_list = has_place concrete k d lt in
      there (get_or concrete k d) (first_test (is_present cs (get_or concrete k d)) (is_of_any cs loaders (get_or concrete k d))
      (sym (own_is (get_or concrete k d)) ∙ second_test (is_concrete cs (get_or concrete k d)) (has (get_or concrete k d) own)
      (sym (ap (has (get_or concrete k d)) concrete_is ∙ has_filtered (is_concrete cs) (get_or concrete k d) own) ∙ in_list)))

  abbrev loses : ℕ → Bool
  loses a = list_any (is_of_any cs loaders) (receivers cs a)

  on : (a : ℕ) → list_any (λ p. is_ancestor cs a p) concrete ≡ true → has a (losing_receivers cs loaders) ≡ true
  on a h =
      let one = one_passing (is_ancestor cs a) concrete h in
      let p = one.0 in
      let both : (is_concrete cs p && has p own) ≡ true = sym (ap (has p) concrete_is ∙ has_filtered (is_concrete cs) p own) ∙ one.1 in
      let concrete' = first_test (is_concrete cs p) (has p own) both in
      let mine : (is_present cs p && is_of_any cs loaders p) ≡ true = sym (own_is p) ∙ second_test (is_concrete cs p) (has p own) both in
      let lt = there p (first_test (is_present cs p) (is_of_any cs loaders p) mine) in
      let le = above cs.rows o a ((ancestor_decides cs o a p).0 one.2) in
      any-filter-at loses (λ k. k == a) a (numbers cs)
      (any-range-from (λ k. k == a) 0 (length cs.rows) a (omega arith) (omega (arith, lt, le)) (nat_eq_equiv.refl a))
      (any-filter-at (λ x. is_concrete cs x && is_ancestor cs a x) (is_of_any cs loaders) p (numbers cs)
      (any-range-from (λ k. k == p) 0 (length cs.rows) p (omega arith) (omega (arith, lt)) (nat_eq_equiv.refl p))
      (λ i. concrete' i && one.2 i) (second_test (is_present cs p) (is_of_any cs loaders p) mine))
      (nat_eq_equiv.refl a)

  back : (a : ℕ) → has a (losing_receivers cs loaders) ≡ true → list_any (λ p. is_ancestor cs a p) concrete ≡ true
  back a h =
      let one = any-filter (λ x. is_concrete cs x && is_ancestor cs a x) (is_of_any cs loaders) (numbers cs)
      (first_test (loses a) (has a (numbers cs)) (sym (has_filtered loses a (numbers cs)) ∙ h)) in
      let p = one.item in
      let concrete' = first_test (is_concrete cs p) (is_ancestor cs a p) one.meets in
      any_at (is_ancestor cs a) p concrete (second_test (is_concrete cs p) (is_ancestor cs a p) one.meets)
      (ap (has p) concrete_is ∙ has_filtered (is_concrete cs) p own
      ∙ (λ i. concrete' i && (own_is p ∙ (λ j. first_test (is_present cs p) _ concrete' j && one.passes j)) i))

  pub losing_are : (joined : List ℕ) → Rises joined → ((a : ℕ) → has a joined ≡ list_any (λ p. is_ancestor cs a p) concrete)
      → joined ≡ losing_receivers cs loaders
  losing_are joined rises members =
      one_rising joined (losing_receivers cs loaders) rises (filter_rises loses 0 (length cs.rows))
      (λ a. members a ∙ one_answer (list_any (λ p. is_ancestor cs a p) concrete) (has a (losing_receivers cs loaders)) (λ e. e, λ e. e) (back a, on a))

-- those that lose a receiver are there, and rise
pub losing_there : (cs : Classes) (loaders : List ℕ) (losing : List ℕ) → losing ≡ losing_receivers cs loaders
    → (k d : ℕ) → k < length losing → get_or losing k d < length cs.rows
losing_there cs loaders losing e = filtered_there (λ c. list_any (is_of_any cs loaders) (receivers cs c)) (length cs.rows) losing e

pub losing_rises : (cs : Classes) (loaders : List ℕ) (losing : List ℕ) → losing ≡ losing_receivers cs loaders → Rises losing
losing_rises cs loaders losing e = subst Rises (sym e) (filter_rises (λ c. list_any (is_of_any cs loaders) (receivers cs c)) 0 (length cs.rows))
