-- What definitions and delegations add to the fresh classes.
use Rattle.std.specs.Prelude.{◌≡◌, ℕ, zero, suc, ◌-◌, ◌<◌, ◌==◌, Bool, true, false, List, [], ◌∷◌, ◌++◌, map, filter_map, length, replicate}
use Rattle.std.specs.Prelude.{not, slice_get, slice_set, Option, Some, None, option_map, option_and_then}
use Rattle.std.specs.Option.{option_map_or}
use Rattle.std.specs.List.{cons_option}
use Rattle.std.proofs.Common.{refl, sym, ap, ◌∙◌, arith, append_assoc, length-append}
use Rattle.std.proofs.lemmas.Bool.{or_left, or_right}
use Rattle.std.proofs.lemmas.Cmp.{nat_eq_equiv}
use Rattle.std.proofs.lemmas.List.{map-append, length-map}
use Rattle.std.proofs.lemmas.Option.{slice_get-map, slice_get_within}
use Rattle.jl_class.specs.Class.{ClassFile}
use Rattle.jl_types.specs.Values.World.{World, Class, Classes}
use Rattle.jl_types.specs.Values.Members.{lookup, is_retired}
use Rattle.jl_types.specs.Events.Definitions.{class_made, with_record, defined, delegated}
use Rattle.jl_types.specs.Events.Retirement.{is_listed, emptied, retired}
use Rattle.jl_types.proofs.Lists.{element_at}
use Rattle.jl_renewal.specs.declared.released.Released.{Released}
use Rattle.jl_renewal.specs.Numbers.{Numbers, staying, renumbered}
use Rattle.jl_renewal.specs.Staying.{numbers_of, staying_loaders, staying_classes}
use Rattle.jl_renewal.specs.Renewed.{renumbered_record, renumbered_class}
use Rattle.jl_renewal.proofs.NumberLaws.{before, renumbered_is, staying_at, staying_more, staying_less, staying_length}
use Rattle.jl_renewal.proofs.ClassLaws.{fresh_of, padded, padded_at, loader_stays, loader_goes, class_at}
use Rattle.jl_renewal.proofs.ClassSteps.{IsEarlier, finds}
use Rattle.jl_renewal.proofs.MovedLists.{length_set}

abbrev Records : Type 0
Records = List (List ℕ × ℕ)

-- ---- one element of a list is another

map_set : {A B : Type 0} (f : A → B) (xs : List A) (i : ℕ) (x : A) → map f (slice_set xs i x) ≡ slice_set (map f xs) i (f x)
map_set f [] i x = refl
map_set f (y ∷ xs) zero x = refl
map_set f (y ∷ xs) (suc i) x = ap (λ ys. f y ∷ ys) (map_set f xs i x)

set_staying : {A : Type 0} (stays : List Bool) (xs : List A) (i : ℕ) (x : A) → slice_get stays i ≡ Some true
    → staying stays (slice_set xs i x) ≡ slice_set (staying stays xs) (before stays i) x
set_staying [] xs i x e = cc
set_staying (b ∷ stays) [] i x e = refl
set_staying (true ∷ stays) (y ∷ xs) zero x e = refl
set_staying (false ∷ stays) (y ∷ xs) zero x e = cc
set_staying (true ∷ stays) (y ∷ xs) (suc i) x e = ap (λ ys. y ∷ ys) (set_staying stays xs i x e)
set_staying (false ∷ stays) (y ∷ xs) (suc i) x e = set_staying stays xs i x e

pub set_going : {A : Type 0} (stays : List Bool) (xs : List A) (i : ℕ) (x : A) → slice_get stays i ≡ Some false
    → staying stays (slice_set xs i x) ≡ staying stays xs
set_going [] xs i x e = cc
set_going (b ∷ stays) [] i x e = refl
set_going (true ∷ stays) (y ∷ xs) zero x e = cc
set_going (false ∷ stays) (y ∷ xs) zero x e = refl
set_going (true ∷ stays) (y ∷ xs) (suc i) x e = ap (λ ys. y ∷ ys) (set_going stays xs i x e)
set_going (false ∷ stays) (y ∷ xs) (suc i) x e = set_going stays xs i x e

pub padded_set : (n : ℕ) (loaders : List Records) (l : ℕ) (records : Records) → l < length loaders
    → padded n (slice_set loaders l records) ≡ slice_set (padded n loaders) l records
padded_set n loaders l records lt =
    ap (λ (m : ℕ). slice_set loaders l records ++ replicate (n - m) []) (length_set loaders l records) ∙ front loaders l lt
  where
    front : (xs : List Records) (l : ℕ) → l < length xs
        → slice_set xs l records ++ replicate (n - length loaders) [] ≡ slice_set (xs ++ replicate (n - length loaders) []) l records
    front [] l lt = absurd (omega (arith, lt))
    front (x ∷ xs) zero lt = refl
    front (x ∷ xs) (suc l) lt = ap (λ (ys : List Records). x ∷ ys) (front xs l (omega (arith, lt)))

-- one empty list more is one that was there
pub padded_more : (n : ℕ) (loaders : List Records) → length loaders < n → padded n (loaders ++ [] ∷ []) ≡ padded n loaders
padded_more n loaders lt =
    append_assoc loaders ([] ∷ []) (replicate (n - length (loaders ++ [] ∷ [])) [])
    ∙ ap (λ (ys : List Records). loaders ++ ys) (one (n - length (loaders ++ [] ∷ [])) (n - length loaders) up)
  where
    one : (m k : ℕ) → k ≡ suc m → [] ∷ replicate {A = Records} m [] ≡ replicate k []
    one m k e = sym (ap (λ (j : ℕ). replicate {A = Records} j []) e)

    up : n - length loaders ≡ suc (n - length (loaders ++ [] ∷ []))
    up = let longer = length-append loaders ([] ∷ []) in omega (arith, lt, longer)

-- ---- a record more

module _ (w : World) (released : Released) (mid : Classes) where
  abbrev n : Numbers
  n = numbers_of w released

  abbrev stays : List Bool
  stays = staying_loaders w.classes

  abbrev all : ℕ
  all = length w.classes.loaders

  abbrev loaders_of : List Records → List Records
  loaders_of loaders = map (map (renumbered_record n)) (staying stays (padded all loaders))

  -- of a loader that stays
  pub record_more : (l : ℕ) (name : List ℕ) (c : ℕ) → slice_get stays l ≡ Some true → l < length mid.loaders
      → with_record (loaders_of mid.loaders) (renumbered n.loaders l) name (renumbered n.classes c) ≡ loaders_of (with_record mid.loaders l name c)
  record_more l name c staying_l there =
      let records = element_at mid.loaders l there in
      ap (λ (o : Option Records). option_map_or (λ records. slice_set (loaders_of mid.loaders) (renumbered n.loaders l)
      (records ++ (name, renumbered n.classes c) ∷ [])) o (loaders_of mid.loaders))
      (slice_get-map (map (renumbered_record n)) (staying stays (padded all mid.loaders)) (renumbered n.loaders l)
      ∙ ap (option_map (map (renumbered_record n)))
      (ap (slice_get (staying stays (padded all mid.loaders))) (renumbered_is stays l staying_l)
      ∙ staying_at stays (padded all mid.loaders) l records.0 staying_l (padded_at all mid.loaders l records.0 records.1)))
      ∙ (ap (λ (records : Records). slice_set (loaders_of mid.loaders) (renumbered n.loaders l) records)
      (sym (map-append (renumbered_record n) records.0 ((name, c) ∷ [])))
      ∙ (ap (λ (k : ℕ). slice_set (loaders_of mid.loaders) k (map (renumbered_record n) (records.0 ++ (name, c) ∷ []))) (renumbered_is stays l staying_l)
      ∙ (sym (map_set (map (renumbered_record n)) (staying stays (padded all mid.loaders)) (before stays l) (records.0 ++ (name, c) ∷ []))
      ∙ (ap (map (map (renumbered_record n)))
      (sym (set_staying stays (padded all mid.loaders) l (records.0 ++ (name, c) ∷ []) staying_l)
      ∙ ap (staying stays) (sym (padded_set all mid.loaders l (records.0 ++ (name, c) ∷ []) there)))
      ∙ ap loaders_of
      (sym (ap (λ (o : Option Records). option_map_or (λ records. slice_set mid.loaders l (records ++ (name, c) ∷ [])) o mid.loaders) records.1))))))

  -- of a loader that goes
  pub record_gone : (l : ℕ) (name : List ℕ) (c : ℕ) → slice_get stays l ≡ Some false → l < length mid.loaders
      → loaders_of (with_record mid.loaders l name c) ≡ loaders_of mid.loaders
  record_gone l name c going there =
      let records = element_at mid.loaders l there in
      ap loaders_of (ap (λ (o : Option Records). option_map_or (λ records. slice_set mid.loaders l (records ++ (name, c) ∷ [])) o mid.loaders) records.1)
      ∙ ap (map (map (renumbered_record n)))
      (ap (staying stays) (padded_set all mid.loaders l (records.0 ++ (name, c) ∷ []) there)
      ∙ set_going stays (padded all mid.loaders) l (records.0 ++ (name, c) ∷ []) going)

-- ---- a class more, and a delegation

module _ (w : World) (released : Released) (mid : Classes) (earlier : IsEarlier w mid) (l : ℕ) (live : is_retired w.classes l ≡ false)
    (there : l < length mid.loaders) where
  abbrev nn : Numbers
  nn = numbers_of w released

  abbrev k : ℕ
  k = renumbered nn.loaders l

  abbrev fresh : Classes
  fresh = fresh_of w released mid

  l_stays : slice_get (staying_loaders w.classes) l ≡ Some true
  l_stays = loader_stays w.classes l (let le = earlier.loaders in omega (arith, there, le)) live

  found_here : (name : List ℕ) → lookup fresh k name ≡ option_map (renumbered nn.classes) (lookup mid l name)
  found_here = finds w released mid earlier l live there

  superclass_same : (o : Option (List ℕ)) → option_map (renumbered nn.classes) (option_and_then (lookup mid l) o) ≡ option_and_then (lookup fresh k) o
  superclass_same None = refl
  superclass_same (Some name) = sym (found_here name)

  interfaces_same : (names : List (List ℕ)) → map (renumbered nn.classes) (filter_map (lookup mid l) names) ≡ filter_map (lookup fresh k) names
  interfaces_same [] = refl
  interfaces_same (name ∷ names) =
      one (lookup mid l name) (filter_map (lookup mid l) names)
      ∙ (ap (λ (o : Option ℕ). cons_option o (map (renumbered nn.classes) (filter_map (lookup mid l) names))) (sym (found_here name))
      ∙ ap (cons_option (lookup fresh k name)) (interfaces_same names))
    where
      one : (o : Option ℕ) (rest : List ℕ)
          → map (renumbered nn.classes) (cons_option o rest) ≡ cons_option (option_map (renumbered nn.classes) o) (map (renumbered nn.classes) rest)
      one None rest = refl
      one (Some c) rest = refl

  made_same : (file : ClassFile) → class_made fresh k file ≡ renumbered_class nn (class_made mid l file)
  made_same file = λ i. record {
    loader = k;
    file = file;
    superclass = sym (superclass_same file.superclass) i;
    interfaces = sym (interfaces_same file.interfaces) i;
  }

  -- the class that is made stays
  module _ (file : ClassFile) (last : slice_get w.classes.rows (length mid.rows) ≡ Some (class_made mid l file)) where
    class_will_stay : slice_get (staying_classes w.classes) (length mid.rows) ≡ Some true
    class_will_stay = class_at w.classes (length mid.rows) (class_made mid l file) last ∙ ap (λ (b : Bool). Some (not b)) live

    as_many : length fresh.rows ≡ renumbered nn.classes (length mid.rows)
    as_many =
        length-map (staying (staying_classes w.classes) mid.rows) (renumbered_class nn)
        ∙ (staying_length (staying_classes w.classes) mid.rows
        (let within = slice_get_within (staying_classes w.classes) (length mid.rows) true class_will_stay in omega (arith, within))
        ∙ sym (renumbered_is (staying_classes w.classes) (length mid.rows) class_will_stay))

    pub defined_same : defined fresh k file ≡ fresh_of w released (defined mid l file)
    defined_same = λ i. record {
      loaders = (ap (λ (c : ℕ). with_record fresh.loaders k file.name c) as_many
          ∙ record_more w released mid l file.name (length mid.rows) l_stays there) i;
      rows = (ap (λ (row : Class). fresh.rows ++ row ∷ []) (made_same file)
          ∙ (sym (map-append (renumbered_class nn) (staying (staying_classes w.classes) mid.rows) (class_made mid l file ∷ []))
          ∙ ap (map (renumbered_class nn)) (sym (staying_more (staying_classes w.classes) mid.rows (class_made mid l file) class_will_stay)))) i;
      retired = [];
    }

  -- the loader finds through another one what it has found
  pub delegated_same : (name : List ℕ) (to d c : ℕ) → lookup mid to name ≡ Some c → lookup fresh d name ≡ Some (renumbered nn.classes c)
      → delegated fresh k name d ≡ fresh_of w released (delegated mid l name to)
  delegated_same name to d c is found = λ i. record {
    loaders = (ap (λ (o : Option ℕ). option_map_or (with_record fresh.loaders k name) o fresh.loaders) found
        ∙ (record_more w released mid l name c l_stays there
        ∙ ap (loaders_of w released mid) (sym (ap (λ (o : Option ℕ). option_map_or (with_record mid.loaders l name) o mid.loaders) is)))) i;
    rows = fresh.rows;
    retired = [];
  }

-- ---- what goes leaves all as it is

module _ (w : World) (released : Released) (mid : Classes) (l : ℕ) (gone : is_retired w.classes l ≡ true)
    (within : l < length w.classes.loaders) (there : l < length mid.loaders) where
  abbrev kk : Numbers
  kk = numbers_of w released

  l_goes : slice_get (staying_loaders w.classes) l ≡ Some false
  l_goes = loader_goes w.classes l within gone

  pub defined_gone : (file : ClassFile) → slice_get w.classes.rows (length mid.rows) ≡ Some (class_made mid l file)
      → fresh_of w released (defined mid l file) ≡ fresh_of w released mid
  defined_gone file last = λ i. record {
    loaders = record_gone w released mid l file.name (length mid.rows) l_goes there i;
    rows = ap (map (renumbered_class kk)) (staying_less (staying_classes w.classes) mid.rows (class_made mid l file)
        (class_at w.classes (length mid.rows) (class_made mid l file) last ∙ ap (λ (b : Bool). Some (not b)) gone)) i;
    retired = [];
  }

  pub delegated_gone : (name : List ℕ) (to : ℕ) → fresh_of w released (delegated mid l name to) ≡ fresh_of w released mid
  delegated_gone name to = by_class (lookup mid to name) refl
    where
      by_class : (o : Option ℕ) → lookup mid to name ≡ o → fresh_of w released (delegated mid l name to) ≡ fresh_of w released mid
      by_class None is = ap (λ (o : Option ℕ). fresh_of w released
          (record mid { loaders = option_map_or (with_record mid.loaders l name) o mid.loaders })) is
      by_class (Some c) is =
          ap (λ (o : Option ℕ). fresh_of w released (record mid { loaders = option_map_or (with_record mid.loaders l name) o mid.loaders })) is
          ∙ (λ i. record {
            loaders = record_gone w released mid l name c l_goes there i;
            rows = map (renumbered_class kk) (staying (staying_classes w.classes) mid.rows);
            retired = [];
          })

-- loaders that go may find nothing
emptied_gone : (stays : List Bool) (n : ℕ) (loaders : List ℕ) (found : List Records)
    → ((l : ℕ) → is_listed loaders l ≡ true → (slice_get stays l ≡ Some false) × (l < length found))
    → staying stays (padded n (emptied found loaders)) ≡ staying stays (padded n found)
emptied_gone stays n [] found goes = refl
emptied_gone stays n (l ∷ loaders) found goes =
    let first = goes l (or_left (l == l) (is_listed loaders l) (nat_eq_equiv.refl l)) in
    emptied_gone stays n loaders (slice_set found l [])
    (λ k there.
    let one = goes k (or_right (l == k) (is_listed loaders k) there) in
    let same = length_set found l [] in
    let lt = one.1 in
    (one.0, omega (arith, lt, same)))
    ∙ (ap (staying stays) (padded_set n found l [] first.1) ∙ set_going stays (padded n found) l [] first.0)

pub retired_gone : (w : World) (released : Released) (mid : Classes) (loaders : List ℕ)
    → ((l : ℕ) → is_listed loaders l ≡ true → (slice_get (staying_loaders w.classes) l ≡ Some false) × (l < length mid.loaders))
    → fresh_of w released (retired mid loaders) ≡ fresh_of w released mid
retired_gone w released mid loaders goes = λ i. record {
  loaders = ap (map (map (renumbered_record (numbers_of w released))))
      (emptied_gone (staying_loaders w.classes) (length w.classes.loaders) loaders mid.loaders goes) i;
  rows = map (renumbered_class (numbers_of w released)) (staying (staying_classes w.classes) mid.rows);
  retired = [];
}

-- a new loader has found nothing
pub loader_more : (w : World) (released : Released) (mid : Classes) → length mid.loaders < length w.classes.loaders
    → fresh_of w released (record mid { loaders = mid.loaders ++ [] ∷ [] }) ≡ fresh_of w released mid
loader_more w released mid lt = λ i. record {
  loaders = ap (λ (loaders : List Records). map (map (renumbered_record (numbers_of w released))) (staying (staying_loaders w.classes) loaders))
      (padded_more (length w.classes.loaders) mid.loaders lt) i;
  rows = map (renumbered_class (numbers_of w released)) (staying (staying_classes w.classes) mid.rows);
  retired = [];
}
