-- java/lang/Object comes first.
use Rattle.std.specs.Prelude.{◌≡◌, ◌⊎◌, ℕ, zero, suc, ◌<◌, ◌==◌, ◌&&◌, ◌||◌, Bool, true, false, cond, not, nat_le, is_some, is_none, List, [], ◌∷◌}
use Rattle.std.specs.Prelude.{◌++◌, length, find, slice_get, slice_set}
use Rattle.std.specs.Prelude.{Option, Some, None, option_map, option_and_then, option_to_list}
use Rattle.std.specs.Bool.{then_some}
use Rattle.std.specs.Option.{option_map_or}
use Rattle.std.specs.Str.{bytes_eq}
use Rattle.std.proofs.Common.{refl, ap, sym, ◌∙◌, arith, inl, inr, eq-or-lt_of_le}
use Rattle.std.proofs.lemmas.Bool.{leb-false}
use Rattle.std.proofs.lemmas.Bool.Decides.{Decides-eqb}
use Rattle.std.proofs.lemmas.Option.{same_Some}
use Rattle.std.proofs.lemmas.Slice.Eq.{bytes_eq-Decides}
use Rattle.jl_class.specs.Class.{ClassFile}
use Rattle.jl_class.specs.Flags.{has_flag, object, extends_object, INTERFACE}
use Rattle.jl_types.specs.Values.World.{Class, Classes}
use Rattle.jl_types.specs.Values.Members.{is_retired, recorded, lookup, is_interface}
use Rattle.jl_types.specs.Events.Definitions.{is_unknown, class_made, parent_names, with_record, defined}
use Rattle.jl_types.specs.Linkage.Resolution.{first_of}
use Rattle.jl_types.specs.declared.refusal.DefineFault.TheVariants.{UnknownLoader, SecondObject, MissingParent}
use Rattle.jl_types.proofs.Firsts.{test_none}
use Rattle.jl_types.proofs.Lists.{before_end, at_end}
use Rattle.jl_types.proofs.Orders.{none_after}
use Rattle.jl_hierarchy.specs.Constancy.{has_object, ObjectComesFirst, MayDefine}
use Rattle.jl_hierarchy.proofs.Constancy.{with_record_stays}

pub is_there : (o : Option ℕ) → is_some o ≡ true → (c : ℕ) × (o ≡ Some c)
is_there None h = cc
is_there (Some c) h = (c, refl)

not_not : (b : Bool) → not b ≡ false → b ≡ true
not_not true h = refl
not_not false h = cc

no_value : {A B : Type 0} (o : Option A) (f : A → B) → option_map f o ≡ None → o ≡ None
no_value None f h = refl
no_value (Some x) f h = cc

some_none : {A : Type 0} (a b c d e : Option A) (rest : List (Option A)) → first_of (a ∷ b ∷ c ∷ d ∷ e ∷ rest) ≡ None → (a ≡ None) × (b ≡ None) × (e ≡ None)
some_none None None None None None rest h = (refl, refl, refl)
some_none None None None None (Some x) rest h = cc
some_none None None None (Some x) e rest h = cc
some_none None None (Some x) d e rest h = cc
some_none None (Some x) c d e rest h = cc
some_none (Some x) b c d e rest h = cc

-- ---- a record of another name changes nothing of java/lang/Object

found_before : (name : List ℕ) (e : List ℕ × ℕ) (records : List (List ℕ × ℕ)) → bytes_eq e.0 name ≡ false
    → recorded name (records ++ e ∷ []) ≡ recorded name records
found_before name e [] other = ap (λ (b : Bool). option_map (λ r. r.1) (cond b (Some e) None)) other
found_before name e (r ∷ records) other = by_test (bytes_eq r.0 name) (found_before name e records other)
  where
    by_test : (b : Bool) → recorded name (records ++ e ∷ []) ≡ recorded name records
        → option_map (λ r. r.1) (cond b (Some r) (find (λ r. bytes_eq r.0 name) (records ++ e ∷ [])))
        ≡ option_map (λ r. r.1) (cond b (Some r) (find (λ r. bytes_eq r.0 name) records))
    by_test true rest = refl
    by_test false rest = rest

set_apart : (name : List ℕ) (e : List ℕ × ℕ) (records : List (List ℕ × ℕ)) (loaders : List (List (List ℕ × ℕ))) (l k : ℕ)
    → bytes_eq e.0 name ≡ false → slice_get loaders l ≡ Some records
    → option_and_then (recorded name) (slice_get (slice_set loaders l (records ++ e ∷ [])) k) ≡ option_and_then (recorded name) (slice_get loaders k)
set_apart name e records [] l k other is = cc
set_apart name e records (x ∷ loaders) zero zero other is =
    found_before name e records other ∙ ap (recorded name) (sym (same_Some x records is))
set_apart name e records (x ∷ loaders) zero (suc k) other is = refl
set_apart name e records (x ∷ loaders) (suc l) zero other is = refl
set_apart name e records (x ∷ loaders) (suc l) (suc k) other is = set_apart name e records loaders l k other is

record_apart : (name other : List ℕ) (loaders : List (List (List ℕ × ℕ))) (loader d k : ℕ) → bytes_eq other name ≡ false
    → option_and_then (recorded name) (slice_get (with_record loaders loader other d) k) ≡ option_and_then (recorded name) (slice_get loaders k)
record_apart name other loaders loader d k apart = by_loader (slice_get loaders loader) refl
  where
    by_loader : (o : Option (List (List ℕ × ℕ))) → slice_get loaders loader ≡ o
        → option_and_then (recorded name) (slice_get (option_map_or (λ records. slice_set loaders loader (records ++ (other, d) ∷ [])) o loaders) k)
        ≡ option_and_then (recorded name) (slice_get loaders k)
    by_loader None is = refl
    by_loader (Some records) is = set_apart name (other, d) records loaders loader k apart is

-- ---- and one of that name is found

found_after : (name : List ℕ) (e : List ℕ × ℕ) (records : List (List ℕ × ℕ)) → bytes_eq e.0 name ≡ true → is_some (recorded name (records ++ e ∷ [])) ≡ true
found_after name e [] same = ap (λ (b : Bool). is_some (option_map (λ r. r.1) (cond b (Some e) None))) same
found_after name e (r ∷ records) same = by_test (bytes_eq r.0 name) (found_after name e records same)
  where
    by_test : (b : Bool) → is_some (recorded name (records ++ e ∷ [])) ≡ true
        → is_some (option_map (λ r. r.1) (cond b (Some r) (find (λ r. bytes_eq r.0 name) (records ++ e ∷ [])))) ≡ true
    by_test true rest = refl
    by_test false rest = rest

first_set : (name : List ℕ) (e : List ℕ × ℕ) (loaders : List (List (List ℕ × ℕ))) → 0 < length loaders → bytes_eq e.0 name ≡ true
    → is_some (option_and_then (recorded name) (slice_get (with_record loaders 0 e.0 e.1) 0)) ≡ true
first_set name e [] lt same = absurd (omega arith)
first_set name e (records ∷ loaders) lt same = found_after name e records same

-- ---- the changes

first_by : (cs : Classes) → has_object cs 0 ≡ true → ObjectComesFirst cs
first_by cs h = record { recorded = λ l is. h; interfaces = λ c is. h }

module _ (cs : Classes) (first : ObjectComesFirst cs) (to loader : ℕ) (name : List ℕ) (d : ℕ) (found : lookup cs to name ≡ Some d) where
  abbrev recorded_by : Classes
  recorded_by = record cs { loaders = with_record cs.loaders loader name d }

  pub first_with_record : ObjectComesFirst recorded_by
  first_with_record = by_name (bytes_eq name object) refl
    where
      by_name : (b : Bool) → bytes_eq name object ≡ b → ObjectComesFirst recorded_by
      by_name false e =
          let same : (l : ℕ) → has_object recorded_by l ≡ has_object cs l = λ l. ap is_some (record_apart object name cs.loaders loader d l e) in
          record {
            recorded = λ l is. same 0 ∙ first.recorded l (sym (same l) ∙ is);
            interfaces = λ c is. same 0 ∙ first.interfaces c is;
          }
      by_name true e =
          let here : has_object cs to ≡ true = ap is_some (ap (lookup cs to) (sym ((bytes_eq-Decides name object).0 e)) ∙ found) in
          let o = is_there (lookup cs 0 object) (first.recorded to here) in
          first_by recorded_by (ap is_some (with_record_stays cs.loaders loader name d 0 object o.0 o.1))

-- a loader that has found nothing
with_none : (name : List ℕ) (loaders : List (List (List ℕ × ℕ))) (k : ℕ)
    → option_and_then (recorded name) (slice_get (loaders ++ [] ∷ []) k) ≡ option_and_then (recorded name) (slice_get loaders k)
with_none name [] zero = refl
with_none name [] (suc k) = refl
with_none name (records ∷ loaders) zero = refl
with_none name (records ∷ loaders) (suc k) = with_none name loaders k

pub first_with_loader : (cs : Classes) → ObjectComesFirst cs → ObjectComesFirst (record cs { loaders = cs.loaders ++ [] ∷ [] })
first_with_loader cs first =
    let same : (l : ℕ) → is_some (option_and_then (recorded object) (slice_get (cs.loaders ++ [] ∷ []) l)) ≡ has_object cs l =
    λ l. ap is_some (with_none object cs.loaders l)
    in
    record {
      recorded = λ l is. same 0 ∙ first.recorded l (sym (same l) ∙ is);
      interfaces = λ c is. same 0 ∙ first.interfaces c is;
    }

-- an interface's superclass is java/lang/Object
named_object : (flags : ℕ) (superclass : Option (List ℕ)) → extends_object flags superclass ≡ true → has_flag flags INTERFACE ≡ true
    → superclass ≡ Some object
named_object flags superclass extends is =
    by_superclass superclass (sym (ap (λ (b : Bool). not b || option_map_or (λ text. bytes_eq text object) superclass false) is) ∙ extends)
  where
    by_superclass : (o : Option (List ℕ)) → option_map_or (λ text. bytes_eq text object) o false ≡ true → o ≡ Some object
    by_superclass None e = cc
    by_superclass (Some name) e = ap Some ((bytes_eq-Decides name object).0 e)

module _ (cs : Classes) (first : ObjectComesFirst cs) (loader : ℕ) (file : ClassFile) (none : MayDefine cs loader file)
    (extends : extends_object file.flags file.superclass ≡ true) where
  abbrev new : Classes
  new = defined cs loader file

  first_ones : (then_some (is_unknown cs loader) UnknownLoader ≡ None)
      × (then_some (bytes_eq file.name object && not (loader == 0)) SecondObject ≡ None)
      × (option_map MissingParent (find (λ name. is_none (lookup cs loader name)) (parent_names file)) ≡ None)
  first_ones = some_none _ _ _ _ _ _ none.accepted

  loader_there : loader < length cs.loaders
  loader_there =
      leb-false (length cs.loaders) loader
      (first_part (nat_le (length cs.loaders) loader) (is_retired cs loader) (test_none (is_unknown cs loader) UnknownLoader first_ones.0))
    where
      first_part : (a b : Bool) → (a || b) ≡ false → a ≡ false
      first_part true b e = cc
      first_part false b e = refl

  no_second : (bytes_eq file.name object && not (loader == 0)) ≡ false
  no_second = test_none (bytes_eq file.name object && not (loader == 0)) SecondObject first_ones.1

  none_missing : find (λ name. is_none (lookup cs loader name)) (parent_names file) ≡ None
  none_missing = no_value (find (λ name. is_none (lookup cs loader name)) (parent_names file)) MissingParent first_ones.2

  -- the superclass is recorded
  super_there : (name : List ℕ) → file.superclass ≡ Some name → is_some (lookup cs loader name) ≡ true
  super_there name e =
      by_found (lookup cs loader name) (find (λ n. is_none (lookup cs loader n)) file.interfaces)
      (sym (ap (λ (o : Option (List ℕ)). find (λ n. is_none (lookup cs loader n)) (option_to_list o ++ file.interfaces)) e) ∙ none_missing)
    where
      by_found : (o : Option ℕ) (rest : Option (List ℕ)) → cond (is_none o) (Some name) rest ≡ None → is_some o ≡ true
      by_found None rest h = cc
      by_found (Some c) rest h = refl

  pub first_defined : ObjectComesFirst new
  first_defined = by_name (bytes_eq file.name object) refl
    where
      -- java/lang/Object itself, which loader 0 alone defines
      by_name : (b : Bool) → bytes_eq file.name object ≡ b → ObjectComesFirst new
      by_name true e =
          let zeroth : loader ≡ 0 = (Decides-eqb loader 0).0 (not_not (loader == 0) (sym (ap (λ (b : Bool). b && not (loader == 0)) e) ∙ no_second)) in
          first_by new (
          ap (λ l. is_some (option_and_then (recorded object) (slice_get (with_record cs.loaders l file.name (length cs.rows)) 0))) zeroth
          ∙ first_set object (file.name, length cs.rows) cs.loaders (let lt = loader_there in omega arith) e
          )
      by_name false e =
          let same : (l : ℕ) → has_object new l ≡ has_object cs l = λ l. ap is_some (record_apart object file.name cs.loaders loader (length cs.rows) l e) in
          record {
            recorded = λ l is. same 0 ∙ first.recorded l (sym (same l) ∙ is);
            interfaces = λ c is. same 0 ∙ by_place c is (before_or_at c (slice_get new.rows c) refl is);
          }
        where
          before_or_at : (c : ℕ) (o : Option Class) → slice_get new.rows c ≡ o → option_map_or (λ row. has_flag row.file.flags INTERFACE) o false ≡ true
              → (c ≡ length cs.rows) ⊎ (c < length cs.rows)
          before_or_at c None at is = cc
          before_or_at c (Some row) at is = eq-or-lt_of_le (none_after cs.rows (class_made cs loader file) row c at)

          by_place : (c : ℕ) → is_interface new c ≡ true → (c ≡ length cs.rows) ⊎ (c < length cs.rows) → has_object cs 0 ≡ true
          by_place c is (inr lt) =
              first.interfaces c
              (sym (ap (λ (o : Option Class). option_map_or (λ row. has_flag row.file.flags INTERFACE) o false)
              (before_end cs.rows (class_made cs loader file) c lt)) ∙ is)
          by_place c is (inl same) =
              let flag : has_flag file.flags INTERFACE ≡ true =
              sym (ap (λ (o : Option Class). option_map_or (λ row. has_flag row.file.flags INTERFACE) o false)
              (ap (slice_get new.rows) same ∙ at_end cs.rows (class_made cs loader file))) ∙ is
              in
              first.recorded loader (super_there object (named_object file.flags file.superclass extends flag))
