-- Whatever events come, a class's parents were defined before it.
use Rattle.std.specs.Prelude.{◌≡◌, ℕ, zero, suc, ◌+◌, ◌<◌, ◌≤◌, ◌⊎◌, Bool, true, false, cond, List, [], ◌∷◌, ◌++◌, length}
use Rattle.std.specs.Prelude.{slice_get, slice_set, slice_index_or, find, filter_map, fold, Option, Some, None, option_map, option_and_then, option_to_list}
use Rattle.std.specs.List.{AllByRecursion, cons_option}
use Rattle.std.specs.Option.{option_map_or}
use Rattle.std.proofs.Common.{refl, ap, sym, subst, ◌∙◌, arith, inl, inr, length-append, eq-or-lt_of_le}
use Rattle.std.proofs.lemmas.List.Elements.{All-from_recursion, recursion_from_All}
use Rattle.std.proofs.lemmas.Option.{same_Some}
use Rattle.std.specs.Str.{bytes_eq}
use Rattle.jl_class.specs.Class.{ClassFile}
use Rattle.jl_types.specs.Events.Event.{Event}
use Rattle.jl_types.specs.declared.event.EventOf.TheVariants as event
use Rattle.jl_types.specs.Values.World.{Class, Classes, World, nothing_yet}
use Rattle.jl_types.specs.Values.Members.{recorded, lookup}
use Rattle.jl_types.specs.Values.Ancestry.{parents, AreOrdered}
use Rattle.jl_types.specs.Events.Definitions.{class_made, with_record, defined, delegated}
use Rattle.jl_types.specs.Events.Retirement.{emptied, retired}
use Rattle.jl_types.specs.Events.Verdict.{step}
use Rattle.jl_types.specs.Events.History.{world_after}
use Rattle.jl_types.proofs.Lists.{before_end, at_end, all_at, all_set}

-- the records name classes that are there
abbrev pub AreBelow : ℕ → List (List ℕ × ℕ) → Type 0
AreBelow n records = AllByRecursion (λ r. r.1 < n) records

-- what loaders have recorded is there, and parents come first
pub record IsGood (cs : Classes) : Type 0 where
  pub there : AllByRecursion (AreBelow (length cs.rows)) cs.loaders
  pub ordered : AreOrdered cs.rows

-- ---- look-ups

found_below : (n : ℕ) (name : List ℕ) (records : List (List ℕ × ℕ)) → AreBelow n records → (c : ℕ) → recorded name records ≡ Some c → c < n
found_below n name [] h c e = cc
found_below n name (r ∷ records) h c e = by_test (bytes_eq r.0 name) (found_below n name records h.1 c) e
  where
    by_test : (b : Bool) → (recorded name records ≡ Some c → c < n) → option_map (λ r. r.1) (cond b (Some r) (find (λ r. bytes_eq r.0 name) records)) ≡ Some c
        → c < n
    by_test true rest e = subst (λ k. k < n) (same_Some r.1 c e) h.0
    by_test false rest e = rest e

module _ (cs : Classes) (good : IsGood cs) (loader : ℕ) where
  pub looked_up : (name : List ℕ) (c : ℕ) → lookup cs loader name ≡ Some c → c < length cs.rows
  looked_up name c e = by_loader (slice_get cs.loaders loader) refl e
    where
      by_loader : (o : Option (List (List ℕ × ℕ))) → slice_get cs.loaders loader ≡ o → option_and_then (recorded name) o ≡ Some c → c < length cs.rows
      by_loader None is e = cc
      by_loader (Some records) is e =
          found_below (length cs.rows) name records (all_at (AreBelow (length cs.rows)) cs.loaders loader records is good.there) c e

  one_below : (o : Option ℕ) → ((c : ℕ) → o ≡ Some c → c < length cs.rows) → (more : List ℕ) → AllByRecursion (λ p. p < length cs.rows) more
      → AllByRecursion (λ p. p < length cs.rows) (option_to_list o ++ more)
  one_below None h more rest = rest
  one_below (Some c) h more rest = (h c refl, rest)

  by_name : (name : Option (List ℕ)) (c : ℕ) → option_and_then (lookup cs loader) name ≡ Some c → c < length cs.rows
  by_name None c e = cc
  by_name (Some name) c e = looked_up name c e

  all_below : (names : List (List ℕ)) → AllByRecursion (λ p. p < length cs.rows) (filter_map (lookup cs loader) names)
  all_below [] = tt
  all_below (name ∷ names) = by_first (lookup cs loader name) (λ c e. looked_up name c e) (all_below names)
    where
      by_first : (o : Option ℕ) → ((c : ℕ) → o ≡ Some c → c < length cs.rows)
          → AllByRecursion (λ p. p < length cs.rows) (filter_map (lookup cs loader) names)
          → AllByRecursion (λ p. p < length cs.rows) (cons_option o (filter_map (lookup cs loader) names))
      by_first None h rest = rest
      by_first (Some c) h rest = (h c refl, rest)

  parents_below : (file : ClassFile) → AllByRecursion (λ p. p < length cs.rows) (parents (class_made cs loader file))
  parents_below file = one_below (option_and_then (lookup cs loader) file.superclass) (by_name file.superclass) (filter_map (lookup cs loader) file.interfaces)
      (all_below file.interfaces)

-- ---- one class more, one record more

pub none_after : {A : Type 0} (xs : List A) (x y : A) (n : ℕ) → slice_get (xs ++ x ∷ []) n ≡ Some y → n ≤ length xs
none_after [] x y zero e = omega arith
none_after [] x y (suc n) e = cc
none_after (z ∷ xs) x y zero e = omega arith
none_after (z ∷ xs) x y (suc n) e = let le = none_after xs x y n e in omega arith

wider : (n : ℕ) (records : List (List ℕ × ℕ)) → AreBelow n records → AreBelow (n + 1) records
wider n [] h = tt
wider n (r ∷ records) h = (let lt = h.0 in omega arith, wider n records h.1)

all_wider : (n : ℕ) (loaders : List (List (List ℕ × ℕ))) → AllByRecursion (AreBelow n) loaders → AllByRecursion (AreBelow (n + 1)) loaders
all_wider n [] h = tt
all_wider n (records ∷ loaders) h = (wider n records h.0, all_wider n loaders h.1)

one_more : (n : ℕ) (records : List (List ℕ × ℕ)) (name : List ℕ) (c : ℕ) → AreBelow n records → c < n → AreBelow n (records ++ (name, c) ∷ [])
one_more n [] name c h lt = (lt, tt)
one_more n (r ∷ records) name c h lt = (h.0, one_more n records name c h.1 lt)

pub recorded_below : (n : ℕ) (loaders : List (List (List ℕ × ℕ))) (loader : ℕ) (name : List ℕ) (c : ℕ) → AllByRecursion (AreBelow n) loaders → c < n
    → AllByRecursion (AreBelow n) (with_record loaders loader name c)
recorded_below n loaders loader name c h lt = by_loader (slice_get loaders loader) refl
  where
    by_loader : (o : Option (List (List ℕ × ℕ))) → slice_get loaders loader ≡ o
        → AllByRecursion (AreBelow n) (option_map_or (λ records. slice_set loaders loader (records ++ (name, c) ∷ [])) o loaders)
    by_loader None is = h
    by_loader (Some records) is =
        all_set (AreBelow n) loaders loader (records ++ (name, c) ∷ [])
        (one_more n records name c (all_at (AreBelow n) loaders loader records is h) lt) h

module _ (cs : Classes) (good : IsGood cs) (loader : ℕ) (file : ClassFile) where
  in_order : (c : ℕ) (row : Class) → slice_get (cs.rows ++ class_made cs loader file ∷ []) c ≡ Some row → (c ≡ length cs.rows) ⊎ (c < length cs.rows)
      → AllByRecursion (λ p. p < c) (parents row)
  in_order c row e (inr lt) = recursion_from_All (λ p. p < c) (parents row) (good.ordered c row (sym (before_end cs.rows (class_made cs loader file) c lt) ∙ e))
  in_order c row e (inl same) =
      let made : class_made cs loader file ≡ row =
      same_Some (class_made cs loader file) row
      (sym (at_end cs.rows (class_made cs loader file)) ∙ ap (slice_get (cs.rows ++ class_made cs loader file ∷ [])) (sym same) ∙ e)
      in
      subst (λ k. AllByRecursion (λ p. p < k) (parents row)) (sym same)
      (subst (λ r. AllByRecursion (λ p. p < length cs.rows) (parents r)) made (parents_below cs good loader file))

  pub defined_good : IsGood (defined cs loader file)
  defined_good = record {
    there = subst (λ n. AllByRecursion (AreBelow n) (with_record cs.loaders loader file.name (length cs.rows)))
        (sym (length-append cs.rows (class_made cs loader file ∷ [])))
        (recorded_below (length cs.rows + 1) cs.loaders loader file.name (length cs.rows) (all_wider (length cs.rows) cs.loaders good.there) (omega arith));
    ordered = λ c row e. All-from_recursion (λ p. p < c) (parents row)
        (in_order c row e (eq-or-lt_of_le (none_after cs.rows (class_made cs loader file) row c e)));
  }

delegated_good : (cs : Classes) (good : IsGood cs) (loader : ℕ) (name : List ℕ) (to : ℕ) → IsGood (delegated cs loader name to)
delegated_good cs good loader name to = record { there = by_class (lookup cs to name) refl; ordered = good.ordered }
  where
    by_class : (o : Option ℕ) → lookup cs to name ≡ o → AllByRecursion (AreBelow (length cs.rows))
        (option_map_or (with_record cs.loaders loader name) o cs.loaders)
    by_class None e = good.there
    by_class (Some c) e = recorded_below (length cs.rows) cs.loaders loader name c good.there (looked_up cs good to name c e)

pub with_loader : (n : ℕ) (loaders : List (List (List ℕ × ℕ))) → AllByRecursion (AreBelow n) loaders → AllByRecursion (AreBelow n) (loaders ++ [] ∷ [])
with_loader n [] h = (tt, tt)
with_loader n (records ∷ loaders) h = (h.0, with_loader n loaders h.1)

pub retired_good : (cs : Classes) (loaders : List ℕ) → IsGood cs → IsGood (retired cs loaders)
retired_good cs loaders good = record { there = emptied_below loaders cs.loaders good.there; ordered = good.ordered }
  where
    emptied_below : (ls : List ℕ) (found : List (List (List ℕ × ℕ))) → AllByRecursion (AreBelow (length cs.rows)) found
        → AllByRecursion (AreBelow (length cs.rows)) (emptied found ls)
    emptied_below [] found h = h
    emptied_below (l ∷ ls) found h = emptied_below ls (slice_set found l []) (all_set (AreBelow (length cs.rows)) found l [] tt h)

step_good : (w : World) (e : Event) → IsGood w.classes → IsGood ((step w e).classes)
step_good w event.NewLoader good = record { there = with_loader (length w.classes.rows) w.classes.loaders good.there; ordered = good.ordered }
step_good w (event.Define loader file) good = defined_good w.classes good loader file
step_good w (event.Delegate loader name to) good = delegated_good w.classes good loader name to
step_good w (event.Request place) good = good
step_good w (event.NewCallSite kind ty t) good = good
step_good w (event.SetTarget c t) good = good
step_good w event.NewSwitch good = good
step_good w (event.Invalidate points) good = good
step_good w (event.Bind s c) good = good
step_good w (event.Install rows) good = good
step_good w (event.Retire loader) good = retired_good w.classes (loader ∷ []) good
step_good w (event.RetireAll loaders) good = retired_good w.classes loaders good
step_good w (event.Release call_sites points) good = good

fold_good : (h : List Event) (w : World) → IsGood w.classes → IsGood ((fold step w h).classes)
fold_good [] w good = good
fold_good (e ∷ h) w good = fold_good h (step w e) (step_good w e good)

no_row : (c : ℕ) (row : Class) → slice_get [] c ≡ Some row → (k : ℕ) (d : ℕ) → k < length (parents row) → slice_index_or (parents row) k d < c
no_row c row e = cc

pub world_good : (h : List Event) → IsGood ((world_after h).classes)
world_good h = fold_good h nothing_yet (record { there = (tt, tt); ordered = no_row })
