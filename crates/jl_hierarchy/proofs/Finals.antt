-- No class extends a FINAL one, if each class came by its definition.
use Rattle.std.proofs.Common.{◌≡◌, ◌∙◌, sym, ap, subst, refl, arith, inl, inr, eq-or-lt_of_le, ◌⊎◌, ℕ, ◌<◌, ◌==◌, ◌&&◌, ◌||◌, cond, List, []}
use Rattle.std.proofs.Common.{◌∷◌, ◌++◌, length}
use Rattle.std.specs.Prelude.{Bool, true, false, not, is_some, is_none, find, filter_map, slice_get, Option, Some, None}
use Rattle.std.specs.Prelude.{option_map, option_and_then, option_to_list}
use Rattle.std.specs.List.{AllByRecursion, list_any, cons_option}
use Rattle.std.specs.Bool.{then_some}
use Rattle.std.specs.Option.{option_map_or}
use Rattle.std.proofs.lemmas.Bool.{or_cases}
use Rattle.std.proofs.lemmas.Bool.Decides.{Decides-eqb}
use Rattle.std.proofs.lemmas.List.Elements.{recursion_from_All}
use Rattle.std.proofs.lemmas.List.Folds.{list_any-append}
use Rattle.std.proofs.lemmas.Option.{same_Some}
use Rattle.std.specs.Str.{bytes_eq}
use Rattle.jl_class.specs.Class.{ClassFile}
use Rattle.jl_class.specs.Flags.{has_flag, object, INTERFACE}
use Rattle.jl_types.specs.declared.refusal.DefineFault.{DefineFault}
use Rattle.jl_types.specs.declared.refusal.DefineFault.TheVariants as define
use Rattle.jl_types.specs.Values.World.{Class, Classes}
use Rattle.jl_types.specs.Values.Members.{lookup, is_interface}
use Rattle.jl_types.specs.Values.Ancestry.{parents, is_parent}
use Rattle.jl_types.specs.Linkage.Resolution.{first_of}
use Rattle.jl_types.specs.Events.Definitions.{FINAL, is_final, named_test, parent_names, is_unknown, class_made, defined}
use Rattle.jl_types.proofs.Firsts.{first_none, test_none}
use Rattle.jl_types.proofs.Lists.{before_end, at_end}
use Rattle.jl_types.proofs.Orders.{IsGood, defined_good, none_after}
use Rattle.jl_hierarchy.specs.Constancy.{may_be_extended, ExtendNoFinal, MayDefine}

-- ---- the faults that a definition doesn't have

none_past : {A : Type 0} (xs ys : List (Option A)) → first_of (xs ++ ys) ≡ None → first_of ys ≡ None
none_past [] ys h = h
none_past (None ∷ xs) ys h = none_past xs ys h
none_past (Some x ∷ xs) ys h = cc

unmapped : {A B : Type 0} (f : A → B) (o : Option A) → option_map f o ≡ None → o ≡ None
unmapped f None h = refl
unmapped f (Some x) h = cc

or_false : (b : Bool) → (b || false) ≡ true → b ≡ true
or_false true h = refl
or_false false h = cc

not_either : (b : Bool) → ((b || false) || false) ≡ false → b ≡ false
not_either true h = cc
not_either false h = refl

module _ (cs : Classes) (loader : ℕ) where
  -- a superclass isn't FINAL
  superclass_open : (p : ℕ) (o : Option (List ℕ)) → list_any (named_test (is_final cs) cs loader) (option_to_list o) ≡ false
      → list_any (λ q. p == q) (option_to_list (option_and_then (lookup cs loader) o)) ≡ true → is_final cs p ≡ false
  superclass_open p None h m = cc
  superclass_open p (Some name) h m = by_found (lookup cs loader name) h m
    where
      by_found : (r : Option ℕ) → (list_any (is_final cs) (option_to_list r) || false) ≡ false → list_any (λ q. p == q) (option_to_list r) ≡ true
          → is_final cs p ≡ false
      by_found None h m = cc
      by_found (Some c) h m = ap (is_final cs) ((Decides-eqb p c).0 (or_false (p == c) m)) ∙ not_either (is_final cs c) h

  -- a superinterface is an interface
  interface_open : (p : ℕ) (names : List (List ℕ)) → find (λ name. not (named_test (is_interface cs) cs loader name)) names ≡ None
      → list_any (λ q. p == q) (filter_map (lookup cs loader) names) ≡ true → is_interface cs p ≡ true
  interface_open p [] h m = cc
  interface_open p (name ∷ names) h m = by_found (interface_open p names) (lookup cs loader name) h m
    where
      by_test : (b : Bool) → cond (not (b || false)) (Some name) (find (λ name. not (named_test (is_interface cs) cs loader name)) names) ≡ None
          → (b ≡ true) × (find (λ name. not (named_test (is_interface cs) cs loader name)) names ≡ None)
      by_test true h = (refl, h)
      by_test false h = cc

      by_found : (find (λ name. not (named_test (is_interface cs) cs loader name)) names ≡ None
          → list_any (λ q. p == q) (filter_map (lookup cs loader) names) ≡ true → is_interface cs p ≡ true)
          → (r : Option ℕ)
          → cond (not (list_any (is_interface cs) (option_to_list r))) (Some name)
          (find (λ name. not (named_test (is_interface cs) cs loader name)) names) ≡ None
          → list_any (λ q. p == q) (cons_option r (filter_map (lookup cs loader) names)) ≡ true → is_interface cs p ≡ true
      by_found rest None h m = cc
      by_found rest (Some c) h m =
          let both = by_test (is_interface cs c) h in
          elim (or_cases (p == c) (list_any (λ q. p == q) (filter_map (lookup cs loader) names)) m) [
            | inl same ↦ ap (is_interface cs) ((Decides-eqb p c).0 same) ∙ both.0
            | inr more ↦ rest both.1 more
          ]

parent_below : (n p : ℕ) (ps : List ℕ) → AllByRecursion (λ q. q < n) ps → list_any (λ q. p == q) ps ≡ true → p < n
parent_below n p [] o h = cc
parent_below n p (q ∷ ps) o h = elim (or_cases (p == q) (list_any (λ q. p == q) ps) h) [
  | inl is ↦ subst (λ k. k < n) (sym ((Decides-eqb p q).0 is)) o.0
  | inr more ↦ parent_below n p ps o.1 more
]

-- ---- one class more

module _ (cs : Classes) (good : IsGood cs) (free : ExtendNoFinal cs) (loader : ℕ) (file : ClassFile)
    (accepted : MayDefine cs loader file) where
  abbrev new : Classes
  new = defined cs loader file

  abbrev made : Class
  made = class_made cs loader file

  abbrev n : ℕ
  n = length cs.rows

  abbrev faults_before : List (Option DefineFault)
  faults_before =
      then_some (is_unknown cs loader) define.UnknownLoader
      ∷ then_some (bytes_eq file.name object && not (loader == 0)) define.SecondObject
      ∷ then_some (is_some (lookup cs loader file.name)) define.AlreadyRecorded
      ∷ then_some (list_any (bytes_eq file.name) (parent_names file)) define.NamesItself
      ∷ option_map define.MissingParent (find (λ name. is_none (lookup cs loader name)) (parent_names file))
      ∷ then_some (list_any (named_test (is_interface cs) cs loader) (option_to_list file.superclass)) define.SuperIsInterface
      ∷ []

  no_fault : (then_some (list_any (named_test (is_final cs) cs loader) (option_to_list file.superclass)) define.FinalSuper ≡ None)
      × (option_map define.NotAnInterface (find (λ name. not (named_test (is_interface cs) cs loader name)) file.interfaces) ≡ None)
  no_fault =
      let final = first_none _ _ (none_past faults_before _ accepted.accepted) in
      (final.0, (first_none _ _ final.1).0)

  not_final : list_any (named_test (is_final cs) cs loader) (option_to_list file.superclass) ≡ false
  not_final = test_none (list_any (named_test (is_final cs) cs loader) (option_to_list file.superclass)) define.FinalSuper no_fault.0

  are_interfaces : find (λ name. not (named_test (is_interface cs) cs loader name)) file.interfaces ≡ None
  are_interfaces =
      unmapped define.NotAnInterface (find (λ name. not (named_test (is_interface cs) cs loader name)) file.interfaces) no_fault.1

  made_open : (p : ℕ) → is_parent made p ≡ true → may_be_extended cs p ≡ true
  made_open p is =
      elim (or_cases (list_any (λ q. p == q) (option_to_list made.superclass)) (list_any (λ q. p == q) made.interfaces)
      (sym (list_any-append (λ q. p == q) (option_to_list made.superclass) made.interfaces) ∙ is)) [
        | inl above ↦ ap (λ (b : Bool). not b || is_interface cs p) (superclass_open cs loader p file.superclass not_final above)
        | inr above ↦ by_interface (not (is_final cs p)) (interface_open cs loader p file.interfaces are_interfaces above)
      ]
    where
      by_interface : (b : Bool) → is_interface cs p ≡ true → (b || is_interface cs p) ≡ true
      by_interface true h = refl
      by_interface false h = h

  pub same_extended : (p : ℕ) → p < n → may_be_extended new p ≡ may_be_extended cs p
  same_extended p lt =
      ap (λ (r : Option Class). not (option_map_or (λ row. has_flag row.file.flags FINAL) r false)
      || option_map_or (λ row. has_flag row.file.flags INTERFACE) r false) (before_end cs.rows made p lt)

  pub still_extended : ExtendNoFinal new
  still_extended c p row at is =
      let below =
      parent_below c p (parents row) (recursion_from_All (λ q. q < c) (parents row) ((defined_good cs good loader file).ordered c row at)) is in
      let le = none_after cs.rows made row c at in
      same_extended p (omega arith) ∙ by_place (eq-or-lt_of_le le)
    where
      by_place : (c ≡ n) ⊎ (c < n) → may_be_extended cs p ≡ true
      by_place (inr lt) = free c p row (sym (before_end cs.rows made c lt) ∙ at) is
      by_place (inl same) =
          let one : made ≡ row =
          same_Some made row (sym (at_end cs.rows made) ∙ ap (slice_get (cs.rows ++ made ∷ [])) (sym same) ∙ at) in
          made_open p (ap (λ (r : Class). is_parent r p) one ∙ is)
