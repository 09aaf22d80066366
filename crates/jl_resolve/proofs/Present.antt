-- What a reference finds in a present class is a method of a present class.
use Rattle.std.specs.Prelude.{◌≡◌, ℕ, zero, suc, ◌+◌, ◌==◌, ◌||◌, ◌&&◌, not, Bool, true, false, cond, List, [], ◌∷◌, ◌++◌, filter, filter_map}
use Rattle.std.specs.Prelude.{position, slice_get}
use Rattle.std.specs.Prelude.{Option, Some, None, option_map, option_and_then, option_to_list, IfSome, if◌then◌else◌}
use Rattle.std.specs.Option.{option_map_or}
use Rattle.std.specs.List.{AllByRecursion, list_any, range_with_len}
use Rattle.std.proofs.Common.{refl, ap, ◌∙◌, arith}
use Rattle.std.proofs.lemmas.Cmp.{nat_eq_equiv}
use Rattle.std.proofs.lemmas.Option.{slice_get_within}
use Rattle.jl_pool.specs.declared.reference.Reference.{Reference}
use Rattle.jl_class.specs.Flags.{object}
use Rattle.jl_types.specs.declared.ids.MethodId.{MethodId}
use Rattle.jl_types.specs.Values.World.{Class, Classes}
use Rattle.jl_types.specs.Values.Members.{is_present, is_called, is_public, is_static, is_abstract, methods_of, lookup, declared}
use Rattle.jl_types.specs.Values.Ancestry.{AreOrdered, itself, over, is_parent, is_ancestor_within, superclasses_within, superclasses, ancestors}
use Rattle.jl_types.specs.Values.Ancestry.{superinterfaces}
use Rattle.jl_types.specs.Linkage.Resolution.{first_element, pick, only, candidates, max_specific, defaults, declared_upward, declared_in_object}
use Rattle.jl_types.specs.Linkage.Resolution.{found_in_class, found_in_interface, found}
use Rattle.jl_types.proofs.Ancestors.{ancestor_decides, superclass_below}
use Rattle.jl_types.proofs.Lists.{element_at}
use Rattle.jl_hierarchy.specs.Constancy.{IsClosed}
use Rattle.jl_hierarchy.specs.ForProofs.Defaults.{is_inherited, is_other_interface, is_redeclared}
use Rattle.jl_resolve.proofs.Unchanged.{all_filter, all_found, all_option, first_there, first_of_there}

all_pass : (P : ℕ → Type 0) (p : ℕ → Bool) → ((x : ℕ) → p x ≡ true → P x) → (xs : List ℕ) → AllByRecursion P (filter p xs)
all_pass P p h [] = tt
all_pass P p h (x ∷ xs) = by_test (p x) refl (all_pass P p h xs)
  where
    by_test : (b : Bool) → p x ≡ b → AllByRecursion P (filter p xs) → AllByRecursion P (cond b (x ∷ filter p xs) (filter p xs))
    by_test true is rest = (h x is, rest)
    by_test false is rest = rest

-- the class of the number, and of the method, is present
abbrev pub IsPresent : Classes → ℕ → Type 0
IsPresent cs c = is_present cs c ≡ true

abbrev pub IsOfPresent : Classes → MethodId → Type 0
IsOfPresent cs m = is_present cs m.class ≡ true

only_present : (cs : Classes) (ms : List MethodId) → AllByRecursion (IsOfPresent cs) ms → IfSome (only (pick ms)) (IsOfPresent cs)
only_present cs [] all = tt
only_present cs (m ∷ []) all = all.0
only_present cs (m ∷ n ∷ ms) all = tt

module _ (cs : Classes) (ordered : AreOrdered cs.rows) (closed : IsClosed cs) where
  superclass_present : (c : ℕ) (row : Class) → slice_get cs.rows c ≡ Some row → IsPresent cs c → (s : ℕ) → row.superclass ≡ Some s → IsPresent cs s
  superclass_present c row at present s is =
      let below = superclass_below cs.rows ordered c row at s is in
      let within = slice_get_within cs.rows c row at in
      let there = element_at cs.rows s (omega (arith, below, within)) in
      let parent : is_parent row s ≡ true =
      ap (λ (o : Option ℕ). list_any (λ q. s == q) (option_to_list o ++ row.interfaces)) is
      ∙ ap (λ (b : Bool). b || list_any (λ q. s == q) row.interfaces) (nat_eq_equiv.refl s)
      in
      closed.ancestors s c ((ancestor_decides cs ordered s c).1 (over at parent (itself there.1))) present

  chain_present : (k c : ℕ) → IsPresent cs c → AllByRecursion (IsPresent cs) (superclasses_within k cs.rows c)
  chain_present zero c present = tt
  chain_present (suc k) c present = by_row (slice_get cs.rows c) refl (chain_present k)
    where
      by_superclass : (row : Class) → slice_get cs.rows c ≡ Some row → ((s : ℕ) → IsPresent cs s
          → AllByRecursion (IsPresent cs) (superclasses_within k cs.rows s))
          → (o : Option ℕ) → row.superclass ≡ o → AllByRecursion (IsPresent cs) (option_map_or (superclasses_within k cs.rows) o [])
      by_superclass row at ih None is = tt
      by_superclass row at ih (Some s) is = ih s (superclass_present c row at present s is)

      by_row : (r : Option Class) → slice_get cs.rows c ≡ r → ((s : ℕ) → IsPresent cs s → AllByRecursion (IsPresent cs) (superclasses_within k cs.rows s))
          → AllByRecursion (IsPresent cs) (option_map_or (λ row. c ∷ option_map_or (superclasses_within k cs.rows) row.superclass []) r [])
      by_row None at ih = tt
      by_row (Some row) at ih = (present, by_superclass row at ih row.superclass refl)

  superinterfaces_present : (c : ℕ) → IsPresent cs c → AllByRecursion (IsPresent cs) (superinterfaces cs c)
  superinterfaces_present c present =
      all_filter (IsPresent cs) (is_other_interface cs c) (ancestors cs.rows c)
      (all_pass (IsPresent cs) (λ a. is_ancestor_within (c + 1) cs.rows a c) (λ a up. closed.ancestors a c up present) (range_with_len 0 (c + 1)))

  declared_present : (name ty : List ℕ) (c : ℕ) → IsPresent cs c → IfSome (declared cs name ty c) (IsOfPresent cs)
  declared_present name ty c present = by_place (position (is_called name ty) (methods_of cs c))
    where
      by_place : (o : Option ℕ) → IfSome {T = MethodId} (option_map (λ k. record { class = c; index = k }) o) (IsOfPresent cs)
      by_place None = tt
      by_place (Some k) = present

  module _ (name ty : List ℕ) where
    object_present : IfSome (declared_in_object cs name ty) (IsOfPresent cs)
    object_present =
        first_there (IsOfPresent cs) (filter (λ m. is_public cs m && not (is_static cs m))
        (option_to_list (option_and_then (declared cs name ty) (lookup cs 0 object))))
        (all_filter (IsOfPresent cs) (λ m. is_public cs m && not (is_static cs m)) (option_to_list (option_and_then (declared cs name ty) (lookup cs 0 object)))
        (all_option (IsOfPresent cs) (option_and_then (declared cs name ty) (lookup cs 0 object)) (by_record (lookup cs 0 object) refl)))
      where
        by_record : (o : Option ℕ) → lookup cs 0 object ≡ o → IfSome (option_and_then (declared cs name ty) o) (IsOfPresent cs)
        by_record None is = tt
        by_record (Some c) is = declared_present name ty c (closed.records 0 object c closed.first is)

    module _ (c : ℕ) (present : IsPresent cs c) where
      candidates_present : AllByRecursion (IsOfPresent cs) (candidates cs name ty c)
      candidates_present =
          all_filter (IsOfPresent cs) (is_inherited cs) (filter_map (declared cs name ty) (superinterfaces cs c))
          (all_found (IsPresent cs) (IsOfPresent cs) (declared cs name ty) (λ k above. declared_present name ty k above) (superinterfaces cs c)
          (superinterfaces_present c present))

      defaults_present : AllByRecursion (IsOfPresent cs) (defaults cs name ty c)
      defaults_present =
          all_filter (IsOfPresent cs) (λ m. not (is_abstract cs m)) (max_specific cs name ty c)
          (all_filter (IsOfPresent cs) (λ m. not (is_redeclared cs name ty c m.class)) (candidates cs name ty c) candidates_present)

      upward_present : AllByRecursion (IsOfPresent cs) (filter_map (declared cs name ty) (superclasses cs c))
      upward_present =
          all_found (IsPresent cs) (IsOfPresent cs) (declared cs name ty) (λ k above. declared_present name ty k above) (superclasses cs c)
          (chain_present (c + 1) c present)

      in_class_present : IfSome (found_in_class cs name ty c) (IsOfPresent cs)
      in_class_present =
          first_of_there (IsOfPresent cs) (declared_upward cs name ty c ∷ only (pick (defaults cs name ty c)) ∷ first_element (candidates cs name ty c) ∷ []) (
            first_there (IsOfPresent cs) (filter_map (declared cs name ty) (superclasses cs c)) upward_present,
            (
              only_present cs (defaults cs name ty c) defaults_present,
              (first_there (IsOfPresent cs) (candidates cs name ty c) candidates_present, tt),
            ),
          )

      in_interface_present : IfSome (found_in_interface cs name ty c) (IsOfPresent cs)
      in_interface_present =
          first_of_there (IsOfPresent cs)
          (declared cs name ty c ∷ declared_in_object cs name ty ∷ only (pick (defaults cs name ty c)) ∷ first_element (candidates cs name ty c) ∷ []) (
            declared_present name ty c present,
            (
              object_present,
              (
                only_present cs (defaults cs name ty c) defaults_present,
                (first_there (IsOfPresent cs) (candidates cs name ty c) candidates_present, tt),
              ),
            ),
          )

  pub found_present : (ref : Reference (List ℕ)) (c : ℕ) → IsPresent cs c → IfSome (found cs ref c) (IsOfPresent cs)
  found_present ref c present = by_kind ref.itf
    where
      by_kind : (itf : Bool) → IfSome (if itf then found_in_interface cs ref.name ref.ty c else found_in_class cs ref.name ref.ty c) (IsOfPresent cs)
      by_kind true = in_interface_present ref.name ref.ty c present
      by_kind false = in_class_present ref.name ref.ty c present
