-- What other records of loaders leave as it was.
use Rattle.std.specs.Prelude.{◌≡◌, ℕ, zero, suc, ◌+◌, not, ◌&&◌, ◌||◌, ◌==◌, List, [], ◌∷◌, ◌++◌, filter, filter_map, slice_get}
use Rattle.std.specs.Prelude.{Option, Some, None, option_and_then, option_to_list, Result, Err, if◌then◌else◌}
use Rattle.std.specs.Bool.{beq}
use Rattle.std.specs.List.{list_any}
use Rattle.std.proofs.Common.{refl, ap, ◌∙◌}
use Rattle.jl_pool.specs.declared.reference.Reference.{Reference}
use Rattle.jl_class.specs.Class.{Method}
use Rattle.jl_class.specs.Flags.{object}
use Rattle.jl_types.specs.declared.ids.MethodId.{MethodId}
use Rattle.jl_types.specs.declared.answer.Chosen.{Chosen}
use Rattle.jl_types.specs.declared.answer.Chosen.TheVariants.{Method as Picked, Several, Nothing}
use Rattle.jl_types.specs.declared.answer.Outcome.{Outcome}
use Rattle.jl_types.specs.declared.answer.Outcome.TheVariants.{Throws}
use Rattle.jl_types.specs.declared.answer.ResolveAnswer.{ResolveAnswer}
use Rattle.jl_types.specs.declared.answer.ResolveAnswer.TheVariants.{Fault}
use Rattle.jl_types.specs.declared.answer.Throwable.TheVariants.{IllegalAccessError, IncompatibleClassChangeError}
use Rattle.jl_types.specs.Values.World.{Class, Classes}
use Rattle.jl_types.specs.Values.Members.{recorded, lookup, is_interface, is_public, is_private, is_static, is_package_private, method_at, declared}
use Rattle.jl_types.specs.Values.Ancestry.{superclasses, is_ancestor}
use Rattle.jl_types.specs.Linkage.Access.{Access, Allowed, Denied, is_accessible_class, host_if_recorded, host_by, nest_host, same_nest, by_subclass}
use Rattle.jl_types.specs.Linkage.Access.{by_package, by_nest}
use Rattle.jl_types.specs.Linkage.Resolution.{first_of, first_element, pick, only, candidates, defaults, declared_in_object, found_in_class, found}
use Rattle.jl_types.specs.Linkage.Resolution.{by_access, if_accessible, resolved_in, named_class, naming, resolved_at, resolved}
use Rattle.jl_types.specs.Linkage.Overriding.{are_alike, is_visible, classes_between, methods_in, can_override_within}
use Rattle.jl_types.specs.Linkage.Selection.{found_or, chosen_of, chosen, ending, virtual_outcome, interface_ending, interface_outcome}
use Rattle.jl_types.specs.Linkage.Selection.{instance_methods, special_start, special_in_class, special_found, special_choice, special_outcome}
use Rattle.jl_select.specs.Constancy.{IsConstant}

module _ (old : Classes) (loaders : List (List (List ℕ × ℕ))) where
  abbrev new : Classes
  new = record old { loaders = loaders }

  -- ---- selection looks at no record of a loader

  within_same : (n : ℕ) (c a : MethodId) → can_override_within n new c a ≡ can_override_within n old c a
  within_same zero c a = refl
  within_same (suc n) c a =
      λ i. are_alike old c a && (is_visible old c a || (is_package_private old a
      && list_any (λ k. list_any (λ b. within_same n c b i && within_same n b a i) (methods_in old k)) (classes_between old c.class a.class)))

  chosen_of_same : (x : ℕ) (r : MethodId) (o : Option Method) → chosen_of new x r o ≡ chosen_of old x r o
  chosen_of_same x r None = refl
  chosen_of_same x r (Some method) =
      λ i. found_or (first_element (filter (λ m. within_same (m.class + 1) m r i) (filter_map (declared old method.name method.ty) (superclasses old x))))
      (defaults old method.name method.ty x)

  pub chosen_same : (x : ℕ) (r : MethodId) → chosen new x r ≡ chosen old x r
  chosen_same x r = λ i. if is_private old r then Picked r else chosen_of_same x r (method_at old r) i

  ending_same : (choice : Chosen) → ending new choice ≡ ending old choice
  ending_same (Picked m) = refl
  ending_same Several = refl
  ending_same Nothing = refl

  interface_ending_same : (choice : Chosen) → interface_ending new choice ≡ interface_ending old choice
  interface_ending_same (Picked m) = refl
  interface_ending_same Several = refl
  interface_ending_same Nothing = refl

  pub virtual_same : (x : ℕ) (r : MethodId) → virtual_outcome new x r ≡ virtual_outcome old x r
  virtual_same x r = ap (ending new) (chosen_same x r) ∙ ending_same (chosen old x r)

  pub interface_same : (x named : ℕ) (r : MethodId) → interface_outcome new x named r ≡ interface_outcome old x named r
  interface_same x named r =
      ap (λ (o : Outcome). if is_ancestor old named x then o else Throws IncompatibleClassChangeError)
      (ap (interface_ending new) (chosen_same x r) ∙ interface_ending_same (chosen old x r))

  -- ---- where each loader finds what it found, and no more

  module _ (same : (loader : ℕ) (name : List ℕ) → lookup new loader name ≡ lookup old loader name) where
    object_same : (name ty : List ℕ) → declared_in_object new name ty ≡ declared_in_object old name ty
    object_same name ty =
        λ i. first_element (filter (λ m. is_public old m && not (is_static old m)) (option_to_list (option_and_then (declared old name ty) (same 0 object i))))

    found_same : (ref : Reference (List ℕ)) (c : ℕ) → found new ref c ≡ found old ref c
    found_same ref c =
        λ i. if ref.itf then first_of (
        declared old ref.name ref.ty c
        ∷ object_same ref.name ref.ty i
        ∷ only (pick (defaults old ref.name ref.ty c))
        ∷ first_element (candidates old ref.name ref.ty c)
        ∷ []) else found_in_class old ref.name ref.ty c

    recorded_same : (m : ℕ) (row : Class) (o : Option ℕ) → host_if_recorded new m row o ≡ host_if_recorded old m row o
    recorded_same m row None = refl
    recorded_same m row (Some h) = refl

    by_name_same : (m : ℕ) (row : Class) (name : Option (List ℕ)) → host_by new m row name ≡ host_by old m row name
    by_name_same m row None = refl
    by_name_same m row (Some name) = ap (host_if_recorded new m row) (same row.loader name) ∙ recorded_same m row (lookup old row.loader name)

    host_same : (m : ℕ) → nest_host new m ≡ nest_host old m
    host_same m = λ i. option_and_then (λ row. by_name_same m row row.file.nest_host i) (slice_get old.rows m)

    by_nest_same : (d : ℕ) (m : MethodId) → by_nest new d m ≡ by_nest old d m
    by_nest_same d m =
        λ i. if not (is_private old m) then Denied else (if m.class == d then Allowed else same_nest (host_same d i) (host_same m.class i))

    if_accessible_same : (d named : ℕ) (o : Option MethodId) → if_accessible new d named o ≡ if_accessible old d named o
    if_accessible_same d named None = refl
    if_accessible_same d named (Some m) =
        ap (λ (a : Access). by_access m (if is_public old m || (by_subclass old d named m || by_package old d m) then Allowed else a)) (by_nest_same d m)

    resolved_in_same : (d : ℕ) (ref : Reference (List ℕ)) (named : ℕ) → resolved_in new d ref named ≡ resolved_in old d ref named
    resolved_in_same d ref named =
        ap (λ (r : Result MethodId ResolveAnswer). if not (is_accessible_class old d named) then Err (Fault IllegalAccessError) else (
        if not (beq ref.itf (is_interface old named)) then Err (Fault IncompatibleClassChangeError) else r))
        (ap (if_accessible new d named) (found_same ref named) ∙ if_accessible_same d named (found old ref named))

    resolved_at_same : (d : ℕ) (ref : Reference (List ℕ)) (o : Option ℕ) → resolved_at new d ref o ≡ resolved_at old d ref o
    resolved_at_same d ref None = refl
    resolved_at_same d ref (Some named) = ap (naming named) (resolved_in_same d ref named)

    resolved_same : (d : ℕ) (ref : Reference (List ℕ)) → resolved new d ref ≡ resolved old d ref
    resolved_same d ref =
        (λ i. resolved_at new d ref (option_and_then (λ row. same row.loader ref.owner i) (slice_get old.rows d)))
        ∙ resolved_at_same d ref (named_class old d ref)

    special_found_same : (name ty : List ℕ) (c : ℕ) → special_found new name ty c ≡ special_found old name ty c
    special_found_same name ty c =
        λ i. if is_interface old c then first_of (
        first_element (instance_methods old (option_to_list (declared old name ty c)))
        ∷ object_same name ty i
        ∷ []) else special_in_class old name ty c

    special_choice_same : (ref : Reference (List ℕ)) (o : Option ℕ) → special_choice new ref o ≡ special_choice old ref o
    special_choice_same ref None = refl
    special_choice_same ref (Some c) = λ i. found_or (special_found_same ref.name ref.ty c i) (defaults old ref.name ref.ty c)

    special_same : (d named : ℕ) (ref : Reference (List ℕ)) → special_outcome new d named ref ≡ special_outcome old d named ref
    special_same d named ref =
        let start = special_start old d named ref in
        ap (ending new) (special_choice_same ref start) ∙ ending_same (special_choice old ref start)

    constant_by_lookups : IsConstant old new
    constant_by_lookups = record {
      resolved = record { resolved = λ d ref present settled. resolved_same d ref };
      chosen = record { chosen = λ x r there at. chosen_same x r };
      outcomes = record {
        virtual = λ x r there at. virtual_same x r;
        interface = λ x named r there at. interface_same x named r;
        special = λ d named ref caller there. special_same d named ref;
      };
    }

-- a new loader has recorded nothing
nothing_more : (loaders : List (List (List ℕ × ℕ))) (loader : ℕ) (name : List ℕ)
    → option_and_then (recorded name) (slice_get (loaders ++ [] ∷ []) loader) ≡ option_and_then (recorded name) (slice_get loaders loader)
nothing_more [] zero name = refl
nothing_more [] (suc loader) name = refl
nothing_more (records ∷ loaders) zero name = refl
nothing_more (records ∷ loaders) (suc loader) name = nothing_more loaders loader name

pub loader_constant : (cs : Classes) → IsConstant cs (record cs { loaders = cs.loaders ++ [] ∷ [] })
loader_constant cs = constant_by_lookups cs (cs.loaders ++ [] ∷ []) (λ loader name. nothing_more cs.loaders loader name)
