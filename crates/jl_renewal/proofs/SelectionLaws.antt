-- What is selected, and what the instructions make of it, is the same under new numbers.
use Rattle.std.specs.Prelude.{◌≡◌, ℕ, Bool, true, false, not, ◌&&◌, ◌||◌, All, List, [], ◌∷◌, map, filter, filter_map}
use Rattle.std.specs.Prelude.{position, Option, Some, None, option_map, option_to_list, if◌then◌else◌}
use Rattle.std.proofs.Common.{refl, sym, ap, subst, ◌∙◌}
use Rattle.std.proofs.lemmas.List.Elements.{All-nil, All-cons, All-head}
use Rattle.std.proofs.lemmas.Option.{same_Some}
use Rattle.jl_pool.specs.declared.reference.Reference.{Reference}
use Rattle.jl_class.specs.Class.{Method}
use Rattle.jl_types.specs.declared.ids.MethodId.{MethodId}
use Rattle.jl_types.specs.declared.answer.Outcome.{Outcome}
use Rattle.jl_types.specs.declared.answer.Outcome.TheVariants.{Run, Throws}
use Rattle.jl_types.specs.declared.answer.Chosen.{Chosen}
use Rattle.jl_types.specs.declared.answer.Chosen.TheVariants.{Method as Picked, Several, Nothing}
use Rattle.jl_types.specs.declared.answer.Throwable.TheVariants.{IllegalAccessError, IncompatibleClassChangeError, AbstractMethodError}
use Rattle.jl_types.specs.Values.World.{Classes}
use Rattle.jl_types.specs.Values.Members.{is_present, methods_of, method_at, is_called, declared, is_public, is_private, is_static, is_abstract, is_interface}
use Rattle.jl_types.specs.Values.Ancestry.{superclass_of, superclasses, is_proper_subclass, is_ancestor}
use Rattle.jl_types.specs.Linkage.Resolution.{first_of, first_element, only, declared_in_object, defaults}
use Rattle.jl_types.specs.Linkage.Overriding.{can_override}
use Rattle.jl_types.specs.Linkage.Selection.{found_or, overriding, chosen_of, chosen, ending, virtual_outcome, interface_ending, interface_outcome}
use Rattle.jl_types.specs.Linkage.Selection.{is_init, special_start, instance_methods, special_in_class, special_in_interface, special_found}
use Rattle.jl_types.specs.Linkage.Selection.{special_choice, special_outcome}
use Rattle.jl_types.proofs.Firsts.{first_alone}
use Rattle.jl_renewal.specs.Numbers.{Numbers, renumbered}
use Rattle.jl_renewal.specs.Renewed.{renumbered_method, renumbered_outcome}
use Rattle.jl_renewal.proofs.Alike.{AreAlike}
use Rattle.jl_renewal.proofs.AlikeLists.{first_alike_element, first_alike, filter_alike, first_of_all, All-filter}
use Rattle.jl_renewal.proofs.ResolutionLaws.{upward_same, upward_methods_present, defaults_same, defaults_present, in_object_same, in_object_present}
use Rattle.jl_renewal.proofs.AccessLaws.{public_same, private_same, static_same, abstract_same}
use Rattle.jl_renewal.proofs.OverridingLaws.{can_override_same}

-- ---- a choice

-- the choice under new numbers
abbrev renumbered_chosen : Numbers → Chosen → Chosen
renumbered_chosen n (Picked m) = Picked (renumbered_method n m)
renumbered_chosen n Several = Several
renumbered_chosen n Nothing = Nothing

-- what was found, else the only default, under new numbers
found_or_same : (n : Numbers) (o : Option MethodId) (ms : List MethodId)
    → found_or (option_map (renumbered_method n) o) (map (renumbered_method n) ms) ≡ renumbered_chosen n (found_or o ms)
found_or_same n (Some m) ms = refl
found_or_same n None [] = refl
found_or_same n None (m ∷ []) = refl
found_or_same n None (m ∷ k ∷ ms) = refl

-- what is picked was found, or is a default
picked_of : (P : MethodId → Type 0) (o : Option MethodId) (ms : List MethodId) → ((m : MethodId) → o ≡ Some m → P m) → All P ms
    → (m : MethodId) → found_or o ms ≡ Picked m → P m
picked_of P (Some k) ms at all m is = at m (ap only is)
picked_of P None [] at all m is = cc
picked_of P None (k ∷ []) at all m is = subst P (same_Some k m (ap only is)) (All-head P k [] all)
picked_of P None (k ∷ l ∷ ms) at all m is = cc

module _ (n : Numbers) (cs ds : Classes) (alike : AreAlike n cs ds) where
  -- ---- what a choice comes to

  abbrev IsPresent : MethodId → Type 0
  IsPresent m = is_present cs m.class ≡ true

  -- what was picked is present
  abbrev IsOfPresent : Chosen → Type 0
  IsOfPresent o = (m : MethodId) → o ≡ Picked m → IsPresent m

  -- what it comes to
  ending_same : (o : Chosen) → IsOfPresent o → ending ds (renumbered_chosen n o) ≡ renumbered_outcome n (ending cs o)
  ending_same (Picked m) present =
      ap (λ (b : Bool). if b then Throws AbstractMethodError else Run (renumbered_method n m)) (abstract_same n cs ds alike m (present m refl))
      ∙ by_test (is_abstract cs m)
    where
      by_test : (b : Bool) → (if b then Throws AbstractMethodError else Run (renumbered_method n m))
          ≡ renumbered_outcome n (if b then Throws AbstractMethodError else Run m)
      by_test true = refl
      by_test false = refl
  ending_same Several present = refl
  ending_same Nothing present = refl

  runs_present : (o : Chosen) → IsOfPresent o → (m : MethodId) → ending cs o ≡ Run m → IsPresent m
  runs_present (Picked k) present m e = by_test (is_abstract cs k) e
    where
      by_test : (b : Bool) → (if b then Throws AbstractMethodError else Run k) ≡ Run m → IsPresent m
      by_test true e = cc
      by_test false e = subst IsPresent (same_run k m e) (present k refl)
        where
          run_or : Outcome → MethodId
          run_or (Run j) = j
          run_or (Throws throwable) = k

          same_run : (a b : MethodId) → Run a ≡ Run b → a ≡ b
          same_run a b e = ap run_or e
  runs_present Several present m e = cc
  runs_present Nothing present m e = cc

  -- and at invokeinterface
  interface_ending_same : (o : Chosen) → IsOfPresent o → interface_ending ds (renumbered_chosen n o) ≡ renumbered_outcome n (interface_ending cs o)
  interface_ending_same (Picked m) present =
      (λ i. if public_same n cs ds alike m (present m refl) i || private_same n cs ds alike m (present m refl) i
      then ending_same (Picked m) present i else Throws IllegalAccessError)
      ∙ by_test (is_public cs m || is_private cs m)
    where
      by_test : (b : Bool) → (if b then renumbered_outcome n (ending cs (Picked m)) else Throws IllegalAccessError)
          ≡ renumbered_outcome n (if b then ending cs (Picked m) else Throws IllegalAccessError)
      by_test true = refl
      by_test false = refl
  interface_ending_same Several present = refl
  interface_ending_same Nothing present = refl

  interface_runs_present : (o : Chosen) → IsOfPresent o → (m : MethodId) → interface_ending cs o ≡ Run m → IsPresent m
  interface_runs_present (Picked k) present m is = by_test (is_public cs k || is_private cs k) is
    where
      by_test : (b : Bool) → (if b then ending cs (Picked k) else Throws IllegalAccessError) ≡ Run m → IsPresent m
      by_test true e = runs_present (Picked k) present m e
      by_test false e = cc
  interface_runs_present Several present m e = cc
  interface_runs_present Nothing present m e = cc

  -- ---- invokevirtual and invokeinterface

  module _ (x : ℕ) (r : MethodId) (there : is_present cs x ≡ true) (at : is_present cs r.class ≡ true) where
    -- the first method that can override r
    overriding_same : (method : Method)
        → overriding ds (renumbered n.classes x) (renumbered_method n r) method ≡ option_map (renumbered_method n) (overriding cs x r method)
    overriding_same method =
        let ms = filter_map (declared cs method.name method.ty) (superclasses cs x) in
        ap (λ (ks : List MethodId). first_element (filter (λ m. can_override ds m (renumbered_method n r)) ks))
        ((upward_same n cs ds alike) method.name method.ty x there)
        ∙ ap first_element
        (filter_alike (renumbered_method n) IsPresent (λ m. can_override ds m (renumbered_method n r)) (λ m. can_override cs m r)
        (λ m present. can_override_same n cs ds alike m r present at) ms ((upward_methods_present n cs ds alike) method.name method.ty x there))
        ∙ first_alike_element (renumbered_method n) (filter (λ m. can_override cs m r) ms)

    overriding_present : (method : Method) (m : MethodId) → overriding cs x r method ≡ Some m → IsPresent m
    overriding_present method m is =
        let ms = filter_map (declared cs method.name method.ty) (superclasses cs x) in
        first_of_all IsPresent (filter (λ k. can_override cs k r) ms) m
        (All-filter (λ k. can_override cs k r) IsPresent ms ((upward_methods_present n cs ds alike) method.name method.ty x there)) is

    -- what is picked where r isn't private
    chosen_of_same : (o : Option Method) → chosen_of ds (renumbered n.classes x) (renumbered_method n r) o ≡ renumbered_chosen n (chosen_of cs x r o)
    chosen_of_same None = refl
    chosen_of_same (Some method) =
        (λ i. found_or (overriding_same method i) ((defaults_same n cs ds alike) method.name method.ty x there i))
        ∙ found_or_same n (overriding cs x r method) (defaults cs method.name method.ty x)

    chosen_of_present : (o : Option Method) → IsOfPresent (chosen_of cs x r o)
    chosen_of_present None m is = cc
    chosen_of_present (Some method) m is =
        picked_of IsPresent (overriding cs x r method) (defaults cs method.name method.ty x) (overriding_present method)
        ((defaults_present n cs ds alike) method.name method.ty x there) m is

    -- the method that selection picks
    chosen_same : chosen ds (renumbered n.classes x) (renumbered_method n r) ≡ renumbered_chosen n (chosen cs x r)
    chosen_same =
        (λ i. if private_same n cs ds alike r at i then Picked (renumbered_method n r)
        else chosen_of ds (renumbered n.classes x) (renumbered_method n r) (alike.method r at i))
        ∙ by_flag (is_private cs r)
      where
        by_flag : (b : Bool) → (if b then Picked (renumbered_method n r) else chosen_of ds (renumbered n.classes x) (renumbered_method n r) (method_at cs r))
            ≡ renumbered_chosen n (if b then Picked r else chosen_of cs x r (method_at cs r))
        by_flag true = refl
        by_flag false = chosen_of_same (method_at cs r)

    chosen_present : IsOfPresent (chosen cs x r)
    chosen_present = by_flag (is_private cs r)
      where
        by_flag : (b : Bool) → IsOfPresent (if b then Picked r else chosen_of cs x r (method_at cs r))
        by_flag true m is = subst IsPresent (same_Some r m (ap only is)) at
        by_flag false m is = chosen_of_present (method_at cs r) m is

    -- what it runs is of a present class
    pub virtual_present : (m : MethodId) → virtual_outcome cs x r ≡ Run m → is_present cs m.class ≡ true
    virtual_present m is = runs_present (chosen cs x r) chosen_present m is

    -- what invokevirtual does
    pub virtual_same : virtual_outcome ds (renumbered n.classes x) (renumbered_method n r) ≡ renumbered_outcome n (virtual_outcome cs x r)
    virtual_same = ap (ending ds) chosen_same ∙ ending_same (chosen cs x r) chosen_present

  -- what invokeinterface does
  pub interface_same : (x named : ℕ) (r : MethodId) → is_present cs x ≡ true → is_present cs named ≡ true → is_present cs r.class ≡ true
      → interface_outcome ds (renumbered n.classes x) (renumbered n.classes named) (renumbered_method n r)
      ≡ renumbered_outcome n (interface_outcome cs x named r)
  interface_same x named r there known at =
      (λ i. if alike.ancestors named x known there i then interface_ending ds (chosen_same x r there at i) else Throws IncompatibleClassChangeError)
      ∙ by_test (is_ancestor cs named x)
    where
      by_test : (b : Bool) → (if b then interface_ending ds (renumbered_chosen n (chosen cs x r)) else Throws IncompatibleClassChangeError)
          ≡ renumbered_outcome n (if b then interface_ending cs (chosen cs x r) else Throws IncompatibleClassChangeError)
      by_test true = interface_ending_same (chosen cs x r) (chosen_present x r there at)
      by_test false = refl

  -- what it runs is of a present class
  pub interface_present : (x named : ℕ) (r : MethodId) → is_present cs x ≡ true → is_present cs r.class ≡ true → (m : MethodId)
      → interface_outcome cs x named r ≡ Run m → is_present cs m.class ≡ true
  interface_present x named r there at m = by_test (is_ancestor cs named x)
    where
      by_test : (b : Bool) → (if b then interface_ending cs (chosen cs x r) else Throws IncompatibleClassChangeError) ≡ Run m → IsPresent m
      by_test true e = interface_runs_present (chosen cs x r) (chosen_present x r there at) m e
      by_test false e = cc

  -- ---- invokespecial

  -- the first instance method
  instance_same : (ms : List MethodId) → All IsPresent ms
      → first_element (instance_methods ds (map (renumbered_method n) ms)) ≡ option_map (renumbered_method n) (first_element (instance_methods cs ms))
  instance_same ms all =
      ap first_element
      (filter_alike (renumbered_method n) IsPresent (λ m. not (is_static ds m)) (λ m. not (is_static cs m))
      (λ m present. ap not (static_same n cs ds alike m present)) ms all)
      ∙ first_alike_element (renumbered_method n) (instance_methods cs ms)

  instance_present : (ms : List MethodId) → All IsPresent ms → (m : MethodId) → first_element (instance_methods cs ms) ≡ Some m → IsPresent m
  instance_present ms all m is =
      first_of_all IsPresent (instance_methods cs ms) m (All-filter (λ k. not (is_static cs k)) IsPresent ms all) is

  module _ (name ty : List ℕ) (c : ℕ) (there : is_present cs c ≡ true) where
    -- what the class itself declares
    own_present : All IsPresent (option_to_list (declared cs name ty c))
    own_present = by_place (position (is_called name ty) (methods_of cs c))
      where
        by_place : (o : Option ℕ) → All IsPresent (option_to_list (option_map (λ i. record { class = c; index = i }) o))
        by_place None = All-nil IsPresent
        by_place (Some i) = All-cons IsPresent (record { class = c; index = i }) [] there (All-nil IsPresent)

    -- the first instance method of these
    own_same : first_element (instance_methods ds (option_to_list (declared ds name ty (renumbered n.classes c))))
        ≡ option_map (renumbered_method n) (first_element (instance_methods cs (option_to_list (declared cs name ty c))))
    own_same =
        ap (λ (ms : List MethodId). first_element (instance_methods ds ms))
        (ap option_to_list (alike.declares name ty c there) ∙ listed (declared cs name ty c))
        ∙ instance_same (option_to_list (declared cs name ty c)) own_present
      where
        listed : (o : Option MethodId) → option_to_list (option_map (renumbered_method n) o) ≡ map (renumbered_method n) (option_to_list o)
        listed None = refl
        listed (Some m) = refl

    -- what is found from an interface
    in_interface_same : special_in_interface ds name ty (renumbered n.classes c) ≡ option_map (renumbered_method n) (special_in_interface cs name ty c)
    in_interface_same =
        (λ i. first_of (own_same i ∷ (in_object_same n cs ds alike) name ty i ∷ []))
        ∙ first_alike (renumbered_method n)
        (first_element (instance_methods cs (option_to_list (declared cs name ty c))) ∷ declared_in_object cs name ty ∷ [])

    -- what is found from a class
    in_class_same : special_in_class ds name ty (renumbered n.classes c) ≡ option_map (renumbered_method n) (special_in_class cs name ty c)
    in_class_same =
        ap (λ (ms : List MethodId). first_element (instance_methods ds ms)) ((upward_same n cs ds alike) name ty c there)
        ∙ instance_same (filter_map (declared cs name ty) (superclasses cs c)) ((upward_methods_present n cs ds alike) name ty c there)

    -- what is found
    found_same : special_found ds name ty (renumbered n.classes c) ≡ option_map (renumbered_method n) (special_found cs name ty c)
    found_same =
        (λ i. if alike.interfaces c there i then in_interface_same i else in_class_same i)
        ∙ by_kind (is_interface cs c)
      where
        by_kind : (b : Bool) → (if b then option_map (renumbered_method n) (special_in_interface cs name ty c)
            else option_map (renumbered_method n) (special_in_class cs name ty c))
            ≡ option_map (renumbered_method n) (if b then special_in_interface cs name ty c else special_in_class cs name ty c)
        by_kind true = refl
        by_kind false = refl

    found_present : (m : MethodId) → special_found cs name ty c ≡ Some m → IsPresent m
    found_present = by_kind (is_interface cs c)
      where
        own : Option MethodId
        own = first_element (instance_methods cs (option_to_list (declared cs name ty c)))

        by_own : (o : Option MethodId) → ((m : MethodId) → o ≡ Some m → IsPresent m) → (m : MethodId)
            → first_of (o ∷ declared_in_object cs name ty ∷ []) ≡ Some m → IsPresent m
        by_own (Some k) present m is = present m is
        by_own None present m is = (in_object_present n cs ds alike) name ty m (sym (first_alone (declared_in_object cs name ty)) ∙ is)

        by_kind : (b : Bool) (m : MethodId) → (if b then special_in_interface cs name ty c else special_in_class cs name ty c) ≡ Some m → IsPresent m
        by_kind true m is = by_own own (instance_present (option_to_list (declared cs name ty c)) own_present) m is
        by_kind false m is =
            instance_present (filter_map (declared cs name ty) (superclasses cs c)) ((upward_methods_present n cs ds alike) name ty c there) m is

  module _ (ref : Reference (List ℕ)) where
    -- the method that is picked where the search begins at o
    choice_same : (o : Option ℕ) → ((c : ℕ) → o ≡ Some c → is_present cs c ≡ true)
        → special_choice ds ref (option_map (renumbered n.classes) o) ≡ renumbered_chosen n (special_choice cs ref o)
    choice_same None there = refl
    choice_same (Some c) there =
        (λ i. found_or (found_same ref.name ref.ty c (there c refl) i) ((defaults_same n cs ds alike) ref.name ref.ty c (there c refl) i))
        ∙ found_or_same n (special_found cs ref.name ref.ty c) (defaults cs ref.name ref.ty c)

    choice_present : (o : Option ℕ) → ((c : ℕ) → o ≡ Some c → is_present cs c ≡ true) → IsOfPresent (special_choice cs ref o)
    choice_present None there m is = cc
    choice_present (Some c) there m is =
        picked_of IsPresent (special_found cs ref.name ref.ty c) (defaults cs ref.name ref.ty c) (found_present ref.name ref.ty c (there c refl))
        ((defaults_present n cs ds alike) ref.name ref.ty c (there c refl)) m is

    module _ (d named : ℕ) (caller : is_present cs d ≡ true) (known : is_present cs named ≡ true) where
      -- where the search begins
      start_same : special_start ds (renumbered n.classes d) (renumbered n.classes named) ref
          ≡ option_map (renumbered n.classes) (special_start cs d named ref)
      start_same =
          (λ i. if not (is_init ref.name) && (not (alike.interfaces named known i) && alike.proper_subclasses d named caller known i)
          then alike.superclass d caller i else Some (renumbered n.classes named))
          ∙ by_test (not (is_init ref.name) && (not (is_interface cs named) && is_proper_subclass cs d named))
        where
          by_test : (b : Bool) → (if b then option_map (renumbered n.classes) (superclass_of cs d) else Some (renumbered n.classes named))
              ≡ option_map (renumbered n.classes) (if b then superclass_of cs d else Some named)
          by_test true = refl
          by_test false = refl

      start_present : (c : ℕ) → special_start cs d named ref ≡ Some c → is_present cs c ≡ true
      start_present = by_test (not (is_init ref.name) && (not (is_interface cs named) && is_proper_subclass cs d named))
        where
          by_test : (b : Bool) (c : ℕ) → (if b then superclass_of cs d else Some named) ≡ Some c → is_present cs c ≡ true
          by_test true c is = alike.superclass_present d c caller is
          by_test false c is = subst (λ k. is_present cs k ≡ true) (same_Some named c is) known

  -- what invokespecial does
  pub special_same : (d named : ℕ) (ref : Reference (List ℕ)) → is_present cs d ≡ true → is_present cs named ≡ true
      → special_outcome ds (renumbered n.classes d) (renumbered n.classes named) ref ≡ renumbered_outcome n (special_outcome cs d named ref)
  special_same d named ref caller known =
      let start = special_start cs d named ref in
      let present = start_present ref d named caller known in
      ap (λ (o : Option ℕ). ending ds (special_choice ds ref o)) (start_same ref d named caller known)
      ∙ ap (ending ds) (choice_same ref start present)
      ∙ ending_same (special_choice cs ref start) (choice_present ref start present)

  -- what it runs is of a present class
  pub special_present : (d named : ℕ) (ref : Reference (List ℕ)) → is_present cs d ≡ true → is_present cs named ≡ true → (m : MethodId)
      → special_outcome cs d named ref ≡ Run m → is_present cs m.class ≡ true
  special_present d named ref caller known m is =
      let start = special_start cs d named ref in
      runs_present (special_choice cs ref start) (choice_present ref start (start_present ref d named caller known)) m is
