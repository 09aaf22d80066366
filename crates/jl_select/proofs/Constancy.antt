-- What was selected stays so when classes are added.
use Rattle.std.specs.Prelude.{◌≡◌, ℕ, zero, suc, ◌+◌, Bool, true, false, not, ◌&&◌, ◌||◌, List, [], ◌∷◌, map, filter, filter_map, length}
use Rattle.std.specs.Prelude.{Option, Some, None, option_and_then, option_to_list, IfSome, if◌then◌else◌, ⊤}
use Rattle.std.specs.List.{AllByRecursion, list_any, range_with_len}
use Rattle.std.specs.Option.{option_map_or}
use Rattle.std.proofs.Common.{refl, ap, ◌∙◌}
use Rattle.jl_pool.specs.declared.reference.Reference.{Reference}
use Rattle.jl_class.specs.Class.{Method}
use Rattle.jl_class.specs.Flags.{object}
use Rattle.jl_types.specs.declared.ids.MethodId.{MethodId}
use Rattle.jl_types.specs.declared.answer.Outcome.TheVariants.{Run, Throws}
use Rattle.jl_types.specs.declared.answer.Chosen.{Chosen}
use Rattle.jl_types.specs.declared.answer.Chosen.TheVariants.{Method as Picked, Several, Nothing}
use Rattle.jl_types.specs.declared.answer.Throwable.TheVariants.{IllegalAccessError, IncompatibleClassChangeError, AbstractMethodError}
use Rattle.jl_types.specs.Values.World.{Classes}
use Rattle.jl_types.specs.Values.Members.{is_retired, methods_of, method_at, is_called, declared, lookup, is_interface, is_private, is_static}
use Rattle.jl_types.specs.Values.Ancestry.{AreOrdered, superclass_of, superclasses, is_proper_subclass}
use Rattle.jl_types.specs.Linkage.Resolution.{first_of, first_element, declared_in_object, defaults}
use Rattle.jl_types.specs.Linkage.Overriding.{are_alike, is_visible, classes_between, methods_in, can_override_within, can_override}
use Rattle.jl_types.specs.Linkage.Selection.{found_or, overriding, chosen_of, chosen, ending, virtual_outcome, interface_ending, interface_outcome}
use Rattle.jl_types.specs.Linkage.Selection.{is_init, special_start, instance_methods, special_in_class, special_in_interface, special_found}
use Rattle.jl_types.specs.Linkage.Selection.{special_choice, special_outcome}
use Rattle.jl_types.proofs.Orders.{IsGood}
use Rattle.jl_hierarchy.specs.Constancy.{AreInOrder, IsClosed, Stays}
use Rattle.jl_hierarchy.proofs.Objects.{is_there}
use Rattle.jl_resolve.specs.Constancy.{RecordsObject}
use Rattle.jl_resolve.proofs.Constancy.{settled_stays}
use Rattle.jl_resolve.proofs.Unchanged.{IsThere, IsOfThere, filter_same, any_same, all_filter, all_option, first_there, first_of_there}
use Rattle.jl_resolve.proofs.Unchanged.{row_stays, package_stays, methods_stay, method_stays, interface_stays, declared_stays, declared_there}
use Rattle.jl_resolve.proofs.Unchanged.{public_stays, private_stays, protected_stays, static_stays, abstract_stays, package_private_stays}
use Rattle.jl_resolve.proofs.Unchanged.{ancestor_stays, superclasses_stay, superclasses_there, proper_subclass_stays, defaults_stay, defaults_there}
use Rattle.jl_resolve.proofs.Unchanged.{upward_stays, upward_there, declared_in_object_stays, declared_in_object_there}
use Rattle.jl_select.specs.Constancy.{ChosenStays, OutcomesStay, IsConstant}
use Rattle.jl_select.proofs.Bridges.{superclass_there}

-- c can override a by way of a method of the class k
abbrev has_way : ℕ → Classes → MethodId → MethodId → ℕ → Bool
has_way n cs c a k = list_any (λ b. can_override_within n cs c b && can_override_within n cs b a) (methods_in cs k)

-- the class of what was picked is there
abbrev IsChoiceThere : Classes → Chosen → Type 0
IsChoiceThere cs (Picked m) = IsOfThere cs m
IsChoiceThere cs Several = ⊤
IsChoiceThere cs Nothing = ⊤

found_or_there : (cs : Classes) (o : Option MethodId) (ms : List MethodId) → IfSome o (IsOfThere cs) → AllByRecursion (IsOfThere cs) ms
    → IsChoiceThere cs (found_or o ms)
found_or_there cs (Some m) ms at all = at
found_or_there cs None [] at all = tt
found_or_there cs None (m ∷ []) at all = all.0
found_or_there cs None (m ∷ n ∷ ms) at all = tt

module _ (old new : Classes) (stays : Stays old new) (good : IsGood old) where
  -- ---- overriding

  module _ (c a : MethodId) (lower : IsOfThere old c) (upper : IsOfThere old a) where
    alike_stays : are_alike new c a ≡ are_alike old c a
    alike_stays =
        λ i. (not (static_stays old new stays good c lower i) && (not (static_stays old new stays good a upper i)
        && not (private_stays old new stays good c lower i)))
        && option_map_or (λ m. option_map_or (is_called m.name m.ty) (method_stays old new stays good a upper i) false)
        (method_stays old new stays good c lower i) false

    visible_stays : is_visible new c a ≡ is_visible old c a
    visible_stays =
        λ i. public_stays old new stays good a upper i || (protected_stays old new stays good a upper i
        || (package_private_stays old new stays good a upper i && package_stays old new stays good a.class c.class upper lower i))

  between_there : (x y : ℕ) → AllByRecursion (IsThere old) (classes_between old x y)
  between_there x y =
      all_filter (IsThere old) (λ b. is_proper_subclass old x b && is_proper_subclass old b y) (superclasses old x) (superclasses_there old new stays good x)

  between_stays : (x y : ℕ) → IsThere old x → classes_between new x y ≡ classes_between old x y
  between_stays x y there =
      ap (filter (λ b. is_proper_subclass new x b && is_proper_subclass new b y)) (superclasses_stay old new stays good x there)
      ∙ filter_same (IsThere old) (λ b. is_proper_subclass new x b && is_proper_subclass new b y) (λ b. is_proper_subclass old x b
      && is_proper_subclass old b y)
      (λ b at. λ i. proper_subclass_stays old new stays good x b there i && proper_subclass_stays old new stays good b y at i)
      (superclasses old x) (superclasses_there old new stays good x)

  module _ (k : ℕ) (there : IsThere old k) where
    methods_in_stays : methods_in new k ≡ methods_in old k
    methods_in_stays = λ i. map (λ j. record { class = k; index = j }) (range_with_len 0 (length (methods_stay old new stays good k there i)))

    methods_in_there : AllByRecursion (IsOfThere old) (methods_in old k)
    methods_in_there = each (range_with_len 0 (length (methods_of old k)))
      where
        each : (js : List ℕ) → AllByRecursion {X = MethodId} (IsOfThere old) (map (λ j. record { class = k; index = j }) js)
        each [] = tt
        each (j ∷ js) = (there, each js)

  abbrev StaysWithin : ℕ → Type 0
  StaysWithin n = (c a : MethodId) → IsOfThere old c → IsOfThere old a → can_override_within n new c a ≡ can_override_within n old c a

  module _ (n : ℕ) (ih : StaysWithin n) (c a : MethodId) (lower : IsOfThere old c) (upper : IsOfThere old a) where
    way_stays : (k : ℕ) → IsThere old k → has_way n new c a k ≡ has_way n old c a k
    way_stays k there =
        ap (list_any (λ b. can_override_within n new c b && can_override_within n new b a)) (methods_in_stays k there)
        ∙ any_same (IsOfThere old) (λ b. can_override_within n new c b && can_override_within n new b a) (λ b. can_override_within n old c b
        && can_override_within n old b a)
        (λ b at. λ i. ih c b lower at i && ih b a at upper i) (methods_in old k) (methods_in_there k there)

    ways_stay : list_any (has_way n new c a) (classes_between new c.class a.class) ≡ list_any (has_way n old c a) (classes_between old c.class a.class)
    ways_stay =
        ap (list_any (has_way n new c a)) (between_stays c.class a.class lower)
        ∙ any_same (IsThere old) (has_way n new c a) (has_way n old c a) (λ k at. way_stays k at) (classes_between old c.class a.class)
        (between_there c.class a.class)

  within_stays : (n : ℕ) → StaysWithin n
  within_stays zero c a lower upper = refl
  within_stays (suc n) c a lower upper =
      λ i. alike_stays c a lower upper i && (visible_stays c a lower upper i
      || (package_private_stays old new stays good a upper i && ways_stay n (within_stays n) c a lower upper i))

  pub can_override_stays : (c a : MethodId) → IsOfThere old c → IsOfThere old a → can_override new c a ≡ can_override old c a
  can_override_stays c a lower upper = within_stays (c.class + 1) c a lower upper

  -- ---- selection

  module _ (x : ℕ) (r : MethodId) (there : IsThere old x) (at : IsOfThere old r) where
    overriding_there : (method : Method) → IfSome (overriding old x r method) (IsOfThere old)
    overriding_there method =
        let ms = filter_map (declared old method.name method.ty) (superclasses old x) in
        first_there (IsOfThere old) (filter (λ m. can_override old m r) ms)
        (all_filter (IsOfThere old) (λ m. can_override old m r) ms (upward_there old new stays good method.name method.ty x there))

    overriding_stays : (method : Method) → overriding new x r method ≡ overriding old x r method
    overriding_stays method =
        ap (λ (ms : List MethodId). first_element (filter (λ m. can_override new m r) ms)) (upward_stays old new stays good method.name method.ty x there)
        ∙ ap first_element
        (filter_same (IsOfThere old) (λ m. can_override new m r) (λ m. can_override old m r) (λ m of_class. can_override_stays m r of_class at)
        (filter_map (declared old method.name method.ty) (superclasses old x)) (upward_there old new stays good method.name method.ty x there))

    chosen_of_stays : (o : Option Method) → chosen_of new x r o ≡ chosen_of old x r o
    chosen_of_stays None = refl
    chosen_of_stays (Some method) = λ i. found_or (overriding_stays method i) (defaults_stay old new stays good method.name method.ty x there i)

    of_method_stays : chosen_of new x r (method_at new r) ≡ chosen_of old x r (method_at old r)
    of_method_stays = ap (chosen_of new x r) (method_stays old new stays good r at) ∙ chosen_of_stays (method_at old r)

    pub chosen_stays : chosen new x r ≡ chosen old x r
    chosen_stays = λ i. if private_stays old new stays good r at i then Picked r else of_method_stays i

    chosen_there : IsChoiceThere old (chosen old x r)
    chosen_there = by_flag (is_private old r)
      where
        by_method : (o : Option Method) → IsChoiceThere old (chosen_of old x r o)
        by_method None = tt
        by_method (Some method) =
            found_or_there old (overriding old x r method) (defaults old method.name method.ty x) (overriding_there method)
            (defaults_there old new stays good method.name method.ty x there)

        by_flag : (b : Bool) → IsChoiceThere old (if b then Picked r else chosen_of old x r (method_at old r))
        by_flag true = at
        by_flag false = by_method (method_at old r)

  -- ---- outcomes

  ending_stays : (choice : Chosen) → IsChoiceThere old choice → ending new choice ≡ ending old choice
  ending_stays (Picked m) at = ap (λ (b : Bool). if b then Throws AbstractMethodError else Run m) (abstract_stays old new stays good m at)
  ending_stays Several at = refl
  ending_stays Nothing at = refl

  interface_ending_stays : (choice : Chosen) → IsChoiceThere old choice → interface_ending new choice ≡ interface_ending old choice
  interface_ending_stays (Picked m) at =
      λ i. if public_stays old new stays good m at i || private_stays old new stays good m at i then ending_stays (Picked m) at i else Throws IllegalAccessError
  interface_ending_stays Several at = refl
  interface_ending_stays Nothing at = refl

  module _ (x : ℕ) (r : MethodId) (there : IsThere old x) (at : IsOfThere old r) where
    pub virtual_outcome_stays : virtual_outcome new x r ≡ virtual_outcome old x r
    virtual_outcome_stays = ap (ending new) (chosen_stays x r there at) ∙ ending_stays (chosen old x r) (chosen_there x r there at)

    of_chosen_stays : interface_ending new (chosen new x r) ≡ interface_ending old (chosen old x r)
    of_chosen_stays = ap (interface_ending new) (chosen_stays x r there at) ∙ interface_ending_stays (chosen old x r) (chosen_there x r there at)

    pub interface_outcome_stays : (named : ℕ) → interface_outcome new x named r ≡ interface_outcome old x named r
    interface_outcome_stays named = λ i. if ancestor_stays old new stays good named x there i then of_chosen_stays i else Throws IncompatibleClassChangeError

  -- ---- invokespecial

  instance_stays : (ms : List MethodId) → AllByRecursion (IsOfThere old) ms → instance_methods new ms ≡ instance_methods old ms
  instance_stays ms all =
      filter_same (IsOfThere old) (λ m. not (is_static new m)) (λ m. not (is_static old m)) (λ m at. ap not (static_stays old new stays good m at)) ms all

  instance_there : (ms : List MethodId) → AllByRecursion (IsOfThere old) ms → IfSome (first_element (instance_methods old ms)) (IsOfThere old)
  instance_there ms all = first_there (IsOfThere old) (instance_methods old ms) (all_filter (IsOfThere old) (λ m. not (is_static old m)) ms all)

  module _ (name ty : List ℕ) (c : ℕ) (there : IsThere old c) where
    own_there : AllByRecursion (IsOfThere old) (option_to_list (declared old name ty c))
    own_there = all_option (IsOfThere old) (declared old name ty c) (declared_there old new stays good name ty c there)

    own_stays : instance_methods new (option_to_list (declared new name ty c)) ≡ instance_methods old (option_to_list (declared old name ty c))
    own_stays =
        ap (λ (o : Option MethodId). instance_methods new (option_to_list o)) (declared_stays old new stays good name ty c there)
        ∙ instance_stays (option_to_list (declared old name ty c)) own_there

    in_class_stays : special_in_class new name ty c ≡ special_in_class old name ty c
    in_class_stays =
        ap (λ (ms : List MethodId). first_element (instance_methods new ms)) (upward_stays old new stays good name ty c there)
        ∙ ap first_element (instance_stays (filter_map (declared old name ty) (superclasses old c)) (upward_there old new stays good name ty c there))

    in_interface_stays : is_retired new 0 ≡ false → (o : ℕ) → lookup old 0 object ≡ Some o
        → special_in_interface new name ty c ≡ special_in_interface old name ty c
    in_interface_stays first o is = λ i. first_of (first_element (own_stays i) ∷ declared_in_object_stays old new stays good name ty first o is i ∷ [])

    special_found_there : IfSome (special_found old name ty c) (IsOfThere old)
    special_found_there = by_kind (is_interface old c)
      where
        by_kind : (b : Bool) → IfSome (if b then special_in_interface old name ty c else special_in_class old name ty c) (IsOfThere old)
        by_kind true =
            first_of_there (IsOfThere old) (first_element (instance_methods old (option_to_list (declared old name ty c))) ∷ declared_in_object old name ty
            ∷ [])
            (instance_there (option_to_list (declared old name ty c)) own_there, (declared_in_object_there old new stays good name ty, tt))
        by_kind false = instance_there (filter_map (declared old name ty) (superclasses old c)) (upward_there old new stays good name ty c there)

    special_found_stays : is_retired new 0 ≡ false → RecordsObject old → special_found new name ty c ≡ special_found old name ty c
    special_found_stays first recorded =
        ap (λ (b : Bool). if b then special_in_interface new name ty c else special_in_class new name ty c) (interface_stays old new stays good c there)
        ∙ by_kind (is_interface old c) refl
      where
        by_kind : (b : Bool) → is_interface old c ≡ b
            → (if b then special_in_interface new name ty c else special_in_class new name ty c)
            ≡ (if b then special_in_interface old name ty c else special_in_class old name ty c)
        by_kind true e = let o = recorded c e in in_interface_stays first o.0 o.1
        by_kind false e = in_class_stays

  module _ (ref : Reference (List ℕ)) where
    special_choice_there : (o : Option ℕ) → IfSome o (IsThere old) → IsChoiceThere old (special_choice old ref o)
    special_choice_there None at = tt
    special_choice_there (Some c) at =
        found_or_there old (special_found old ref.name ref.ty c) (defaults old ref.name ref.ty c) (special_found_there ref.name ref.ty c at)
        (defaults_there old new stays good ref.name ref.ty c at)

    special_choice_stays : is_retired new 0 ≡ false → RecordsObject old → (o : Option ℕ) → IfSome o (IsThere old)
        → special_choice new ref o ≡ special_choice old ref o
    special_choice_stays first recorded None at = refl
    special_choice_stays first recorded (Some c) at =
        λ i. found_or (special_found_stays ref.name ref.ty c at first recorded i) (defaults_stay old new stays good ref.name ref.ty c at i)

    module _ (d named : ℕ) (caller : IsThere old d) (there : IsThere old named) where
      special_start_there : IfSome (special_start old d named ref) (IsThere old)
      special_start_there = by_test (not (is_init ref.name) && (not (is_interface old named) && is_proper_subclass old d named))
        where
          by_test : (b : Bool) → IfSome (if b then superclass_of old d else Some named) (IsThere old)
          by_test true = superclass_there old good.ordered d
          by_test false = there

      special_start_stays : special_start new d named ref ≡ special_start old d named ref
      special_start_stays =
          λ i. if not (is_init ref.name) && (not (interface_stays old new stays good named there i)
          && proper_subclass_stays old new stays good d named caller i)
          then option_and_then (λ row. row.superclass) (row_stays old new stays good d caller i) else Some named

      pub special_outcome_stays : is_retired new 0 ≡ false → RecordsObject old → special_outcome new d named ref ≡ special_outcome old d named ref
      special_outcome_stays first recorded =
          let start = special_start old d named ref in
          ap (λ (o : Option ℕ). ending new (special_choice new ref o)) special_start_stays
          ∙ ap (ending new) (special_choice_stays first recorded start special_start_there)
          ∙ ending_stays (special_choice old ref start) (special_choice_there start special_start_there)

-- what was selected stays
pub selected_stays : (old new : Classes) → Stays old new → IsGood old → ChosenStays old new
selected_stays old new stays good = record { chosen = λ x r there at. chosen_stays old new stays good x r there at }

-- and what the instructions make of it, where each interface came after java/lang/Object
pub outcomes_stay : (old new : Classes) → Stays old new → IsGood old → is_retired new 0 ≡ false → RecordsObject old → OutcomesStay old new
outcomes_stay old new stays good first recorded = record {
  virtual = λ x r there at. virtual_outcome_stays old new stays good x r there at;
  interface = λ x named r there at. interface_outcome_stays old new stays good x r there at named;
  special = λ d named ref caller there. special_outcome_stays old new stays good ref d named caller there first recorded;
}

-- all of this, where java/lang/Object comes first
pub constant : (old new : Classes) → AreInOrder old → Stays old new → AreOrdered new.rows → IsClosed new → IsConstant old new
constant old new order stays ordered closed =
    let good : IsGood old = record { there = order.there; ordered = order.ordered } in
    let recorded : RecordsObject old = λ c is. is_there (lookup old 0 object) (order.object.interfaces c is) in
    record {
      resolved = settled_stays old new stays good ordered closed recorded;
      chosen = selected_stays old new stays good;
      outcomes = outcomes_stay old new stays good closed.first recorded;
    }

pub constant_itself : (cs : Classes) → IsConstant cs cs
constant_itself cs = record {
  resolved = record { resolved = λ d ref present settled. refl };
  chosen = record { chosen = λ x r there at. refl };
  outcomes = record { virtual = λ x r there at. refl; interface = λ x named r there at. refl; special = λ d named ref there at. refl };
}
