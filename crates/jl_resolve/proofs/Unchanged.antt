-- What is said of the classes that are there stays when classes are added.
use Rattle.std.specs.Prelude.{◌≡◌, ℕ, zero, suc, ◌+◌, ◌<◌, ◌≤◌, ◌==◌, Bool, true, false, cond, not, ◌&&◌, ◌||◌, List, [], ◌∷◌}
use Rattle.std.specs.Prelude.{filter, filter_map, length, position, slice_get, Option, Some, None, option_map, option_and_then, option_to_list, IfSome}
use Rattle.std.specs.List.{AllByRecursion, cons_option, list_any, range_with_len}
use Rattle.std.specs.Option.{option_map_or}
use Rattle.std.proofs.Common.{refl, ap, sym, ◌∙◌, arith}
use Rattle.std.proofs.lemmas.List.Elements.{recursion_from_All}
use Rattle.std.proofs.lemmas.Option.{slice_get_within}
use Rattle.jl_class.specs.Class.{Method}
use Rattle.jl_class.specs.Flags.{object, has_flag, PUBLIC, PRIVATE, PROTECTED, STATIC, INTERFACE, ABSTRACT}
use Rattle.jl_types.specs.declared.ids.MethodId.{MethodId}
use Rattle.jl_types.specs.Values.World.{Class, Classes}
use Rattle.jl_types.specs.Values.Members.{class_test, is_retired, is_interface, share_package, same_package, lookup, methods_of, method_at}
use Rattle.jl_types.specs.Values.Members.{method_test, is_called, declared}
use Rattle.jl_types.specs.Values.Members.{is_public, is_private, is_protected, is_static, is_abstract, is_package_private}
use Rattle.jl_types.specs.Values.Ancestry.{parents, is_ancestor_within, is_ancestor, is_proper_ancestor, superclasses_within, superclasses}
use Rattle.jl_types.specs.Values.Ancestry.{is_subclass, is_proper_subclass, ancestors, superinterfaces}
use Rattle.jl_types.specs.Linkage.Resolution.{first_of, first_element, candidates, max_specific, defaults, declared_in_object}
use Rattle.jl_types.proofs.Ancestors.{any_alike, superclass_below}
use Rattle.jl_types.proofs.Lists.{element_at}
use Rattle.jl_types.proofs.Orders.{IsGood, looked_up}
use Rattle.jl_hierarchy.specs.Constancy.{Stays}
use Rattle.jl_hierarchy.specs.ForProofs.Defaults.{is_inherited, is_other_interface, is_redeclared}

-- ---- lists

module _ {A : Type 0} (P : A → Type 0) where
  -- two tests that agree on each element
  pub filter_same : (p q : A → Bool) → ((x : A) → P x → p x ≡ q x) → (xs : List A) → AllByRecursion P xs → filter p xs ≡ filter q xs
  filter_same p q h [] all = refl
  filter_same p q h (x ∷ xs) all = λ i. cond (h x all.0 i) (x ∷ filter_same p q h xs all.1 i) (filter_same p q h xs all.1 i)

  pub any_same : (p q : A → Bool) → ((x : A) → P x → p x ≡ q x) → (xs : List A) → AllByRecursion P xs → list_any p xs ≡ list_any q xs
  any_same p q h [] all = refl
  any_same p q h (x ∷ xs) all = λ i. h x all.0 i || any_same p q h xs all.1 i

  pub all_filter : (p : A → Bool) (xs : List A) → AllByRecursion P xs → AllByRecursion P (filter p xs)
  all_filter p [] all = tt
  all_filter p (x ∷ xs) all = by_test (p x) (all_filter p xs all.1)
    where
      by_test : (b : Bool) → AllByRecursion P (filter p xs) → AllByRecursion P (cond b (x ∷ filter p xs) (filter p xs))
      by_test true rest = (all.0, rest)
      by_test false rest = rest

  pub first_there : (xs : List A) → AllByRecursion P xs → IfSome (first_element xs) P
  first_there [] all = tt
  first_there (x ∷ xs) all = all.0

  pub all_option : (o : Option A) → IfSome o P → AllByRecursion P (option_to_list o)
  all_option None h = tt
  all_option (Some x) h = (h, tt)

module _ {A B : Type 0} (P : A → Type 0) where
  pub found_same : (f g : A → Option B) → ((x : A) → P x → f x ≡ g x) → (xs : List A) → AllByRecursion P xs → filter_map f xs ≡ filter_map g xs
  found_same f g h [] all = refl
  found_same f g h (x ∷ xs) all = λ i. cons_option (h x all.0 i) (found_same f g h xs all.1 i)

  pub all_found : (Q : B → Type 0) (f : A → Option B) → ((x : A) → P x → IfSome (f x) Q) → (xs : List A) → AllByRecursion P xs
      → AllByRecursion Q (filter_map f xs)
  all_found Q f h [] all = tt
  all_found Q f h (x ∷ xs) all = by_found (f x) (h x all.0) (all_found Q f h xs all.1)
    where
      by_found : (o : Option B) → IfSome o Q → AllByRecursion Q (filter_map f xs) → AllByRecursion Q (cons_option o (filter_map f xs))
      by_found None is rest = rest
      by_found (Some y) is rest = (is, rest)

-- the first one that is there
pub first_of_there : {A : Type 0} (P : A → Type 0) (os : List (Option A)) → AllByRecursion (λ o. IfSome o P) os → IfSome (first_of os) P
first_of_there P [] all = tt
first_of_there P (None ∷ os) all = first_of_there P os all.1
first_of_there P (Some x ∷ os) all = all.0

all_range : (n a m : ℕ) → a + m ≤ n → AllByRecursion (λ k. k < n) (range_with_len a m)
all_range n a zero h = tt
all_range n a (suc m) h = (omega arith, all_range n (a + 1) m (omega arith))

-- superclasses are there
chain_there : (rows : List Class) (k c : ℕ) → AllByRecursion (λ x. x < length rows) (superclasses_within k rows c)
chain_there rows zero c = tt
chain_there rows (suc k) c = by_row (slice_get rows c) refl (chain_there rows k)
  where
    by_superclass : ((s : ℕ) → AllByRecursion (λ x. x < length rows) (superclasses_within k rows s)) → (o : Option ℕ)
        → AllByRecursion (λ x. x < length rows) (option_map_or (superclasses_within k rows) o [])
    by_superclass ih None = tt
    by_superclass ih (Some s) = ih s

    by_row : (r : Option Class) → slice_get rows c ≡ r → ((s : ℕ) → AllByRecursion (λ x. x < length rows) (superclasses_within k rows s))
        → AllByRecursion (λ x. x < length rows) (option_map_or (λ row. c ∷ option_map_or (superclasses_within k rows) row.superclass []) r [])
    by_row None e ih = tt
    by_row (Some row) e ih = (slice_get_within rows c row e, by_superclass ih row.superclass)

-- the class of the number, and of the method, is there
abbrev pub IsThere : Classes → ℕ → Type 0
IsThere cs c = c < length cs.rows

abbrev pub IsOfThere : Classes → MethodId → Type 0
IsOfThere cs m = m.class < length cs.rows

-- what java/lang/Object declares, and what of it interfaces have
abbrev in_object : List ℕ → List ℕ → Classes → Option MethodId
in_object name ty cs = option_and_then (declared cs name ty) (lookup cs 0 object)

abbrev is_of_interfaces : Classes → MethodId → Bool
is_of_interfaces cs m = is_public cs m && not (is_static cs m)

module _ (old new : Classes) (stays : Stays old new) (good : IsGood old) where
  -- ---- classes and methods

  pub row_stays : (c : ℕ) → IsThere old c → slice_get new.rows c ≡ slice_get old.rows c
  row_stays c there = let r = element_at old.rows c there in stays.rows c r.0 r.1 ∙ sym r.1

  pub test_stays : (test : Class → Bool) (c : ℕ) → IsThere old c → class_test test new c ≡ class_test test old c
  test_stays test c there = λ i. option_map_or test (row_stays c there i) false

  pub package_stays : (c d : ℕ) → IsThere old c → IsThere old d → same_package new c d ≡ same_package old c d
  package_stays c d first second =
      λ i. option_map_or (λ a. option_map_or (share_package a) (row_stays d second i) false) (row_stays c first i) false

  pub methods_stay : (c : ℕ) → IsThere old c → methods_of new c ≡ methods_of old c
  methods_stay c there = λ i. option_map_or (λ row. row.file.methods) (row_stays c there i) []

  pub method_stays : (m : MethodId) → IsOfThere old m → method_at new m ≡ method_at old m
  method_stays m there = λ i. slice_get (methods_stay m.class there i) m.index

  pub flag_stays : (test : Method → Bool) (m : MethodId) → IsOfThere old m → method_test test new m ≡ method_test test old m
  flag_stays test m there = λ i. option_map_or test (method_stays m there i) false

  pub public_stays : (m : MethodId) → IsOfThere old m → is_public new m ≡ is_public old m
  public_stays m there = flag_stays (λ method. has_flag method.flags PUBLIC) m there

  pub private_stays : (m : MethodId) → IsOfThere old m → is_private new m ≡ is_private old m
  private_stays m there = flag_stays (λ method. has_flag method.flags PRIVATE) m there

  pub protected_stays : (m : MethodId) → IsOfThere old m → is_protected new m ≡ is_protected old m
  protected_stays m there = flag_stays (λ method. has_flag method.flags PROTECTED) m there

  pub static_stays : (m : MethodId) → IsOfThere old m → is_static new m ≡ is_static old m
  static_stays m there = flag_stays (λ method. has_flag method.flags STATIC) m there

  pub abstract_stays : (m : MethodId) → IsOfThere old m → is_abstract new m ≡ is_abstract old m
  abstract_stays m there = flag_stays (λ method. has_flag method.flags ABSTRACT) m there

  pub package_private_stays : (m : MethodId) → IsOfThere old m → is_package_private new m ≡ is_package_private old m
  package_private_stays m there = λ i. not (public_stays m there i) && (not (protected_stays m there i) && not (private_stays m there i))

  pub declared_stays : (name ty : List ℕ) (c : ℕ) → IsThere old c → declared new name ty c ≡ declared old name ty c
  declared_stays name ty c there = λ i. option_map (λ k. record { class = c; index = k }) (position (is_called name ty) (methods_stay c there i))

  pub declared_there : (name ty : List ℕ) (c : ℕ) → IsThere old c → IfSome (declared old name ty c) (IsOfThere old)
  declared_there name ty c there = by_place (position (is_called name ty) (methods_of old c))
    where
      by_place : (o : Option ℕ) → IfSome {T = MethodId} (option_map (λ k. record { class = c; index = k }) o) (IsOfThere old)
      by_place None = tt
      by_place (Some k) = there

  pub lookup_there : (loader : ℕ) (name : List ℕ) → IfSome (lookup old loader name) (IsThere old)
  lookup_there loader name = by_record (lookup old loader name) refl
    where
      by_record : (o : Option ℕ) → lookup old loader name ≡ o → IfSome o (IsThere old)
      by_record None is = tt
      by_record (Some c) is = looked_up old good loader name c is

  -- ---- ancestors

  ancestor_row : (a k c : ℕ) → ((p : ℕ) → IsThere old p → is_ancestor_within k new.rows a p ≡ is_ancestor_within k old.rows a p) → IsThere old c
      → (r : Option Class) → slice_get old.rows c ≡ r
      → option_map_or (λ row. (a == c) || list_any (is_ancestor_within k new.rows a) (parents row)) r false
      ≡ option_map_or (λ row. (a == c) || list_any (is_ancestor_within k old.rows a) (parents row)) r false
  ancestor_row a k c ih there None e = refl
  ancestor_row a k c ih there (Some row) e =
      ap (λ (b : Bool). (a == c) || b)
      (any_alike (is_ancestor_within k new.rows a) (is_ancestor_within k old.rows a) c (λ p below. ih p (omega arith)) (parents row)
      (recursion_from_All (λ p. p < c) (parents row) (good.ordered c row e)))

  ancestor_within : (a k c : ℕ) → IsThere old c → is_ancestor_within k new.rows a c ≡ is_ancestor_within k old.rows a c
  ancestor_within a zero c there = refl
  ancestor_within a (suc k) c there =
      ap (λ (r : Option Class). option_map_or (λ row. (a == c) || list_any (is_ancestor_within k new.rows a) (parents row)) r false) (row_stays c there)
      ∙ ancestor_row a k c (λ p below. ancestor_within a k p below) there (slice_get old.rows c) refl

  pub ancestor_stays : (a c : ℕ) → IsThere old c → is_ancestor new a c ≡ is_ancestor old a c
  ancestor_stays a c there = ancestor_within a (c + 1) c there

  pub proper_ancestor_stays : (a c : ℕ) → IsThere old c → is_proper_ancestor new a c ≡ is_proper_ancestor old a c
  proper_ancestor_stays a c there = ap (λ (b : Bool). not (a == c) && b) (ancestor_stays a c there)

  ancestors_there : (c : ℕ) → IsThere old c → AllByRecursion (IsThere old) (ancestors old.rows c)
  ancestors_there c there =
      all_filter (IsThere old) (λ a. is_ancestor_within (c + 1) old.rows a c) (range_with_len 0 (c + 1)) (all_range (length old.rows) 0 (c + 1) (omega arith))

  -- ---- superclasses

  chain_row : (k c : ℕ) → ((s : ℕ) → IsThere old s → superclasses_within k new.rows s ≡ superclasses_within k old.rows s) → IsThere old c
      → (r : Option Class) → slice_get old.rows c ≡ r
      → option_map_or (λ row. c ∷ option_map_or (superclasses_within k new.rows) row.superclass []) r []
      ≡ option_map_or (λ row. c ∷ option_map_or (superclasses_within k old.rows) row.superclass []) r []
  chain_row k c ih there None e = refl
  chain_row k c ih there (Some row) e = ap (λ (xs : List ℕ). c ∷ xs) (by_superclass row.superclass refl)
    where
      by_superclass : (o : Option ℕ) → row.superclass ≡ o
          → option_map_or (superclasses_within k new.rows) o [] ≡ option_map_or (superclasses_within k old.rows) o []
      by_superclass None is = refl
      by_superclass (Some s) is = let below = superclass_below old.rows good.ordered c row e s is in ih s (omega arith)

  chain_within : (k c : ℕ) → IsThere old c → superclasses_within k new.rows c ≡ superclasses_within k old.rows c
  chain_within zero c there = refl
  chain_within (suc k) c there =
      ap (λ (r : Option Class). option_map_or (λ row. c ∷ option_map_or (superclasses_within k new.rows) row.superclass []) r []) (row_stays c there)
      ∙ chain_row k c (λ s below. chain_within k s below) there (slice_get old.rows c) refl

  pub superclasses_stay : (c : ℕ) → IsThere old c → superclasses new c ≡ superclasses old c
  superclasses_stay c there = chain_within (c + 1) c there

  pub superclasses_there : (c : ℕ) → AllByRecursion (IsThere old) (superclasses old c)
  superclasses_there c = chain_there old.rows (c + 1) c

  pub subclass_stays : (x y : ℕ) → IsThere old x → is_subclass new x y ≡ is_subclass old x y
  subclass_stays x y there = ap (list_any (λ c. c == y)) (superclasses_stay x there)

  pub proper_subclass_stays : (x y : ℕ) → IsThere old x → is_proper_subclass new x y ≡ is_proper_subclass old x y
  proper_subclass_stays x y there = ap (λ (b : Bool). not (x == y) && b) (subclass_stays x y there)

  -- ---- superinterface methods

  pub interface_stays : (c : ℕ) → IsThere old c → is_interface new c ≡ is_interface old c
  interface_stays c there = test_stays (λ row. has_flag row.file.flags INTERFACE) c there

  superinterfaces_stay : (c : ℕ) → IsThere old c → superinterfaces new c ≡ superinterfaces old c
  superinterfaces_stay c there =
      ap (filter (is_other_interface new c)) (stays.ancestors c there)
      ∙ filter_same (IsThere old) (is_other_interface new c) (is_other_interface old c)
      (λ k above. ap (λ (b : Bool). b && not (k == c)) (interface_stays k above))
      (ancestors old.rows c) (ancestors_there c there)

  superinterfaces_there : (c : ℕ) → IsThere old c → AllByRecursion (IsThere old) (superinterfaces old c)
  superinterfaces_there c there = all_filter (IsThere old) (is_other_interface old c) (ancestors old.rows c) (ancestors_there c there)

  module _ (name ty : List ℕ) (c : ℕ) (there : IsThere old c) where
    declarations_there : AllByRecursion (IsOfThere old) (filter_map (declared old name ty) (superinterfaces old c))
    declarations_there =
        all_found (IsThere old) (IsOfThere old) (declared old name ty) (λ k above. declared_there name ty k above) (superinterfaces old c)
        (superinterfaces_there c there)

    pub candidates_there : AllByRecursion (IsOfThere old) (candidates old name ty c)
    candidates_there = all_filter (IsOfThere old) (is_inherited old) (filter_map (declared old name ty) (superinterfaces old c)) declarations_there

    pub candidates_stay : candidates new name ty c ≡ candidates old name ty c
    candidates_stay =
        ap (λ (ks : List ℕ). filter (is_inherited new) (filter_map (declared new name ty) ks)) (superinterfaces_stay c there)
        ∙ ap (filter (is_inherited new))
        (found_same (IsThere old) (declared new name ty) (declared old name ty) (λ k above. declared_stays name ty k above) (superinterfaces old c)
        (superinterfaces_there c there))
        ∙ filter_same (IsOfThere old) (is_inherited new) (is_inherited old) (λ m at. λ i. not (private_stays m at i || static_stays m at i))
        (filter_map (declared old name ty) (superinterfaces old c)) declarations_there

    max_specific_there : AllByRecursion (IsOfThere old) (max_specific old name ty c)
    max_specific_there = all_filter (IsOfThere old) (λ m. not (is_redeclared old name ty c m.class)) (candidates old name ty c) candidates_there

    redeclared_stays : (k : ℕ) → is_redeclared new name ty c k ≡ is_redeclared old name ty c k
    redeclared_stays k =
        ap (list_any (λ (other : MethodId). is_proper_ancestor new k other.class)) candidates_stay
        ∙ any_same (IsOfThere old) (λ other. is_proper_ancestor new k other.class) (λ other. is_proper_ancestor old k other.class)
        (λ other at. proper_ancestor_stays k other.class at) (candidates old name ty c) candidates_there

    max_specific_stay : max_specific new name ty c ≡ max_specific old name ty c
    max_specific_stay =
        ap (filter (λ m. not (is_redeclared new name ty c m.class))) candidates_stay
        ∙ filter_same (IsOfThere old) (λ m. not (is_redeclared new name ty c m.class)) (λ m. not (is_redeclared old name ty c m.class))
        (λ m at. ap not (redeclared_stays m.class)) (candidates old name ty c) candidates_there

    pub defaults_there : AllByRecursion (IsOfThere old) (defaults old name ty c)
    defaults_there = all_filter (IsOfThere old) (λ m. not (is_abstract old m)) (max_specific old name ty c) max_specific_there

    pub defaults_stay : defaults new name ty c ≡ defaults old name ty c
    defaults_stay =
        ap (filter (λ m. not (is_abstract new m))) max_specific_stay
        ∙ filter_same (IsOfThere old) (λ m. not (is_abstract new m)) (λ m. not (is_abstract old m)) (λ m at. ap not (abstract_stays m at))
        (max_specific old name ty c) max_specific_there

    -- ---- declarations upward

    pub upward_there : AllByRecursion (IsOfThere old) (filter_map (declared old name ty) (superclasses old c))
    upward_there = all_found (IsThere old) (IsOfThere old) (declared old name ty) (λ k above. declared_there name ty k above) (superclasses old c)
        (superclasses_there c)

    pub upward_stays : filter_map (declared new name ty) (superclasses new c) ≡ filter_map (declared old name ty) (superclasses old c)
    upward_stays =
        ap (filter_map (declared new name ty)) (superclasses_stay c there)
        ∙ found_same (IsThere old) (declared new name ty) (declared old name ty) (λ k above. declared_stays name ty k above) (superclasses old c)
        (superclasses_there c)

  -- ---- java/lang/Object

  module _ (name ty : List ℕ) where
    in_object_there : IfSome (in_object name ty old) (IsOfThere old)
    in_object_there = by_record (lookup old 0 object) (lookup_there 0 object)
      where
        by_record : (o : Option ℕ) → IfSome o (IsThere old) → IfSome (option_and_then (declared old name ty) o) (IsOfThere old)
        by_record None is = tt
        by_record (Some c) is = declared_there name ty c is

    pub declared_in_object_there : IfSome (declared_in_object old name ty) (IsOfThere old)
    declared_in_object_there =
        first_there (IsOfThere old) (filter (is_of_interfaces old) (option_to_list (in_object name ty old)))
        (all_filter (IsOfThere old) (is_of_interfaces old) (option_to_list (in_object name ty old))
        (all_option (IsOfThere old) (in_object name ty old) in_object_there))

    pub declared_in_object_stays : is_retired new 0 ≡ false → (o : ℕ) → lookup old 0 object ≡ Some o
        → declared_in_object new name ty ≡ declared_in_object old name ty
    declared_in_object_stays first o is =
        ap (λ (m : Option MethodId). first_element (filter (is_of_interfaces new) (option_to_list m)))
        (ap (option_and_then (declared new name ty)) (stays.records 0 object o first is)
        ∙ declared_stays name ty o (looked_up old good 0 object o is)
        ∙ sym (ap (option_and_then (declared old name ty)) is))
        ∙ ap first_element
        (filter_same (IsOfThere old) (is_of_interfaces new) (is_of_interfaces old) (λ m at. λ i. public_stays m at i && not (static_stays m at i))
        (option_to_list (in_object name ty old)) (all_option (IsOfThere old) (in_object name ty old) in_object_there))
