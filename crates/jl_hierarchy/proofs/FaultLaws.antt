-- The first fault of a definition, test by test.
use Rattle.std.specs.Prelude.{◌≡◌, ℕ, ◌+◌, ◌<◌, ◌==◌, ◌&&◌, Bool, true, false, cond, not, nat_le, is_none, is_some, List, []}
use Rattle.std.specs.Prelude.{◌∷◌, ◌++◌, find, position, length, slice_get, Option, Some, None, option_map, option_and_then, option_to_list}
use Rattle.std.specs.Prelude.{nat_lt, zero, suc, IfSome, ◌||◌}
use Rattle.std.specs.Bool.{then_some}
use Rattle.std.specs.List.{position_or_len, list_any}
use Rattle.std.specs.Str.{bytes_eq}
use Rattle.std.proofs.Common.{refl, ap, sym, ◌∙◌, arith}
use Rattle.jl_types.proofs.Firsts.{test_none, first_none, first_here, first_later}
use Rattle.std.proofs.lemmas.Grind.{common_steps}
use Rattle.std.proofs.lemmas.List.Folds.{find_at}
use Rattle.std.proofs.lemmas.Option.{slice_get_past}
use Rattle.std.proofs.lemmas.Bool.{or_parts}
use Rattle.jl_class.specs.Class.{ClassFile}
use Rattle.jl_class.specs.Flags.{object}
use Rattle.jl_types.specs.declared.refusal.DefineFault.{DefineFault}
use Rattle.jl_types.specs.declared.refusal.DefineFault.TheVariants.{UnknownLoader, SecondObject, AlreadyRecorded, NamesItself, MissingParent}
use Rattle.jl_types.specs.declared.refusal.DefineFault.TheVariants.{NotAnInterface, InaccessibleParent, Full, SuperIsInterface, FinalSuper}
use Rattle.jl_types.specs.Values.World.{Classes}
use Rattle.jl_types.specs.Values.Members.{lookup, is_interface}
use Rattle.jl_types.specs.Linkage.Resolution.{first_of}
use Rattle.jl_types.specs.Events.Definitions.{is_unknown, parent_names, named_test, is_open_parent, is_open_to, is_final, class_made, define_fault}
use Rattle.jl_hierarchy.specs.Constancy.{MayDefine}
use Rattle.jl_hierarchy.specs.declared.faults.FaultAt.{FaultAt}
use Rattle.jl_hierarchy.specs.declared.faults.FaultAt.TheVariants as found
use Rattle.jl_hierarchy.specs.ForProofs.Faults.{first_faults, superclass_faults, parent_faults, first_place, fault_of, IsThere}
use Rattle.jl_hierarchy.specs.ForProofs.Faults.{is_fit_superclass, is_fit_interface, has_unfit_parent}
use Rattle.jl_hierarchy.proofs.PrintLaws.{none_yet}

-- the first place among the parents
pub place_is : (p : List ℕ → Bool) (o : Option (List ℕ)) (xs : List (List ℕ))
    → position p (option_to_list o ++ xs) ≡ first_place (option_map p o) (position p xs)
place_is p None xs = refl
place_is p (Some name) xs = by_test (p name) refl
  where
    by_test : (b : Bool) → p name ≡ b → position p (name ∷ xs) ≡ first_place (Some b) (position p xs)
    by_test true e = first_here p name xs e
    by_test false e = first_later p name xs e

-- the first element that passes is the one at the first place
first_element : {A : Type 0} (p : A → Bool) (xs : List A) → find p xs ≡ option_and_then (slice_get xs) (position p xs)
first_element p xs = find_at p xs ∙ by_test (nat_lt (position_or_len p xs) (length xs)) refl
  where
    by_test : (b : Bool) → nat_lt (position_or_len p xs) (length xs) ≡ b
        → slice_get xs (position_or_len p xs) ≡ option_and_then (slice_get xs) (cond b (Some (position_or_len p xs)) None)
    by_test true e = refl
    by_test false e = slice_get_past xs (position_or_len p xs) (grind (arith, common_steps))

none_at : {A : Type 0} (p : A → Bool) (xs : List A) → position p xs ≡ None → find p xs ≡ None
none_at p xs e = first_element p xs ∙ ap (option_and_then (slice_get xs)) e

-- an element is found exactly if a place is
as_found : {A : Type 0} (p : A → Bool) (xs : List A) → is_none (find p xs) ≡ is_none (position p xs)
as_found p [] = refl
as_found p (x ∷ xs) = by_test (p x) refl (as_found p xs)
  where
    none_later : (o : Option ℕ) → is_none o ≡ is_none (option_map (λ n. n + 1) o)
    none_later None = refl
    none_later (Some n) = refl

    by_test : (b : Bool) → p x ≡ b → is_none (find p xs) ≡ is_none (position p xs)
        → is_none (cond b (Some x) (find p xs)) ≡ is_none (position p (x ∷ xs))
    by_test true e rest = ap is_none (sym (first_here p x xs e))
    by_test false e rest = rest ∙ none_later (position p xs) ∙ ap is_none (sym (first_later p x xs e))

-- what is found is what is at the first place
named_at : {A B : Type 0} (f : A → B) (p : A → Bool) (xs : List A) (i : ℕ) (rest : List (Option B)) → position p xs ≡ Some i
    → first_of (option_map f (find p xs) ∷ rest) ≡ option_map f (slice_get xs i)
named_at f p xs i rest e =
    by_found (find p xs) (as_found p xs ∙ ap is_none e) ∙ ap (option_map f) (first_element p xs ∙ ap (option_and_then (slice_get xs)) e)
  where
    by_found : (o : Option _) → is_none o ≡ false → first_of (option_map f o ∷ rest) ≡ option_map f o
    by_found None e = cc
    by_found (Some x) e = refl

-- faults that come after none
after : {A : Type 0} (xs ys : List (Option A)) → first_of xs ≡ None → first_of (xs ++ ys) ≡ first_of ys
after [] ys e = refl
after (None ∷ xs) ys e = after xs ys e
after (Some x ∷ xs) ys e = cc

before : {A : Type 0} (xs ys : List (Option A)) (f : A) → first_of xs ≡ Some f → first_of (xs ++ ys) ≡ Some f
before [] ys f e = cc
before (None ∷ xs) ys f e = before xs ys f e
before (Some x ∷ xs) ys f e = e

there : {A B : Type 0} (f : A → B) (xs : List A) (i : ℕ) → i < length xs → is_none (option_map f (slice_get xs i)) ≡ false
there f [] i lt = absurd (omega (arith, lt))
there f (x ∷ xs) zero lt = refl
there f (x ∷ xs) (suc i) lt = there f xs i (omega (arith, lt))

some_before : {A : Type 0} (xs ys : List (Option A)) (o : Option A) → first_of xs ≡ o → is_none o ≡ false → first_of (xs ++ ys) ≡ o
some_before xs ys None e some = cc
some_before xs ys (Some f) e some = before xs ys f e

is_fault : (file : ClassFile) (found : FaultAt) → IsThere file found → is_none (fault_of file found) ≡ false
is_fault file (found.Plain fault) at = refl
is_fault file (found.Missing i) at = there MissingParent (parent_names file) i at
is_fault file (found.NoInterface i) at = there NotAnInterface file.interfaces i at
is_fault file (found.Closed i) at = there InaccessibleParent (parent_names file) i at

-- the definition has a fault exactly if one is found
pub none_where : (most_classes : ℕ) (cs : Classes) (loader : ℕ) (file : ClassFile) (found : Option FaultAt)
    → define_fault most_classes cs loader file ≡ option_and_then (fault_of file) found → IfSome found (IsThere file)
    → is_none found ≡ is_none (define_fault most_classes cs loader file)
none_where most_classes cs loader file None e at = ap is_none (sym e)
none_where most_classes cs loader file (Some found) e at = sym (ap is_none e ∙ is_fault file found at)

-- what no element passes, of two tests of which the second is weaker
none_found : {A : Type 0} (p q : A → Bool) → ((x : A) → q x ≡ false → p x ≡ false) → (xs : List A) → list_any q xs ≡ false → position p xs ≡ None
none_found p q weaker [] e = refl
none_found p q weaker (x ∷ xs) e =
    let both = or_parts (q x) (list_any q xs) e in
    first_later p x xs (weaker x both.0) ∙ ap (option_map (λ n. n + 1)) (none_found p q weaker xs both.1)

none_at_all : {A : Type 0} (p q : A → Bool) → ((x : A) → q x ≡ false → p x ≡ false) → (xs : List A) → list_any q xs ≡ false → list_any p xs ≡ false
none_at_all p q weaker [] e = refl
none_at_all p q weaker (x ∷ xs) e =
    let both = or_parts (q x) (list_any q xs) e in
    ap (λ t. t || list_any p xs) (weaker x both.0) ∙ none_at_all p q weaker xs both.1

-- no parent passes p, if the superclass doesn't pass q and no superinterface passes r, which are weaker
none_of_both : {A : Type 0} (p q r : A → Bool) → ((x : A) → q x ≡ false → p x ≡ false) → ((x : A) → r x ≡ false → p x ≡ false)
    → (o : Option A) (xs : List A) → list_any q (option_to_list o) ≡ false → list_any r xs ≡ false → position p (option_to_list o ++ xs) ≡ None
none_of_both p q r weaker also None xs e f = none_found p r also xs f
none_of_both p q r weaker also (Some x) xs e f =
    first_later p x xs (weaker x (or_parts (q x) false e).0) ∙ ap (option_map (λ n. n + 1)) (none_found p r also xs f)

-- the tests of a parent that is fit
all_three : (a b c : Bool) → not (not a && not b && c) ≡ false → (a ≡ false) × (b ≡ false) × (c ≡ true)
all_three true b c e = cc
all_three false true c e = cc
all_three false false true e = (refl, refl, refl)
all_three false false false e = cc

all_two : (a b : Bool) → not (a && b) ≡ false → (a ≡ true) × (b ≡ true)
all_two true true e = (refl, refl)
all_two true false e = cc
all_two false b e = cc

-- what passes a test is recorded
is_there : (test : ℕ → Bool) (o : Option ℕ) → list_any test (option_to_list o) ≡ true → is_none o ≡ false
is_there test None e = cc
is_there test (Some c) e = refl

module _ (cs : Classes) (loader : ℕ) (file : ClassFile) where
  abbrev is_missing : List ℕ → Bool
  is_missing name = is_none (lookup cs loader name)

  abbrev is_none_such : List ℕ → Bool
  is_none_such name = not (named_test (is_interface cs) cs loader name)

  abbrev is_closed : List ℕ → Bool
  is_closed name = not (is_open_parent cs loader file name)

  abbrev from_closed : List (Option DefineFault)
  from_closed = option_map InaccessibleParent (find is_closed (parent_names file)) ∷ []

  abbrev from_interfaces : List (Option DefineFault)
  from_interfaces = option_map NotAnInterface (find is_none_such file.interfaces) ∷ from_closed

  pub missing_is : (i : ℕ) → position is_missing (parent_names file) ≡ Some i
      → first_of (parent_faults cs loader file) ≡ option_map MissingParent (slice_get (parent_names file) i)
  missing_is i e = named_at MissingParent is_missing (parent_names file) i (superclass_faults cs loader file ++ from_interfaces) e

  -- what is tested before has no fault
  module _ (missing : position is_missing (parent_names file) ≡ None) where
    superclass_next : first_of (parent_faults cs loader file) ≡ first_of (superclass_faults cs loader file ++ from_interfaces)
    superclass_next = ap (λ o. first_of (option_map MissingParent o ∷ superclass_faults cs loader file ++ from_interfaces))
        (none_at is_missing (parent_names file) missing)

    pub superclass_is : (f : DefineFault) → first_of (superclass_faults cs loader file) ≡ Some f → first_of (parent_faults cs loader file) ≡ Some f
    superclass_is f e = superclass_next ∙ before (superclass_faults cs loader file) from_interfaces f e

    module _ (super : first_of (superclass_faults cs loader file) ≡ None) where
      interfaces_next : first_of (parent_faults cs loader file) ≡ first_of from_interfaces
      interfaces_next = superclass_next ∙ after (superclass_faults cs loader file) from_interfaces super

      pub interface_is : (i : ℕ) → position is_none_such file.interfaces ≡ Some i
          → first_of (parent_faults cs loader file) ≡ option_map NotAnInterface (slice_get file.interfaces i)
      interface_is i e = interfaces_next ∙ named_at NotAnInterface is_none_such file.interfaces i from_closed e

      module _ (interfaces : position is_none_such file.interfaces ≡ None) where
        closed_next : first_of (parent_faults cs loader file) ≡ first_of from_closed
        closed_next = interfaces_next ∙ ap (λ o. first_of (option_map NotAnInterface o ∷ from_closed)) (none_at is_none_such file.interfaces interfaces)

        pub closed_is : (i : ℕ) → position is_closed (parent_names file) ≡ Some i
            → first_of (parent_faults cs loader file) ≡ option_map InaccessibleParent (slice_get (parent_names file) i)
        closed_is i e = closed_next ∙ named_at InaccessibleParent is_closed (parent_names file) i [] e

        pub open_is : position is_closed (parent_names file) ≡ None → first_of (parent_faults cs loader file) ≡ None
        open_is e = closed_next ∙ ap (λ o. first_of (option_map InaccessibleParent o ∷ [])) (none_at is_closed (parent_names file) e)

  abbrev unfit_superclass : List ℕ → Bool
  unfit_superclass name = not (is_fit_superclass cs loader file name)

  abbrev unfit_interface : List ℕ → Bool
  unfit_interface name = not (is_fit_interface cs loader file name)

  -- if no parent is unfit, none has a fault
  fit_superclass : (name : List ℕ) → not (is_fit_superclass cs loader file name) ≡ false
      → (is_missing name ≡ false) × (named_test (is_interface cs) cs loader name ≡ false)
      × (named_test (is_final cs) cs loader name ≡ false) × (is_closed name ≡ false)
  fit_superclass name e =
      let parts = all_three (named_test (is_interface cs) cs loader name) (named_test (is_final cs) cs loader name) (is_open_parent cs loader file name) e in
      (is_there (is_open_to cs (class_made cs loader file)) (lookup cs loader name) parts.2, parts.0, parts.1, ap not parts.2)

  fit_interface : (name : List ℕ) → not (is_fit_interface cs loader file name) ≡ false
      → (is_missing name ≡ false) × (is_none_such name ≡ false) × (is_closed name ≡ false)
  fit_interface name e =
      let parts = all_two (named_test (is_interface cs) cs loader name) (is_open_parent cs loader file name) e in
      (is_there (is_open_to cs (class_made cs loader file)) (lookup cs loader name) parts.1, ap not parts.0, ap not parts.1)

  pub none_unfit : has_unfit_parent cs loader file ≡ false → first_of (parent_faults cs loader file) ≡ None
  none_unfit e =
      open_is
      (none_of_both is_missing unfit_superclass unfit_interface (λ x is. (fit_superclass x is).0) (λ x is. (fit_interface x is).0) file.superclass
      file.interfaces both.0 both.1)
      (λ i. first_of (then_some (none_at_all (named_test (is_interface cs) cs loader) unfit_superclass (λ x is. (fit_superclass x is).1)
      (option_to_list file.superclass) both.0 i) SuperIsInterface
      ∷ then_some (none_at_all (named_test (is_final cs) cs loader) unfit_superclass (λ x is. (fit_superclass x is).2)
      (option_to_list file.superclass) both.0 i) FinalSuper ∷ []))
      (none_found is_none_such unfit_interface (λ x is. (fit_interface x is).1) file.interfaces both.1)
      (none_of_both is_closed unfit_superclass unfit_interface (λ x is. (fit_superclass x is).3) (λ x is. (fit_interface x is).2) file.superclass
      file.interfaces both.0 both.1)
    where
      both : (list_any unfit_superclass (option_to_list file.superclass) ≡ false) × (list_any unfit_interface file.interfaces ≡ false)
      both = or_parts (list_any unfit_superclass (option_to_list file.superclass)) (list_any unfit_interface file.interfaces) e

module _ (most_classes : ℕ) (cs : Classes) (loader : ℕ) (file : ClassFile) where
  abbrev from_full : List (Option DefineFault)
  from_full = then_some (nat_le most_classes (length cs.rows)) Full ∷ []

  abbrev from_parents : List (Option DefineFault)
  from_parents = parent_faults cs loader file ++ from_full

  pub first_is : (f : DefineFault) → first_of (first_faults cs loader file) ≡ Some f → define_fault most_classes cs loader file ≡ Some f
  first_is f e = before (first_faults cs loader file) from_parents f e

  -- what is tested before has no fault
  module _ (first : first_of (first_faults cs loader file) ≡ None) where
    pub parent_is : (found : FaultAt) → first_of (parent_faults cs loader file) ≡ fault_of file found → IsThere file found
        → define_fault most_classes cs loader file ≡ fault_of file found
    parent_is found e at =
        after (first_faults cs loader file) from_parents first
        ∙ some_before (parent_faults cs loader file) from_full (fault_of file found) e (is_fault file found at)

    module _ (parents : first_of (parent_faults cs loader file) ≡ None) where
      full_next : define_fault most_classes cs loader file ≡ first_of from_full
      full_next = after (first_faults cs loader file) from_parents first ∙ after (parent_faults cs loader file) from_full parents

      pub full_is : nat_le most_classes (length cs.rows) ≡ true → define_fault most_classes cs loader file ≡ Some Full
      full_is is = full_next ∙ ap (λ b. first_of (then_some b Full ∷ [])) is

      pub accepted_is : nat_le most_classes (length cs.rows) ≡ false → define_fault most_classes cs loader file ≡ None
      accepted_is is = full_next ∙ ap (λ b. first_of (then_some b Full ∷ [])) is

third_none : {A : Type 0} (a b c : Option A) (rest : List (Option A)) → first_of (a ∷ b ∷ c ∷ rest) ≡ None → c ≡ None
third_none None None c rest e = (first_none c rest e).0
third_none None (Some x) c rest e = cc
third_none (Some x) b c rest e = cc

-- the name is new to the loader if the definition has no fault
pub is_new : (cs : Classes) (loader : ℕ) (file : ClassFile) → MayDefine cs loader file → lookup cs loader file.name ≡ None
is_new cs loader file free =
    none_yet (lookup cs loader file.name) (test_none (is_some (lookup cs loader file.name)) AlreadyRecorded (third_none
    (then_some (is_unknown cs loader) UnknownLoader)
    (then_some (bytes_eq file.name object && not (loader == 0)) SecondObject)
    (then_some (is_some (lookup cs loader file.name)) AlreadyRecorded)
    (then_some (list_any (bytes_eq file.name) (parent_names file)) NamesItself ∷ from_parents free.most_classes cs loader file) free.accepted))
