-- What was resolved stays so when classes are added.
use Rattle.std.specs.Prelude.{◌≡◌, ℕ, Bool, true, false, not, ◌&&◌, ◌||◌, ◌==◌, List, [], ◌∷◌, filter_map, slice_get}
use Rattle.std.specs.Prelude.{Option, Some, None, option_and_then, IfSome, Result, Ok, Err, if◌then◌else◌}
use Rattle.std.specs.Bool.{beq}
use Rattle.std.specs.List.{AllByRecursion}
use Rattle.std.specs.Option.{option_map_or}
use Rattle.std.proofs.Common.{refl, ap, sym, subst, ◌∙◌}
use Rattle.std.proofs.lemmas.Option.{slice_get_within}
use Rattle.jl_pool.specs.declared.reference.Reference.{Reference}
use Rattle.jl_class.specs.Flags.{has_flag, object, PUBLIC}
use Rattle.jl_types.specs.declared.ids.MethodId.{MethodId}
use Rattle.jl_types.specs.declared.answer.ResolveAnswer.{ResolveAnswer}
use Rattle.jl_types.specs.declared.answer.ResolveAnswer.TheVariants.{NotReady, Fault}
use Rattle.jl_types.specs.declared.answer.Throwable.TheVariants.{IllegalAccessError, IncompatibleClassChangeError}
use Rattle.jl_types.specs.Values.World.{Class, Classes}
use Rattle.jl_types.specs.Values.Members.{is_retired, declared, lookup, is_interface, is_public, is_private}
use Rattle.jl_types.specs.Values.Ancestry.{AreOrdered, superclasses}
use Rattle.jl_types.specs.Linkage.Access.{Access, Allowed, Denied, NotKnown, is_accessible_class, nest_host, same_nest, by_subclass, by_package}
use Rattle.jl_types.specs.Linkage.Access.{by_nest, accessible}
use Rattle.jl_types.specs.Linkage.Resolution.{first_of, first_element, pick, only, candidates, defaults, declared_upward, declared_in_object}
use Rattle.jl_types.specs.Linkage.Resolution.{found_in_class, found_in_interface, found}
use Rattle.jl_types.specs.Linkage.Resolution.{by_access, if_accessible, resolved_in, naming, resolved_at, resolved}
use Rattle.jl_types.proofs.Orders.{IsGood, looked_up}
use Rattle.jl_hierarchy.specs.Constancy.{Stays, IsClosed}
use Rattle.jl_resolve.specs.Constancy.{is_settled, RecordsObject, SettledStays}
use Rattle.jl_resolve.proofs.Present.{IsPresent, IsOfPresent, found_present}
use Rattle.jl_resolve.proofs.Unchanged.{IsThere, IsOfThere, first_there, first_of_there, test_stays, package_stays, interface_stays, declared_stays}
use Rattle.jl_resolve.proofs.Unchanged.{declared_there, subclass_stays}
use Rattle.jl_resolve.proofs.Unchanged.{public_stays, private_stays, protected_stays, static_stays, package_private_stays}
use Rattle.jl_resolve.proofs.Unchanged.{candidates_there, candidates_stay, defaults_there, defaults_stay, upward_there, upward_stays}
use Rattle.jl_resolve.proofs.Unchanged.{declared_in_object_there, declared_in_object_stays}

only_there : (cs : Classes) (ms : List MethodId) → AllByRecursion (IsOfThere cs) ms → IfSome (only (pick ms)) (IsOfThere cs)
only_there cs [] all = tt
only_there cs (m ∷ []) all = all.0
only_there cs (m ∷ n ∷ ms) all = tt

not_true : (b : Bool) → not b ≡ true → b ≡ false
not_true true e = cc
not_true false e = refl

-- ---- what doesn't depend on a missing class

abbrev is_known : Access → Bool
is_known Allowed = true
is_known Denied = true
is_known (NotKnown missing) = false

past_access : (b : Bool) (r x y : Access) → (is_known y ≡ true → x ≡ y) → is_known (if b then r else y) ≡ true → (if b then r else x) ≡ (if b then r else y)
past_access true r x y h known = refl
past_access false r x y h known = h known

past_fault : (b : Bool) (r x y : Result MethodId ResolveAnswer) → (b ≡ false → is_settled y ≡ true → x ≡ y)
    → is_settled (if b then r else y) ≡ true → (if b then r else x) ≡ (if b then r else y)
past_fault true r x y h settled = refl
past_fault false r x y h settled = h refl settled

known_access : (m : MethodId) (access : Access) → is_settled (by_access m access) ≡ true → is_known access ≡ true
known_access m Allowed h = refl
known_access m Denied h = refl
known_access m (NotKnown missing) h = h

naming_stays : (named : ℕ) (x y : Result MethodId ResolveAnswer) → (is_settled y ≡ true → x ≡ y) → is_settled (naming named y) ≡ true
    → naming named x ≡ naming named y
naming_stays named x (Ok m) h settled = ap (naming named) (h refl)
naming_stays named x (Err (Fault throwable)) h settled = ap (naming named) (h refl)
naming_stays named x (Err (NotReady missing)) h settled = cc

is_kind : (b : Bool) → not (beq true b) ≡ false → b ≡ true
is_kind true h = refl
is_kind false h = cc

module _ (old new : Classes) (stays : Stays old new) (good : IsGood old) (ordered : AreOrdered new.rows) (closed : IsClosed new) where
  -- ---- what a reference finds

  module _ (name ty : List ℕ) (c : ℕ) (there : IsThere old c) where
    in_class_there : IfSome (found_in_class old name ty c) (IsOfThere old)
    in_class_there =
        first_of_there (IsOfThere old) (declared_upward old name ty c ∷ only (pick (defaults old name ty c)) ∷ first_element (candidates old name ty c) ∷ []) (
          first_there (IsOfThere old) (filter_map (declared old name ty) (superclasses old c)) (upward_there old new stays good name ty c there),
          (
            only_there old (defaults old name ty c) (defaults_there old new stays good name ty c there),
            (first_there (IsOfThere old) (candidates old name ty c) (candidates_there old new stays good name ty c there), tt),
          ),
        )

    in_class_stays : found_in_class new name ty c ≡ found_in_class old name ty c
    in_class_stays = λ i. first_of (
        first_element (upward_stays old new stays good name ty c there i)
        ∷ only (pick (defaults_stay old new stays good name ty c there i))
        ∷ first_element (candidates_stay old new stays good name ty c there i)
        ∷ [])

    in_interface_there : IfSome (found_in_interface old name ty c) (IsOfThere old)
    in_interface_there =
        first_of_there (IsOfThere old)
        (declared old name ty c ∷ declared_in_object old name ty ∷ only (pick (defaults old name ty c)) ∷ first_element (candidates old name ty c) ∷ []) (
          declared_there old new stays good name ty c there,
          (
            declared_in_object_there old new stays good name ty,
            (
              only_there old (defaults old name ty c) (defaults_there old new stays good name ty c there),
              (first_there (IsOfThere old) (candidates old name ty c) (candidates_there old new stays good name ty c there), tt),
            ),
          ),
        )

    in_interface_stays : (o : ℕ) → lookup old 0 object ≡ Some o → found_in_interface new name ty c ≡ found_in_interface old name ty c
    in_interface_stays o is = λ i. first_of (
        declared_stays old new stays good name ty c there i
        ∷ declared_in_object_stays old new stays good name ty closed.first o is i
        ∷ only (pick (defaults_stay old new stays good name ty c there i))
        ∷ first_element (candidates_stay old new stays good name ty c there i)
        ∷ [])

  found_there : (ref : Reference (List ℕ)) (c : ℕ) → IsThere old c → IfSome (found old ref c) (IsOfThere old)
  found_there ref c there = by_kind ref.itf
    where
      by_kind : (itf : Bool) → IfSome (if itf then found_in_interface old ref.name ref.ty c else found_in_class old ref.name ref.ty c) (IsOfThere old)
      by_kind true = in_interface_there ref.name ref.ty c there
      by_kind false = in_class_there ref.name ref.ty c there

  found_stays : RecordsObject old → (ref : Reference (List ℕ)) (c : ℕ) → IsThere old c → not (beq ref.itf (is_interface old c)) ≡ false
      → found new ref c ≡ found old ref c
  found_stays recorded ref c there kind = by_kind ref.itf kind
    where
      by_kind : (itf : Bool) → not (beq itf (is_interface old c)) ≡ false
          → (if itf then found_in_interface new ref.name ref.ty c else found_in_class new ref.name ref.ty c)
          ≡ (if itf then found_in_interface old ref.name ref.ty c else found_in_class old ref.name ref.ty c)
      by_kind true h = let o = recorded c (is_kind (is_interface old c) h) in in_interface_stays ref.name ref.ty c there o.0 o.1
      by_kind false h = in_class_stays ref.name ref.ty c there

  -- ---- access

  module _ (d : ℕ) (caller : IsThere old d) (mine : IsPresent new d) (named : ℕ) (there : IsThere old named) (alive : IsPresent new named) where
    accessible_class_stays : is_accessible_class new d named ≡ is_accessible_class old d named
    accessible_class_stays =
        λ i. test_stays old new stays good (λ row. has_flag row.file.flags PUBLIC) named there i || package_stays old new stays good named d there caller i

    module _ (m : MethodId) (at : IsOfThere old m) (present : IsOfPresent new m) where
      by_subclass_stays : by_subclass new d named m ≡ by_subclass old d named m
      by_subclass_stays =
          λ i. protected_stays old new stays good m at i && (subclass_stays old new stays good d m.class caller i && (static_stays old new stays good m at i
          || (subclass_stays old new stays good named d there i || subclass_stays old new stays good d named caller i)))

      by_package_stays : by_package new d m ≡ by_package old d m
      by_package_stays =
          λ i. (protected_stays old new stays good m at i || package_private_stays old new stays good m at i)
          && package_stays old new stays good m.class d at caller i

      same_nest_stays : (h k : Option ℕ) → nest_host old d ≡ h → nest_host old m.class ≡ k → is_known (same_nest h k) ≡ true
          → same_nest (nest_host new d) (nest_host new m.class) ≡ same_nest h k
      same_nest_stays None k e f known = cc
      same_nest_stays (Some h) None e f known = cc
      same_nest_stays (Some h) (Some k) e f known = λ i. same_nest (stays.hosts d h mine e i) (stays.hosts m.class k present f i)

      by_nest_stays : is_known (by_nest old d m) ≡ true → by_nest new d m ≡ by_nest old d m
      by_nest_stays known =
          let before = same_nest (nest_host old d) (nest_host old m.class) in
          let now = same_nest (nest_host new d) (nest_host new m.class) in
          ap (λ (b : Bool). if not b then Denied else (if m.class == d then Allowed else now)) (private_stays old new stays good m at)
          ∙ past_access (not (is_private old m)) Denied (if m.class == d then Allowed else now) (if m.class == d then Allowed else before)
          (past_access (m.class == d) Allowed now before (same_nest_stays (nest_host old d) (nest_host old m.class) refl refl)) known

      accessible_stays : is_known (accessible old d named m) ≡ true → accessible new d named m ≡ accessible old d named m
      accessible_stays known =
          (λ i. if public_stays old new stays good m at i || (by_subclass_stays i || by_package_stays i) then Allowed else by_nest new d m)
          ∙ past_access (is_public old m || (by_subclass old d named m || by_package old d m)) Allowed (by_nest new d m) (by_nest old d m) by_nest_stays known

    if_accessible_stays : (o : Option MethodId) → IfSome o (IsOfThere old) → IfSome o (IsOfPresent new) → is_settled (if_accessible old d named o) ≡ true
        → if_accessible new d named o ≡ if_accessible old d named o
    if_accessible_stays None at present settled = refl
    if_accessible_stays (Some m) at present settled = ap (by_access m) (accessible_stays m at present (known_access m (accessible old d named m) settled))

    -- ---- resolution

    resolved_in_stays : RecordsObject old → (ref : Reference (List ℕ)) → is_settled (resolved_in old d ref named) ≡ true
        → resolved_in new d ref named ≡ resolved_in old d ref named
    resolved_in_stays recorded ref settled =
        let other = not (beq ref.itf (is_interface old named)) in
        let before = if_accessible old d named (found old ref named) in
        let now = if_accessible new d named (found new ref named) in
        (λ i. if not (accessible_class_stays i) then Err (Fault IllegalAccessError) else (
        if not (beq ref.itf (interface_stays old new stays good named there i)) then Err (Fault IncompatibleClassChangeError) else now))
        ∙ past_fault (not (is_accessible_class old d named)) (Err (Fault IllegalAccessError))
        (if other then Err (Fault IncompatibleClassChangeError) else now) (if other then Err (Fault IncompatibleClassChangeError) else before)
        (λ is. past_fault other (Err (Fault IncompatibleClassChangeError)) now before
        (λ kind end.
        let same = found_stays recorded ref named there kind in
        ap (if_accessible new d named) same
        ∙ if_accessible_stays (found old ref named) (found_there ref named there)
        (subst (λ (o : Option MethodId). IfSome o (IsOfPresent new)) same (found_present new ordered closed ref named alive)) end))
        settled

  resolved_stays : RecordsObject old → (d : ℕ) (ref : Reference (List ℕ)) → IsPresent new d → is_settled (resolved old d ref) ≡ true
      → resolved new d ref ≡ resolved old d ref
  resolved_stays recorded d ref mine settled = by_row (slice_get old.rows d) refl settled
    where
      by_name : (row : Class) → slice_get old.rows d ≡ Some row → (o : Option ℕ) → lookup old row.loader ref.owner ≡ o
          → is_settled (resolved_at old d ref o) ≡ true → resolved new d ref ≡ resolved_at old d ref o
      by_name row e None is h = cc
      by_name row e (Some named) is h =
          let loader : is_retired new row.loader ≡ false =
          not_true (is_retired new row.loader) (sym (ap (λ (o : Option Class). option_map_or (λ r. not (is_retired new r.loader)) o false) (stays.rows d row e))
          ∙ mine)
          in
          let now = stays.records row.loader ref.owner named loader is in
          ap (resolved_at new d ref) (ap (option_and_then (λ r. lookup new r.loader ref.owner)) (stays.rows d row e) ∙ now)
          ∙ naming_stays named (resolved_in new d ref named) (resolved_in old d ref named)
          (resolved_in_stays d (slice_get_within old.rows d row e) mine named (looked_up old good row.loader ref.owner named is)
          (closed.records row.loader ref.owner named loader now) recorded ref) h

      by_row : (r : Option Class) → slice_get old.rows d ≡ r → is_settled (resolved_at old d ref (option_and_then (λ row. lookup old row.loader ref.owner) r))
          ≡ true
          → resolved new d ref ≡ resolved_at old d ref (option_and_then (λ row. lookup old row.loader ref.owner) r)
      by_row None e h = cc
      by_row (Some row) e h = by_name row e (lookup old row.loader ref.owner) refl h

-- what was resolved stays, where each interface came after java/lang/Object
pub settled_stays : (old new : Classes) → Stays old new → IsGood old → AreOrdered new.rows → IsClosed new → RecordsObject old → SettledStays old new
settled_stays old new stays good ordered closed recorded =
    record { resolved = λ d ref mine settled. resolved_stays old new stays good ordered closed recorded d ref mine settled }
