-- What the invocation of a place was resolved to if it selects by the receiver.
use Rattle.std.specs.Prelude.{◌≡◌, ℕ, ◌==◌, Bool, true, false, not, ◌&&◌, ◌||◌, List, [], ◌∷◌, filter_map, position, slice_get, Option, Some, None}
use Rattle.std.specs.Prelude.{option_map, Result, Ok, Err, IfSome, if◌then◌else◌, ⊤}
use Rattle.std.specs.Bool.{beq}
use Rattle.std.specs.List.{AllByRecursion, list_any}
use Rattle.std.specs.Option.{option_map_or}
use Rattle.std.proofs.Common.{refl, ap, sym, subst, ◌∙◌}
use Rattle.std.proofs.lemmas.List.Quantifiers.{position-Some}
use Rattle.std.proofs.lemmas.Option.{slice_get-get_or}
use Rattle.jl_pool.specs.declared.reference.Reference.{Reference}
use Rattle.jl_class.specs.Class.{Method}
use Rattle.jl_class.specs.Site.{Site}
use Rattle.jl_class.specs.declared.site.Kind.{Kind}
use Rattle.jl_class.specs.declared.site.Kind.TheVariants.{Virtual, Special, Static, Interface, Dynamic}
use Rattle.jl_class.specs.declared.site.Operand.{Operand}
use Rattle.jl_class.specs.declared.site.Operand.TheVariants as operand
use Rattle.jl_types.specs.declared.ids.MethodId.{MethodId}
use Rattle.jl_types.specs.declared.ids.Place.{Place}
use Rattle.jl_types.specs.declared.answer.ResolveAnswer.{ResolveAnswer}
use Rattle.jl_types.specs.declared.answer.ResolveAnswer.TheVariants as resolve
use Rattle.jl_types.specs.declared.answer.Throwable.TheVariants.{NoSuchMethodError, IllegalAccessError, IncompatibleClassChangeError}
use Rattle.jl_types.specs.declared.answer.Unlinked.TheVariants.{Gone}
use Rattle.jl_types.specs.Values.World.{Classes}
use Rattle.jl_types.specs.Values.Members.{is_interface, is_present, is_static, is_private, is_abstract, is_called, methods_of}
use Rattle.jl_types.specs.Values.Members.{method_test, declared}
use Rattle.jl_types.specs.Values.Ancestry.{superclasses, superinterfaces, is_proper_ancestor}
use Rattle.jl_types.specs.Linkage.Access.{Access, Allowed, Denied, NotKnown, accessible, is_accessible_class}
use Rattle.jl_types.specs.Linkage.Resolution.{Resolved, resolved, resolved_at, by_access, if_accessible, naming, named_class, found}
use Rattle.jl_types.specs.Linkage.Resolution.{first_element, pick, only, candidates, max_specific, defaults, declared_upward}
use Rattle.jl_types.specs.Linkage.Resolution.{found_in_class, found_in_interface}
use Rattle.jl_types.specs.Linkage.Selection.{is_init}
use Rattle.jl_types.specs.Linkage.Stages.{Selector, ByVirtual, ByInterface, BySpecial, ResolvedCall, Waits, Fails, Calls, Selects}
use Rattle.jl_types.specs.Linkage.Stages.{selecting, by_kind, by_resolution, by_method, by_binding, bound_to, invocation_at, by_operand}
use Rattle.jl_types.specs.Linkage.Stages.{stage_of, stage}
use Rattle.jl_types.specs.Linkage.Targets.{method_of}
use Rattle.jl_resolve.proofs.Unchanged.{all_filter, all_found, first_there, first_of_there}
use Rattle.jl_relink.specs.Placed.{asking}

-- ---- what is declared is called so

abbrev pub IsCalled : Classes → List ℕ → List ℕ → MethodId → Type 0
IsCalled cs name ty m = method_test (is_called name ty) cs m ≡ true

passes_at : (test : Method → Bool) (ms : List Method) (k : ℕ) → position test ms ≡ Some k → option_map_or test (slice_get ms k) false ≡ true
passes_at test [] k e = cc
passes_at test (m ∷ ms) k e =
    let is = position-Some test (m ∷ ms) k m e in ap (λ (o : Option Method). option_map_or test o false) (slice_get-get_or (m ∷ ms) k m is.0) ∙ is.1

pub declared_called : (cs : Classes) (name ty : List ℕ) (c : ℕ) (m : MethodId) → declared cs name ty c ≡ Some m
    → (m.class ≡ c) × IsCalled cs name ty m
declared_called cs name ty c m = by_place (position (is_called name ty) (methods_of cs c)) refl
  where
    by_place : (o : Option ℕ) → position (is_called name ty) (methods_of cs c) ≡ o
        → ◌≡◌ {A = Option MethodId} (option_map (λ i. record { class = c; index = i }) o) (Some m) → (m.class ≡ c) × IsCalled cs name ty m
    by_place None is e = cc
    by_place (Some k) is e =
        let same : ◌≡◌ {A = MethodId} (record { class = c; index = k }) m = cc in
        subst (λ (n : MethodId). (n.class ≡ c) × IsCalled cs name ty n) same (refl, passes_at (is_called name ty) (methods_of cs c) k is)

-- ---- what a reference to a class finds if it is declared upward

pub upward_found : (cs : Classes) (ref : Reference (List ℕ)) (c : ℕ) (m r : MethodId) → ref.itf ≡ false
    → declared_upward cs ref.name ref.ty c ≡ Some m → found cs ref c ≡ Some r → m ≡ r
upward_found cs ref c m r is first at = same_found (sym upward ∙ at)
  where
    same_found : ◌≡◌ {A = Option MethodId} (Some m) (Some r) → m ≡ r
    same_found e = cc

    upward : found cs ref c ≡ Some m
    upward = rw (is, first) refl

-- ---- what an invocation that selects was resolved to

pub record IsResolved (cs : Classes) (i : ResolvedCall) : Type 0 where
  pub kind : beq i.ref.itf (is_interface cs i.named) ≡ true
  pub instance : is_static cs i.method ≡ false
  pub found : found cs i.ref i.named ≡ Some i.method

abbrev IsFound : Classes → Reference (List ℕ) → Resolved → Type 0
IsFound cs ref r = (beq ref.itf (is_interface cs r.named) ≡ true) × (found cs ref r.named ≡ Some r.method)

module _ (cs : Classes) (d : ℕ) (ref : Reference (List ℕ)) where
  resolved_found : (r : Resolved) → resolved cs d ref ≡ Ok r → IsFound cs ref r
  resolved_found r = by_class (named_class cs d ref)
    where
      of_access : (named : ℕ) (m : MethodId) (a : Access) → IsFound cs ref (record { named = named; method = m }) → naming named (by_access m a) ≡ Ok r
          → IsFound cs ref r
      of_access named m Allowed is e =
          let same : ◌≡◌ {A = Resolved} (record { named = named; method = m }) r = cc in subst (IsFound cs ref) same is
      of_access named m Denied is e = cc
      of_access named m (NotKnown missing) is e = cc

      of_found : (named : ℕ) (o : Option MethodId) → beq ref.itf (is_interface cs named) ≡ true → found cs ref named ≡ o
          → naming named (if_accessible cs d named o) ≡ Ok r → IsFound cs ref r
      of_found named None kind is e = cc
      of_found named (Some m) kind is e = of_access named m (accessible cs d named m) (kind, is) e

      by_kind : (named : ℕ) (b : Bool) → beq ref.itf (is_interface cs named) ≡ b
          → naming named (if not b then Err (resolve.Fault IncompatibleClassChangeError) else if_accessible cs d named (found cs ref named)) ≡ Ok r
          → IsFound cs ref r
      by_kind named false kind e = cc
      by_kind named true kind e = of_found named (found cs ref named) kind refl e

      by_public : (named : ℕ) (b : Bool)
          → naming named (if not b then Err (resolve.Fault IllegalAccessError) else (
          if not (beq ref.itf (is_interface cs named)) then Err (resolve.Fault IncompatibleClassChangeError) else if_accessible cs d named
          (found cs ref named))) ≡ Ok r
          → IsFound cs ref r
      by_public named false e = cc
      by_public named true e = by_kind named (beq ref.itf (is_interface cs named)) refl e

      by_class : (o : Option ℕ) → resolved_at cs d ref o ≡ Ok r → IsFound cs ref r
      by_class None e = cc
      by_class (Some named) e = by_public named (is_accessible_class cs d named) e

  module _ (i : ResolvedCall) where
    selecting_found : (selector : Selector) (r : Resolved) → IsFound cs ref r → selecting cs selector d ref r ≡ Selects i → IsResolved cs i
    selecting_found selector r is = by_static (is_static cs r.method) refl
      where
        by_static : (b : Bool) → is_static cs r.method ≡ b
            → (if b then Fails IncompatibleClassChangeError else
            Selects (record { selector = selector; caller = d; named = r.named; ref = ref; method = r.method })) ≡ Selects i
            → IsResolved cs i
        by_static true flag e = cc
        by_static false flag e =
            let same : ◌≡◌ {A = ResolvedCall} (record { selector = selector; caller = d; named = r.named; ref = ref; method = r.method }) i = cc in
            subst (IsResolved cs) same (record { kind = is.0; instance = flag; found = is.1 })

    kind_found : (kind : Kind) (r : Resolved) → IsFound cs ref r → by_kind cs kind d ref r ≡ Selects i → IsResolved cs i
    kind_found Static r is = by_static (is_static cs r.method)
      where
        by_static : (b : Bool) → (if b then Calls r.method else Fails IncompatibleClassChangeError) ≡ Selects i → IsResolved cs i
        by_static true e = cc
        by_static false e = cc
    kind_found Virtual r is = selecting_found ByVirtual r is
    kind_found Interface r is = selecting_found ByInterface r is
    kind_found Special r is = by_init (is_init ref.name && not (r.method.class == r.named))
      where
        by_init : (b : Bool) → (if b then Fails NoSuchMethodError else selecting cs BySpecial d ref r) ≡ Selects i → IsResolved cs i
        by_init true e = cc
        by_init false e = selecting_found BySpecial r is e
    kind_found Dynamic r is = λ e. cc

    reference_found : (kind : Kind) (r : Result Resolved ResolveAnswer) → resolved cs d ref ≡ r → by_resolution cs kind d ref r ≡ Selects i → IsResolved cs i
    reference_found kind (Err (resolve.NotReady missing)) is e = cc
    reference_found kind (Err (resolve.Fault throwable)) is e = cc
    reference_found kind (Ok r) is e = kind_found kind r (resolved_found r is) e

module _ (cs : Classes) (place : Place) (i : ResolvedCall) where
  operand_found : (kind : Kind) (o : Operand (List ℕ)) → by_operand (asking cs place) 0 place.class kind o ≡ Selects i → IsResolved cs i
  operand_found kind (operand.Method ref) e = reference_found cs place.class ref i kind (resolved cs place.class ref) refl e
  operand_found kind (operand.CallSite specifier) e = by_bound (bound_to (asking cs place) 0) e
    where
      by_run : (o : Option MethodId) → by_method o ≡ Selects i → IsResolved cs i
      by_run None e = cc
      by_run (Some m) e = cc

      by_bound : (o : Option ℕ) → by_binding (asking cs place).sites o ≡ Selects i → IsResolved cs i
      by_bound None e = cc
      by_bound (Some c) e = by_run (method_of (asking cs place).sites c) e

  invocation_found : (o : Option Site) → stage_of (asking cs place) 0 place.class o ≡ Selects i → IsResolved cs i
  invocation_found None e = cc
  invocation_found (Some site) e = operand_found site.kind site.operand e

  pub stage_found : stage (asking cs place) 0 ≡ Selects i → IsResolved cs i
  stage_found = by_present (is_present cs place.class)
    where
      by_present : (b : Bool) → (if b then stage_of (asking cs place) 0 place.class (invocation_at cs place) else Waits Gone) ≡ Selects i → IsResolved cs i
      by_present true e = invocation_found (invocation_at cs place) e
      by_present false e = cc

-- ---- and what it finds is called as the reference says

module _ (cs : Classes) (name ty : List ℕ) where
  declared_is : (c : ℕ) → IfSome (declared cs name ty c) (IsCalled cs name ty)
  declared_is c = by_method (declared cs name ty c) refl
    where
      by_method : (o : Option MethodId) → declared cs name ty c ≡ o → IfSome o (IsCalled cs name ty)
      by_method None is = tt
      by_method (Some m) is = (declared_called cs name ty c m is).1

  each : (cs : List ℕ) → AllByRecursion (λ (c : ℕ). ⊤) cs
  each [] = tt
  each (c ∷ cs) = (tt, each cs)

  pub all_called : (xs : List ℕ) → AllByRecursion (IsCalled cs name ty) (filter_map (declared cs name ty) xs)
  all_called xs = all_found (λ (c : ℕ). ⊤) (IsCalled cs name ty) (declared cs name ty) (λ c there. declared_is c) xs (each xs)

  candidates_called : (c : ℕ) → AllByRecursion (IsCalled cs name ty) (candidates cs name ty c)
  candidates_called c =
      all_filter (IsCalled cs name ty) (λ m. not (is_private cs m || is_static cs m)) (filter_map (declared cs name ty) (superinterfaces cs c))
      (all_called (superinterfaces cs c))

  pub defaults_called : (c : ℕ) → AllByRecursion (IsCalled cs name ty) (defaults cs name ty c)
  defaults_called c =
      all_filter (IsCalled cs name ty) (λ m. not (is_abstract cs m)) (max_specific cs name ty c)
      (all_filter (IsCalled cs name ty) (λ m. not (list_any (λ (other : MethodId). is_proper_ancestor cs m.class other.class) (candidates cs name ty c)))
      (candidates cs name ty c) (candidates_called c))

  only_called : (ms : List MethodId) → AllByRecursion (IsCalled cs name ty) ms → IfSome (only (pick ms)) (IsCalled cs name ty)
  only_called [] all = tt
  only_called (m ∷ []) all = all.0
  only_called (m ∷ n ∷ ms) all = tt

  in_class_called : (c : ℕ) → IfSome (found_in_class cs name ty c) (IsCalled cs name ty)
  in_class_called c =
      first_of_there (IsCalled cs name ty)
      (declared_upward cs name ty c ∷ only (pick (defaults cs name ty c)) ∷ first_element (candidates cs name ty c) ∷ []) (
        first_there (IsCalled cs name ty) (filter_map (declared cs name ty) (superclasses cs c)) (all_called (superclasses cs c)),
        (
          only_called (defaults cs name ty c) (defaults_called c),
          (first_there (IsCalled cs name ty) (candidates cs name ty c) (candidates_called c), tt),
        ),
      )

-- if the reference names a class
pub found_called : (cs : Classes) (ref : Reference (List ℕ)) (c : ℕ) (r : MethodId) → ref.itf ≡ false → found cs ref c ≡ Some r
    → IsCalled cs ref.name ref.ty r
found_called cs ref c r is at = subst (λ (o : Option MethodId). IfSome o (IsCalled cs ref.name ref.ty)) found_here (in_class_called cs ref.name ref.ty c)
  where
    found_here : found_in_class cs ref.name ref.ty c ≡ Some r
    found_here = sym (ap (λ (b : Bool). if b then found_in_interface cs ref.name ref.ty c else found_in_class cs ref.name ref.ty c) is) ∙ at
