-- What references resolve to is under new numbers what it was, for callers of classes that are present.
use Rattle.std.specs.Prelude.{◌≡◌, ℕ, Bool, true, false, not, ◌&&◌, ◌||◌, All, List, [], ◌∷◌, map, filter, filter_map, position}
use Rattle.std.specs.Prelude.{Option, Some, None, option_map, option_and_then, option_to_list, IfSome, Result, Ok, Err, if◌then◌else◌}
use Rattle.std.specs.Bool.{beq}
use Rattle.std.specs.List.{list_any}
use Rattle.std.proofs.Common.{refl, ap, sym, subst, ◌∙◌}
use Rattle.std.proofs.lemmas.List.Elements.{All-nil, All-cons}
use Rattle.std.proofs.lemmas.Option.{same_Some}
use Rattle.jl_pool.specs.declared.reference.Reference.{Reference}
use Rattle.jl_class.specs.Flags.{object}
use Rattle.jl_types.specs.declared.ids.MethodId.{MethodId}
use Rattle.jl_types.specs.declared.answer.ResolveAnswer.{ResolveAnswer}
use Rattle.jl_types.specs.declared.answer.ResolveAnswer.TheVariants.{Fault}
use Rattle.jl_types.specs.declared.answer.Throwable.TheVariants.{IllegalAccessError, IncompatibleClassChangeError}
use Rattle.jl_types.specs.Values.World.{Class, Classes}
use Rattle.jl_types.specs.Values.Members.{is_present, is_interface, is_public, is_private, is_static, is_abstract, is_called, methods_of, lookup, declared}
use Rattle.jl_types.specs.Values.Ancestry.{superclasses, superinterfaces, is_proper_ancestor}
use Rattle.jl_types.specs.Linkage.Access.{Access, Allowed, Denied, NotKnown, accessible, is_accessible_class}
use Rattle.jl_types.specs.Linkage.Resolution.{first_of, first_element, pick, only, candidates, max_specific, defaults, declared_upward, declared_in_object}
use Rattle.jl_types.specs.Linkage.Resolution.{found_in_class, found_in_interface, found}
use Rattle.jl_types.specs.Linkage.Resolution.{Resolved, by_access, if_accessible, resolved_in, named_class, naming, resolved_at, resolved}
use Rattle.jl_resolve.proofs.Present.{IsPresent, IsOfPresent, found_present}
use Rattle.jl_renewal.specs.Numbers.{Numbers, renumbered}
use Rattle.jl_renewal.specs.Renewed.{renumbered_method}
use Rattle.jl_renewal.proofs.Alike.{AreAlike}
use Rattle.jl_renewal.proofs.AlikeLists.{All-filter, All-filter_map, filter_alike, filter_map_alike, any_alike, first_alike_element, first_alike, first_of_all}
use Rattle.jl_renewal.proofs.AccessLaws.{row_of, public_same, private_same, static_same, abstract_same, accessible_class_same, accessible_same}

-- what is resolved, under new numbers
abbrev pub renumbered_resolved : Numbers → Result Resolved ResolveAnswer → Result Resolved ResolveAnswer
renumbered_resolved n (Ok r) = Ok (record { named = renumbered n.classes r.named; method = renumbered_method n r.method })
renumbered_resolved n (Err answer) = Err answer

abbrev renumbered_found : Numbers → Result MethodId ResolveAnswer → Result MethodId ResolveAnswer
renumbered_found n (Ok m) = Ok (renumbered_method n m)
renumbered_found n (Err answer) = Err answer

-- what a present class declares is of it
pub declared_present : (cs : Classes) (name ty : List ℕ) (c : ℕ) (m : MethodId) → is_present cs c ≡ true → declared cs name ty c ≡ Some m
    → is_present cs m.class ≡ true
declared_present cs name ty c m present is = by_place (position (is_called name ty) (methods_of cs c)) is
  where
    by_place : (o : Option ℕ) → ◌≡◌ {A = Option MethodId} (option_map (λ k. record { class = c; index = k }) o) (Some m) → is_present cs m.class ≡ true
    by_place None e = cc
    by_place (Some k) e = subst (IsOfPresent cs) (same_Some {A = MethodId} (record { class = c; index = k }) m e) present

same_Ok : (q r : Resolved) → ◌≡◌ {A = Result Resolved ResolveAnswer} (Ok q) (Ok r) → q ≡ r
same_Ok q r e = cc

module _ (n : Numbers) (cs ds : Classes) (alike : AreAlike n cs ds) where
  abbrev ren : ℕ → ℕ
  ren = renumbered n.classes

  abbrev ren_method : MethodId → MethodId
  ren_method = renumbered_method n

  -- ---- superinterface methods

  module _ (name ty : List ℕ) (c : ℕ) (present : is_present cs c ≡ true) where
    declarations_present : All (IsOfPresent cs) (filter_map (declared cs name ty) (superinterfaces cs c))
    declarations_present =
        All-filter_map (IsPresent cs) (IsOfPresent cs) (declared cs name ty) (declared_present cs name ty)
        (superinterfaces cs c) (alike.above_present c present)

    declarations_same : filter_map (declared ds name ty) (superinterfaces ds (ren c)) ≡ map ren_method (filter_map (declared cs name ty) (superinterfaces cs c))
    declarations_same =
        ap (filter_map (declared ds name ty)) (alike.above c present)
        ∙ filter_map_alike ren ren_method (IsPresent cs) (declared ds name ty) (declared cs name ty) (alike.declares name ty)
        (superinterfaces cs c) (alike.above_present c present)

    candidates_present : All (IsOfPresent cs) (candidates cs name ty c)
    candidates_present =
        All-filter (λ m. not (is_private cs m || is_static cs m)) (IsOfPresent cs) (filter_map (declared cs name ty) (superinterfaces cs c))
        declarations_present

    max_specific_present : All (IsOfPresent cs) (max_specific cs name ty c)
    max_specific_present =
        All-filter (λ m. not (list_any (λ other. is_proper_ancestor cs m.class other.class) (candidates cs name ty c))) (IsOfPresent cs)
        (candidates cs name ty c) candidates_present

    pub defaults_present : All (λ m. is_present cs m.class ≡ true) (defaults cs name ty c)
    defaults_present = All-filter (λ m. not (is_abstract cs m)) (IsOfPresent cs) (max_specific cs name ty c) max_specific_present

    pub candidates_same : candidates ds name ty (ren c) ≡ map ren_method (candidates cs name ty c)
    candidates_same =
        ap (filter (λ m. not (is_private ds m || is_static ds m))) declarations_same
        ∙ filter_alike ren_method (IsOfPresent cs) (λ m. not (is_private ds m || is_static ds m)) (λ m. not (is_private cs m || is_static cs m))
        (λ m at i. not (private_same n cs ds alike m at i || static_same n cs ds alike m at i))
        (filter_map (declared cs name ty) (superinterfaces cs c)) declarations_present

    -- whether a subinterface declares another
    redeclared_same : (m : MethodId) → is_present cs m.class ≡ true
        → list_any (λ other. is_proper_ancestor ds (ren m.class) other.class) (candidates ds name ty (ren c))
        ≡ list_any (λ other. is_proper_ancestor cs m.class other.class) (candidates cs name ty c)
    redeclared_same m at =
        ap (list_any (λ (other : MethodId). is_proper_ancestor ds (ren m.class) other.class)) candidates_same
        ∙ any_alike ren_method (IsOfPresent cs) (λ other. is_proper_ancestor ds (ren m.class) other.class)
        (λ other. is_proper_ancestor cs m.class other.class) (λ other there. alike.proper_ancestors m.class other.class at there)
        (candidates cs name ty c) candidates_present

    max_specific_same : max_specific ds name ty (ren c) ≡ map ren_method (max_specific cs name ty c)
    max_specific_same =
        ap (filter (λ m. not (list_any (λ (other : MethodId). is_proper_ancestor ds m.class other.class) (candidates ds name ty (ren c)))))
        candidates_same
        ∙ filter_alike ren_method (IsOfPresent cs)
        (λ m. not (list_any (λ (other : MethodId). is_proper_ancestor ds m.class other.class) (candidates ds name ty (ren c))))
        (λ m. not (list_any (λ (other : MethodId). is_proper_ancestor cs m.class other.class) (candidates cs name ty c)))
        (λ m at. ap not (redeclared_same m at)) (candidates cs name ty c) candidates_present

    pub defaults_same : defaults ds name ty (ren c) ≡ map ren_method (defaults cs name ty c)
    defaults_same =
        ap (filter (λ m. not (is_abstract ds m))) max_specific_same
        ∙ filter_alike ren_method (IsOfPresent cs) (λ m. not (is_abstract ds m)) (λ m. not (is_abstract cs m))
        (λ m at. ap not (abstract_same n cs ds alike m at)) (max_specific cs name ty c) max_specific_present

    -- ---- declarations upward

    pub upward_methods_present : All (λ m. is_present cs m.class ≡ true) (filter_map (declared cs name ty) (superclasses cs c))
    upward_methods_present =
        All-filter_map (IsPresent cs) (IsOfPresent cs) (declared cs name ty) (declared_present cs name ty)
        (superclasses cs c) (alike.upward_present c present)

    pub upward_same : filter_map (declared ds name ty) (superclasses ds (ren c)) ≡ map ren_method (filter_map (declared cs name ty) (superclasses cs c))
    upward_same =
        ap (filter_map (declared ds name ty)) (alike.upward c present)
        ∙ filter_map_alike ren ren_method (IsPresent cs) (declared ds name ty) (declared cs name ty) (alike.declares name ty)
        (superclasses cs c) (alike.upward_present c present)

  -- ---- java/lang/Object

  module _ (name ty : List ℕ) where
    -- it is found by loader 0, so it is present
    first_present : (c : ℕ) → lookup cs 0 object ≡ Some c → is_present cs c ≡ true
    first_present c is = alike.embeds.closed.records 0 object c alike.embeds.closed.first is

    declared_by_first : (o : Option ℕ) → lookup cs 0 object ≡ o
        → option_and_then (declared ds name ty) (option_map ren o) ≡ option_map ren_method (option_and_then (declared cs name ty) o)
    declared_by_first None is = refl
    declared_by_first (Some c) is = alike.declares name ty c (first_present c is)

    listed_by_first : (o : Option ℕ) → lookup cs 0 object ≡ o → All (IsOfPresent cs) (option_to_list (option_and_then (declared cs name ty) o))
    listed_by_first None is = All-nil (IsOfPresent cs)
    listed_by_first (Some c) is = by_method (declared cs name ty c) refl
      where
        by_method : (o : Option MethodId) → declared cs name ty c ≡ o → All (IsOfPresent cs) (option_to_list o)
        by_method None e = All-nil (IsOfPresent cs)
        by_method (Some m) e = All-cons (IsOfPresent cs) m [] (declared_present cs name ty c m (first_present c is) e) (All-nil (IsOfPresent cs))

    listed : (o : Option MethodId) → option_to_list (option_map ren_method o) ≡ map ren_method (option_to_list o)
    listed None = refl
    listed (Some m) = refl

    pub in_object_same : declared_in_object ds name ty ≡ option_map ren_method (declared_in_object cs name ty)
    in_object_same =
        ap (λ (o : Option MethodId). first_element (filter (λ m. is_public ds m && not (is_static ds m)) (option_to_list o)))
        (ap (option_and_then (declared ds name ty)) (alike.embeds.first object) ∙ declared_by_first (lookup cs 0 object) refl)
        ∙ (ap (λ (ms : List MethodId). first_element (filter (λ m. is_public ds m && not (is_static ds m)) ms))
        (listed (option_and_then (declared cs name ty) (lookup cs 0 object)))
        ∙ (ap first_element
        (filter_alike ren_method (IsOfPresent cs) (λ m. is_public ds m && not (is_static ds m)) (λ m. is_public cs m && not (is_static cs m))
        (λ m at i. public_same n cs ds alike m at i && not (static_same n cs ds alike m at i))
        (option_to_list (option_and_then (declared cs name ty) (lookup cs 0 object))) (listed_by_first (lookup cs 0 object) refl))
        ∙ first_alike_element ren_method
        (filter (λ m. is_public cs m && not (is_static cs m)) (option_to_list (option_and_then (declared cs name ty) (lookup cs 0 object))))))

    pub in_object_present : (m : MethodId) → declared_in_object cs name ty ≡ Some m → is_present cs m.class ≡ true
    in_object_present m is =
        first_of_all (IsOfPresent cs)
        (filter (λ m. is_public cs m && not (is_static cs m)) (option_to_list (option_and_then (declared cs name ty) (lookup cs 0 object)))) m
        (All-filter (λ m. is_public cs m && not (is_static cs m)) (IsOfPresent cs)
        (option_to_list (option_and_then (declared cs name ty) (lookup cs 0 object))) (listed_by_first (lookup cs 0 object) refl))
        is

  -- ---- what a reference finds

  only_same : (ms : List MethodId) → only (pick (map ren_method ms)) ≡ option_map ren_method (only (pick ms))
  only_same [] = refl
  only_same (m ∷ []) = refl
  only_same (m ∷ k ∷ ms) = refl

  module _ (name ty : List ℕ) (c : ℕ) (present : is_present cs c ≡ true) where
    declared_upward_same : declared_upward ds name ty (ren c) ≡ option_map ren_method (declared_upward cs name ty c)
    declared_upward_same =
        ap first_element (upward_same name ty c present) ∙ first_alike_element ren_method (filter_map (declared cs name ty) (superclasses cs c))

    default_same : only (pick (defaults ds name ty (ren c))) ≡ option_map ren_method (only (pick (defaults cs name ty c)))
    default_same = ap (λ (ms : List MethodId). only (pick ms)) (defaults_same name ty c present) ∙ only_same (defaults cs name ty c)

    first_candidate_same : first_element (candidates ds name ty (ren c)) ≡ option_map ren_method (first_element (candidates cs name ty c))
    first_candidate_same = ap first_element (candidates_same name ty c present) ∙ first_alike_element ren_method (candidates cs name ty c)

    found_in_class_same : found_in_class ds name ty (ren c) ≡ option_map ren_method (found_in_class cs name ty c)
    found_in_class_same =
        (λ i. first_of (declared_upward_same i ∷ default_same i ∷ first_candidate_same i ∷ []))
        ∙ first_alike ren_method
        (declared_upward cs name ty c ∷ only (pick (defaults cs name ty c)) ∷ first_element (candidates cs name ty c) ∷ [])

    found_in_interface_same : found_in_interface ds name ty (ren c) ≡ option_map ren_method (found_in_interface cs name ty c)
    found_in_interface_same =
        (λ i. first_of (alike.declares name ty c present i ∷ in_object_same name ty i ∷ default_same i ∷ first_candidate_same i ∷ []))
        ∙ first_alike ren_method
        (declared cs name ty c ∷ declared_in_object cs name ty ∷ only (pick (defaults cs name ty c)) ∷ first_element (candidates cs name ty c) ∷ [])

  found_same : (ref : Reference (List ℕ)) (c : ℕ) → is_present cs c ≡ true → found ds ref (ren c) ≡ option_map ren_method (found cs ref c)
  found_same ref c present = by_kind ref.itf
    where
      by_kind : (itf : Bool) → (if itf then found_in_interface ds ref.name ref.ty (ren c) else found_in_class ds ref.name ref.ty (ren c))
          ≡ option_map ren_method (if itf then found_in_interface cs ref.name ref.ty c else found_in_class cs ref.name ref.ty c)
      by_kind true = found_in_interface_same ref.name ref.ty c present
      by_kind false = found_in_class_same ref.name ref.ty c present

  found_is_present : (ref : Reference (List ℕ)) (c : ℕ) (m : MethodId) → is_present cs c ≡ true → found cs ref c ≡ Some m → is_present cs m.class ≡ true
  found_is_present ref c m present is =
      subst (λ (o : Option MethodId). IfSome o (IsOfPresent cs)) is (found_present cs alike.embeds.ordered alike.embeds.closed ref c present)

  -- ---- resolution

  access_same : (m : MethodId) (access : Access) → by_access (ren_method m) access ≡ renumbered_found n (by_access m access)
  access_same m Allowed = refl
  access_same m Denied = refl
  access_same m (NotKnown missing) = refl

  module _ (d named : ℕ) (mine : is_present cs d ≡ true) (there : is_present cs named ≡ true) where
    if_accessible_same : (o : Option MethodId) → ((m : MethodId) → o ≡ Some m → is_present cs m.class ≡ true)
        → if_accessible ds (ren d) (ren named) (option_map ren_method o) ≡ renumbered_found n (if_accessible cs d named o)
    if_accessible_same None each = refl
    if_accessible_same (Some m) each =
        ap (by_access (ren_method m)) (accessible_same n cs ds alike d named m mine there (each m refl)) ∙ access_same m (accessible cs d named m)

    in_turn : (a b : Bool) (r : Result MethodId ResolveAnswer)
        → (if a then Err (Fault IllegalAccessError) else (if b then Err (Fault IncompatibleClassChangeError) else renumbered_found n r))
        ≡ renumbered_found n (if a then Err (Fault IllegalAccessError) else (if b then Err (Fault IncompatibleClassChangeError) else r))
    in_turn true b r = refl
    in_turn false true r = refl
    in_turn false false r = refl

    resolved_in_same : (ref : Reference (List ℕ)) → resolved_in ds (ren d) ref (ren named) ≡ renumbered_found n (resolved_in cs d ref named)
    resolved_in_same ref =
        (λ i. if not (accessible_class_same n cs ds alike d named mine there i) then Err (Fault IllegalAccessError) else (
        if not (beq ref.itf (alike.interfaces named there i)) then Err (Fault IncompatibleClassChangeError) else
        (ap (if_accessible ds (ren d) (ren named)) (found_same ref named there)
        ∙ if_accessible_same (found cs ref named) (λ m is. found_is_present ref named m there is)) i))
        ∙ in_turn (not (is_accessible_class cs d named)) (not (beq ref.itf (is_interface cs named))) (if_accessible cs d named (found cs ref named))

  naming_same : (named : ℕ) (r : Result MethodId ResolveAnswer) → naming (ren named) (renumbered_found n r) ≡ renumbered_resolved n (naming named r)
  naming_same named (Ok m) = refl
  naming_same named (Err answer) = refl

  named_class_same : (d : ℕ) (ref : Reference (List ℕ)) → is_present cs d ≡ true → named_class ds (ren d) ref ≡ option_map ren (named_class cs d ref)
  named_class_same d ref mine =
      let row = row_of cs d mine in
      ap (λ (o : Option Class). option_and_then (λ row. lookup ds row.loader ref.owner) o) (alike.embeds.rows d row.0 mine row.1)
      ∙ (alike.embeds.lookups d row.0 ref.owner mine row.1
      ∙ sym (ap (λ (o : Option Class). option_map ren (option_and_then (λ row. lookup cs row.loader ref.owner) o)) row.1))

  named_class_present : (d : ℕ) (ref : Reference (List ℕ)) (named : ℕ) → is_present cs d ≡ true → named_class cs d ref ≡ Some named
      → is_present cs named ≡ true
  named_class_present d ref named mine is =
      let row = row_of cs d mine in
      alike.found d row.0 ref.owner named mine row.1
      (sym (ap (λ (o : Option Class). option_and_then (λ row. lookup cs row.loader ref.owner) o) row.1) ∙ is)

  pub resolved_same : (d : ℕ) (ref : Reference (List ℕ)) → is_present cs d ≡ true → resolved ds (ren d) ref ≡ renumbered_resolved n (resolved cs d ref)
  resolved_same d ref mine = ap (resolved_at ds (ren d) ref) (named_class_same d ref mine) ∙ by_named (named_class cs d ref) refl
    where
      by_named : (o : Option ℕ) → named_class cs d ref ≡ o → resolved_at ds (ren d) ref (option_map ren o) ≡ renumbered_resolved n (resolved_at cs d ref o)
      by_named None is = refl
      by_named (Some named) is =
          ap (naming (ren named)) (resolved_in_same d named mine (named_class_present d ref named mine is) ref)
          ∙ naming_same named (resolved_in cs d ref named)

  -- what is resolved is what was found
  accessed : (m k : MethodId) (access : Access) → by_access m access ≡ Ok k → m ≡ k
  accessed m k Allowed e = cc
  accessed m k Denied e = cc
  accessed m k (NotKnown missing) e = cc

  accessed_of : (d named : ℕ) (o : Option MethodId) (k : MethodId) → if_accessible cs d named o ≡ Ok k → o ≡ Some k
  accessed_of d named None k e = cc
  accessed_of d named (Some m) k e = ap Some (accessed m k (accessible cs d named m) e)

  past_both : (a b : Bool) (r : Result MethodId ResolveAnswer) (k : MethodId)
      → (if a then Err (Fault IllegalAccessError) else (if b then Err (Fault IncompatibleClassChangeError) else r)) ≡ Ok k → r ≡ Ok k
  past_both true b r k e = cc
  past_both false true r k e = cc
  past_both false false r k e = e

  named_both : (d named : ℕ) (ref : Reference (List ℕ)) (r : Resolved) (x : Result MethodId ResolveAnswer) → is_present cs named ≡ true
      → resolved_in cs d ref named ≡ x → naming named x ≡ Ok r → (is_present cs r.named ≡ true) × (is_present cs r.method.class ≡ true)
  named_both d named ref r (Err answer) there is e = cc
  named_both d named ref r (Ok m) there is e =
      let same = same_Ok (record { named = named; method = m }) r e in
      let at = found_is_present ref named m there (accessed_of d named (found cs ref named) m
      (past_both (not (is_accessible_class cs d named)) (not (beq ref.itf (is_interface cs named))) (if_accessible cs d named (found cs ref named)) m is)) in
      (subst (λ (r : Resolved). is_present cs r.named ≡ true) same there, subst (λ (r : Resolved). is_present cs r.method.class ≡ true) same at)

  pub resolved_present : (d : ℕ) (ref : Reference (List ℕ)) (r : Resolved) → is_present cs d ≡ true → resolved cs d ref ≡ Ok r
      → (is_present cs r.named ≡ true) × (is_present cs r.method.class ≡ true)
  resolved_present d ref r mine is = by_named (named_class cs d ref) refl is
    where
      by_named : (o : Option ℕ) → named_class cs d ref ≡ o → resolved_at cs d ref o ≡ Ok r
          → (is_present cs r.named ≡ true) × (is_present cs r.method.class ≡ true)
      by_named None at e = cc
      by_named (Some named) at e =
          named_both d named ref r (resolved_in cs d ref named) (named_class_present d ref named mine at) refl e
