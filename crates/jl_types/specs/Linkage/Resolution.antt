-- Method resolution (JVMS 5.4.3.3) and interface method resolution (5.4.3.4).
use Rattle.std.specs.Prelude.{ℕ, not, ◌&&◌, ◌||◌, List, [], ◌∷◌, filter, filter_map, slice_get, Option, Some, None, option_and_then, option_to_list}
use Rattle.std.specs.Prelude.{Result, Ok, Err, if◌then◌else◌}
use Rattle.std.specs.Bool.{beq}
use Rattle.std.specs.List.{list_any}
use Rattle.jl_pool.specs.declared.reference.Reference.{Reference}
use Rattle.jl_class.specs.Flags.{object}
use Rattle.jl_types.specs.declared.ids.MethodId.{MethodId}
use Rattle.jl_types.specs.declared.answer.Chosen.{Chosen}
use Rattle.jl_types.specs.declared.answer.Chosen.TheVariants.{Method as Picked, Several, Nothing}
use Rattle.jl_types.specs.declared.answer.ResolveAnswer.{ResolveAnswer}
use Rattle.jl_types.specs.declared.answer.ResolveAnswer.TheVariants.{NotReady, Fault}
use Rattle.jl_types.specs.declared.answer.Missing.TheVariants.{Named}
use Rattle.jl_types.specs.declared.answer.Throwable.TheVariants.{NoSuchMethodError, IllegalAccessError, IncompatibleClassChangeError}
use Rattle.jl_types.specs.Values.World.{Classes}
use Rattle.jl_types.specs.Values.Members.{is_interface, declared, lookup, is_public, is_private, is_static, is_abstract}
use Rattle.jl_types.specs.Values.Ancestry.{superclasses, superinterfaces, is_proper_ancestor}
use Rattle.jl_types.specs.Linkage.Access.{Access, Allowed, Denied, NotKnown, accessible, is_accessible_class}

-- the first of these that is there
abbrev pub first_of : {A : Type 0} → List (Option A) → Option A
first_of [] = None
first_of (None ∷ rest) = first_of rest
first_of (Some x ∷ rest) = Some x

abbrev pub first_element : {A : Type 0} → List A → Option A
first_element [] = None
first_element (x ∷ xs) = Some x

-- what there is of these: none, one alone, or several
abbrev pub pick : List MethodId → Chosen
pick [] = Nothing
pick (m ∷ []) = Picked m
pick (m ∷ n ∷ ms) = Several

-- the method, if there is exactly one
abbrev pub only : Chosen → Option MethodId
only (Picked m) = Some m
only Several = None
only Nothing = None

-- ---- superinterface methods

-- the methods of the name and descriptor that superinterfaces of c declare, neither private nor static
abbrev pub candidates : Classes → List ℕ → List ℕ → ℕ → List MethodId
candidates cs name ty c =
    filter (λ m. not (is_private cs m || is_static cs m)) (filter_map (declared cs name ty) (superinterfaces cs c))

-- the maximally-specific ones: no other is declared in a subinterface
abbrev pub max_specific : Classes → List ℕ → List ℕ → ℕ → List MethodId
max_specific cs name ty c =
    filter (λ m. not (list_any (λ other. is_proper_ancestor cs m.class other.class) (candidates cs name ty c)))
    (candidates cs name ty c)

-- the maximally-specific ones that aren't abstract
abbrev pub defaults : Classes → List ℕ → List ℕ → ℕ → List MethodId
defaults cs name ty c = filter (λ m. not (is_abstract cs m)) (max_specific cs name ty c)

-- ---- what a reference finds

-- the first declaration in c and its superclasses upward
abbrev pub declared_upward : Classes → List ℕ → List ℕ → ℕ → Option MethodId
declared_upward cs name ty c = first_element (filter_map (declared cs name ty) (superclasses cs c))

-- the method that java/lang/Object declares, if it is public and not static
abbrev pub declared_in_object : Classes → List ℕ → List ℕ → Option MethodId
declared_in_object cs name ty =
    first_element (filter (λ m. is_public cs m && not (is_static cs m))
    (option_to_list (option_and_then (declared cs name ty) (lookup cs 0 object))))

-- in a class: declared there or upward; the only default; the superinterface method of least class number
abbrev pub found_in_class : Classes → List ℕ → List ℕ → ℕ → Option MethodId
found_in_class cs name ty c = first_of (
    declared_upward cs name ty c
    ∷ only (pick (defaults cs name ty c))
    ∷ first_element (candidates cs name ty c)
    ∷ [])

-- in an interface: declared there; java/lang/Object's; the only default; the superinterface method of least class number
abbrev pub found_in_interface : Classes → List ℕ → List ℕ → ℕ → Option MethodId
found_in_interface cs name ty c = first_of (
    declared cs name ty c
    ∷ declared_in_object cs name ty
    ∷ only (pick (defaults cs name ty c))
    ∷ first_element (candidates cs name ty c)
    ∷ [])

abbrev pub found : Classes → Reference (List ℕ) → ℕ → Option MethodId
found cs ref named =
    if ref.itf then found_in_interface cs ref.name ref.ty named else found_in_class cs ref.name ref.ty named

-- ---- resolution

-- the class that a reference names, and the method that it resolves to
pub record Resolved : Type 0 where
  pub named : ℕ
  pub method : MethodId

abbrev pub by_access : MethodId → Access → Result MethodId ResolveAnswer
by_access m Allowed = Ok m
by_access m Denied = Err (Fault IllegalAccessError)
by_access m (NotKnown missing) = Err (NotReady missing)

-- what was found has to be accessible to the caller d
abbrev pub if_accessible : Classes → ℕ → ℕ → Option MethodId → Result MethodId ResolveAnswer
if_accessible cs d named None = Err (Fault NoSuchMethodError)
if_accessible cs d named (Some m) = by_access m (accessible cs d named m)

-- the named class has to be accessible, and of the reference's kind
abbrev pub resolved_in : Classes → ℕ → Reference (List ℕ) → ℕ → Result MethodId ResolveAnswer
resolved_in cs d ref named =
    if not (is_accessible_class cs d named) then Err (Fault IllegalAccessError) else (
    if not (beq ref.itf (is_interface cs named)) then Err (Fault IncompatibleClassChangeError) else
    if_accessible cs d named (found cs ref named))

-- the class that the reference names, found by the caller's loader
abbrev pub named_class : Classes → ℕ → Reference (List ℕ) → Option ℕ
named_class cs d ref = option_and_then (λ row. lookup cs row.loader ref.owner) (slice_get cs.rows d)

abbrev pub naming : ℕ → Result MethodId ResolveAnswer → Result Resolved ResolveAnswer
naming named (Ok m) = Ok (record { named = named; method = m })
naming named (Err answer) = Err answer

abbrev pub resolved_at : Classes → ℕ → Reference (List ℕ) → Option ℕ → Result Resolved ResolveAnswer
resolved_at cs d ref None = Err (NotReady Named)
resolved_at cs d ref (Some named) = naming named (resolved_in cs d ref named)

-- what the reference resolves to, for the caller d
abbrev pub resolved : Classes → ℕ → Reference (List ℕ) → Result Resolved ResolveAnswer
resolved cs d ref = resolved_at cs d ref (named_class cs d ref)
