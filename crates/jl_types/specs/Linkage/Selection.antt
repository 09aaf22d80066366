-- Selection (JVMS 5.4.6), and what the instructions make of it (6.5).
use Rattle.std.specs.Prelude.{ℕ, not, ◌&&◌, ◌||◌, List, [], ◌∷◌, filter, filter_map, Option, Some, None, option_to_list, codes, Bool, if◌then◌else◌}
use Rattle.jl_class.specs.Class.{Method}
use Rattle.jl_pool.specs.declared.reference.Reference.{Reference}
use Rattle.std.specs.Str.{bytes_eq}
use Rattle.jl_types.specs.declared.ids.MethodId.{MethodId}
use Rattle.jl_types.specs.declared.answer.Outcome.{Outcome}
use Rattle.jl_types.specs.declared.answer.Outcome.TheVariants.{Run, Throws}
use Rattle.jl_types.specs.declared.answer.Chosen.{Chosen}
use Rattle.jl_types.specs.declared.answer.Chosen.TheVariants.{Method as Picked, Several, Nothing}
use Rattle.jl_types.specs.declared.answer.Throwable.TheVariants.{IllegalAccessError, IncompatibleClassChangeError, AbstractMethodError}
use Rattle.jl_types.specs.Values.World.{Classes}
use Rattle.jl_types.specs.Values.Members.{method_at, declared, is_public, is_private, is_static, is_abstract, is_interface}
use Rattle.jl_types.specs.Values.Ancestry.{superclass_of, superclasses, is_proper_subclass, is_ancestor}
use Rattle.jl_types.specs.Linkage.Resolution.{first_of, first_element, pick, declared_in_object, defaults}
use Rattle.jl_types.specs.Linkage.Overriding.{can_override}

-- ---- selection

-- what was found, or else what there is of the defaults
abbrev pub found_or : Option MethodId → List MethodId → Chosen
found_or (Some m) ms = Picked m
found_or None ms = pick ms

-- the first method that can override r, in x and its superclasses upward
abbrev pub overriding : Classes → ℕ → MethodId → Method → Option MethodId
overriding cs x r method =
    first_element (filter (λ m. can_override cs m r) (filter_map (declared cs method.name method.ty) (superclasses cs x)))

abbrev pub chosen_of : Classes → ℕ → MethodId → Option Method → Chosen
chosen_of cs x r None = Nothing
chosen_of cs x r (Some method) = found_or (overriding cs x r method) (defaults cs method.name method.ty x)

-- the method that selection picks for a receiver of class x and the resolved method r
abbrev pub chosen : Classes → ℕ → MethodId → Chosen
chosen cs x r = if is_private cs r then Picked r else chosen_of cs x r (method_at cs r)

-- ---- the outcome of a choice

abbrev pub ending : Classes → Chosen → Outcome
ending cs (Picked m) = if is_abstract cs m then Throws AbstractMethodError else Run m
ending cs Several = Throws IncompatibleClassChangeError
ending cs Nothing = Throws AbstractMethodError

-- the outcome at invokevirtual
abbrev pub virtual_outcome : Classes → ℕ → MethodId → Outcome
virtual_outcome cs x r = ending cs (chosen cs x r)

abbrev pub interface_ending : Classes → Chosen → Outcome
interface_ending cs (Picked m) =
    if is_public cs m || is_private cs m then ending cs (Picked m) else Throws IllegalAccessError
interface_ending cs Several = ending cs Several
interface_ending cs Nothing = ending cs Nothing

-- the outcome at invokeinterface, if the reference names this interface
abbrev pub interface_outcome : Classes → ℕ → ℕ → MethodId → Outcome
interface_outcome cs x named r =
    if is_ancestor cs named x then interface_ending cs (chosen cs x r) else Throws IncompatibleClassChangeError

-- ---- invokespecial

abbrev pub is_init : List ℕ → Bool
is_init name = bytes_eq name (codes "<init>")

-- The search begins at the caller's direct superclass, if the method isn't `<init>` and the reference names a proper superclass
-- of the caller. Else it begins at the class that the reference names.
abbrev pub special_start : Classes → ℕ → ℕ → Reference (List ℕ) → Option ℕ
special_start cs d named ref =
    if not (is_init ref.name) && (not (is_interface cs named) && is_proper_subclass cs d named)
    then superclass_of cs d else Some named

abbrev pub instance_methods : Classes → List MethodId → List MethodId
instance_methods cs ms = filter (λ m. not (is_static cs m)) ms

-- from a class: an instance method there or in the superclasses upward
abbrev pub special_in_class : Classes → List ℕ → List ℕ → ℕ → Option MethodId
special_in_class cs name ty c = first_element (instance_methods cs (filter_map (declared cs name ty) (superclasses cs c)))

-- from an interface: an instance method there, or a public one of java/lang/Object
abbrev pub special_in_interface : Classes → List ℕ → List ℕ → ℕ → Option MethodId
special_in_interface cs name ty c = first_of (
    first_element (instance_methods cs (option_to_list (declared cs name ty c)))
    ∷ declared_in_object cs name ty
    ∷ [])

abbrev pub special_found : Classes → List ℕ → List ℕ → ℕ → Option MethodId
special_found cs name ty c = if is_interface cs c then special_in_interface cs name ty c else special_in_class cs name ty c

abbrev pub special_choice : Classes → Reference (List ℕ) → Option ℕ → Chosen
special_choice cs ref None = Nothing
special_choice cs ref (Some c) = found_or (special_found cs ref.name ref.ty c) (defaults cs ref.name ref.ty c)

-- the outcome at invokespecial, for the caller d, if the reference names this class or interface
abbrev pub special_outcome : Classes → ℕ → ℕ → Reference (List ℕ) → Outcome
special_outcome cs d named ref = ending cs (special_choice cs ref (special_start cs d named ref))
