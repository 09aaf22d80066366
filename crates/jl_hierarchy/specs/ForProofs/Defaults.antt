-- Superinterface methods (JVMS 5.4.3.3), ancestor by ancestor. A means of proof.
use Rattle.std.specs.Prelude.{ℕ, Bool, not, ◌&&◌, ◌||◌, ◌==◌, List, Option, Some, None, option_and_then, is_some, if◌then◌else◌}
use Rattle.std.specs.List.{list_any}
use Rattle.jl_types.specs.declared.ids.MethodId.{MethodId}
use Rattle.jl_types.specs.Values.World.{Classes}
use Rattle.jl_types.specs.Values.Members.{is_interface, is_private, is_static, is_abstract, declared}
use Rattle.jl_types.specs.Values.Ancestry.{is_proper_ancestor}
use Rattle.jl_types.specs.Linkage.Resolution.{candidates}

abbrev pub if_passes : {A : Type 0} → (A → Bool) → A → Option A
if_passes test x = if test x then Some x else None

-- neither private nor static
abbrev pub is_inherited : Classes → MethodId → Bool
is_inherited cs m = not (is_private cs m || is_static cs m)

-- k is an interface other than c
abbrev pub is_other_interface : Classes → ℕ → ℕ → Bool
is_other_interface cs c k = is_interface cs k && not (k == c)

-- the candidate of class c that its ancestor k declares
abbrev pub candidate_at : Classes → List ℕ → List ℕ → ℕ → ℕ → Option MethodId
candidate_at cs name ty c k =
    if is_other_interface cs c k then option_and_then (if_passes (is_inherited cs)) (declared cs name ty k) else None

-- another candidate of class c is declared in a subinterface of i
abbrev pub is_redeclared : Classes → List ℕ → List ℕ → ℕ → ℕ → Bool
is_redeclared cs name ty c i = list_any (λ other. is_proper_ancestor cs i other.class) (candidates cs name ty c)

-- class k is a subinterface of i that declares another candidate of class c
abbrev pub redeclares : Classes → List ℕ → List ℕ → ℕ → ℕ → ℕ → Bool
redeclares cs name ty c i k = is_proper_ancestor cs i k && is_some (candidate_at cs name ty c k)

abbrev pub is_default : Classes → List ℕ → List ℕ → ℕ → MethodId → Bool
is_default cs name ty c m = not (is_abstract cs m) && not (is_redeclared cs name ty c m.class)

-- the default of class c that its ancestor k declares
abbrev pub default_at : Classes → List ℕ → List ℕ → ℕ → ℕ → Option MethodId
default_at cs name ty c k = option_and_then (if_passes (is_default cs name ty c)) (candidate_at cs name ty c k)
