-- What the walks up the superclasses compute. A means of proof.
use Rattle.std.specs.Prelude.{ℕ, Bool, false, not, ◌&&◌, ◌||◌, ◌==◌, List, [], ◌∷◌, filter, filter_map, Option, Some, None, option_and_then, if◌then◌else◌}
use Rattle.std.specs.List.{list_any}
use Rattle.std.specs.Option.{option_map_or}
use Rattle.std.specs.Str.{bytes_eq}
use Rattle.jl_class.specs.Class.{Method}
use Rattle.jl_class.specs.Flags.{has_flag, PUBLIC, PRIVATE, PROTECTED, STATIC}
use Rattle.jl_types.specs.declared.ids.MethodId.{MethodId}
use Rattle.jl_types.specs.Values.World.{Classes}
use Rattle.jl_types.specs.Values.Members.{methods_of, same_package, declared}
use Rattle.jl_types.specs.Values.Ancestry.{superclasses, superclass_of}
use Rattle.jl_types.specs.Linkage.Resolution.{first_element}

-- both are instance methods of one name and descriptor, and the first isn't private
abbrev pub are_alike_methods : Method → Method → Bool
are_alike_methods c a =
    not (has_flag c.flags STATIC) && (not (has_flag a.flags STATIC) && (not (has_flag c.flags PRIVATE)
    && (bytes_eq a.name c.name && bytes_eq a.ty c.ty)))

-- m is like a, and public or protected
abbrev pub is_bridge : Method → Method → Bool
is_bridge a m = are_alike_methods m a && (has_flag m.flags PUBLIC || has_flag m.flags PROTECTED)

-- the class k is of the run-time package of the class u, and declares such a method
abbrev pub has_bridge : Classes → ℕ → Method → ℕ → Bool
has_bridge cs u a k = same_package cs u k && list_any (is_bridge a) (methods_of cs k)

-- the superclasses of c, without itself
abbrev pub above : Classes → ℕ → List ℕ
above cs c = option_map_or (superclasses cs) (superclass_of cs c) []

-- u is in the list, and something before it passes, or was found already
abbrev pub bridged_before : ℕ → (ℕ → Bool) → Bool → List ℕ → Bool
bridged_before u test found [] = false
bridged_before u test found (k ∷ ks) = if k == u then found else bridged_before u test (found || test k) ks

-- the class's own declaration, if it passes
abbrev pub own_passing : (MethodId → Bool) → Classes → List ℕ → List ℕ → ℕ → Option MethodId
own_passing test cs name ty c = option_and_then (λ m. if test m then Some m else None) (declared cs name ty c)

-- the first declaration that passes, in these classes
abbrev pub first_passing : (MethodId → Bool) → Classes → List ℕ → List ℕ → List ℕ → Option MethodId
first_passing test cs name ty xs = first_element (filter test (filter_map (declared cs name ty) xs))
