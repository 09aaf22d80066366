-- What a class and its methods show: flags (JVMS 4.1, 4.6), names, and where the loader finds a class by name (5.3).
use Rattle.std.specs.Prelude.{ℕ, Bool, false, not, ◌&&◌, ◌==◌, List, [], Option, find, position, slice_get, option_map, option_and_then, is_some, length}
use Rattle.std.specs.Option.{option_map_or}
use Rattle.std.specs.List.{list_any, range_with_len}
use Rattle.jl_names.specs.ClassNames.{package_of}
use Rattle.jl_class.specs.Class.{Method}
use Rattle.std.specs.Str.{bytes_eq}
use Rattle.jl_class.specs.Flags.{has_flag, PUBLIC, PRIVATE, PROTECTED, STATIC, INTERFACE, ABSTRACT}
use Rattle.jl_types.specs.declared.ids.MethodId.{MethodId}
use Rattle.jl_types.specs.Values.World.{Class, Classes}

-- ---- a class

-- a class of this number was defined
abbrev pub has_class : Classes → ℕ → Bool
has_class cs c = is_some (slice_get cs.rows c)

-- whether the test holds of the class of this number; false if there is none
abbrev pub class_test : (Class → Bool) → Classes → ℕ → Bool
class_test test cs c = option_map_or test (slice_get cs.rows c) false

abbrev pub is_retired : Classes → ℕ → Bool
is_retired cs loader = list_any (λ k. k == loader) cs.retired

-- a class of this number was defined, and its defining loader isn't retired
abbrev pub is_present : Classes → ℕ → Bool
is_present cs c = class_test (λ row. not (is_retired cs row.loader)) cs c

abbrev pub is_interface : Classes → ℕ → Bool
is_interface cs c = class_test (λ row. has_flag row.file.flags INTERFACE) cs c

abbrev pub is_public_class : Classes → ℕ → Bool
is_public_class cs c = class_test (λ row. has_flag row.file.flags PUBLIC) cs c

-- neither an interface nor abstract: objects may be of this class
abbrev pub is_concrete_row : Class → Bool
is_concrete_row row = not (has_flag row.file.flags INTERFACE) && not (has_flag row.file.flags ABSTRACT)

abbrev pub is_concrete : Classes → ℕ → Bool
is_concrete cs c = is_present cs c && class_test is_concrete_row cs c

-- classes of one run-time package: one defining loader, one package name (5.3)
abbrev pub share_package : Class → Class → Bool
share_package a b = (a.loader == b.loader) && bytes_eq (package_of a.file.name) (package_of b.file.name)

abbrev pub same_package : Classes → ℕ → ℕ → Bool
same_package cs c d = class_test (λ a. class_test (share_package a) cs d) cs c

-- the class that is recorded under the name
abbrev pub recorded : List ℕ → List (List ℕ × ℕ) → Option ℕ
recorded name records = option_map (λ r. r.1) (find (λ r. bytes_eq r.0 name) records)

-- the class that the loader has recorded under the name
abbrev pub lookup : Classes → ℕ → List ℕ → Option ℕ
lookup cs loader name = option_and_then (recorded name) (slice_get cs.loaders loader)

-- the numbers of all classes, rising
abbrev pub numbers : Classes → List ℕ
numbers cs = range_with_len 0 (length cs.rows)

-- ---- a method

abbrev pub methods_of : Classes → ℕ → List Method
methods_of cs c = option_map_or (λ row. row.file.methods) (slice_get cs.rows c) []

abbrev pub method_at : Classes → MethodId → Option Method
method_at cs m = slice_get (methods_of cs m.class) m.index

abbrev pub method_test : (Method → Bool) → Classes → MethodId → Bool
method_test test cs m = option_map_or test (method_at cs m) false

abbrev pub is_public : Classes → MethodId → Bool
is_public cs m = method_test (λ method. has_flag method.flags PUBLIC) cs m

abbrev pub is_private : Classes → MethodId → Bool
is_private cs m = method_test (λ method. has_flag method.flags PRIVATE) cs m

abbrev pub is_protected : Classes → MethodId → Bool
is_protected cs m = method_test (λ method. has_flag method.flags PROTECTED) cs m

abbrev pub is_static : Classes → MethodId → Bool
is_static cs m = method_test (λ method. has_flag method.flags STATIC) cs m

abbrev pub is_abstract : Classes → MethodId → Bool
is_abstract cs m = method_test (λ method. has_flag method.flags ABSTRACT) cs m

-- with no access flag
abbrev pub is_package_private : Classes → MethodId → Bool
is_package_private cs m = not (is_public cs m) && (not (is_protected cs m) && not (is_private cs m))

-- the method has this name and descriptor
abbrev pub is_called : List ℕ → List ℕ → Method → Bool
is_called name ty method = bytes_eq method.name name && bytes_eq method.ty ty

-- the method of this name and descriptor that the class itself declares
abbrev pub declared : Classes → List ℕ → List ℕ → ℕ → Option MethodId
declared cs name ty c = option_map (λ i. record { class = c; index = i }) (position (is_called name ty) (methods_of cs c))
