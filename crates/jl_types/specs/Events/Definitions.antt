-- The definition of a class by a loader (JVMS 5.3.5), and delegation (5.3).
use Rattle.std.specs.Prelude.{ℕ, Bool, not, ◌&&◌, ◌||◌, ◌==◌, nat_le, List, [], ◌∷◌, ◌++◌, find, filter_map, length, slice_get, slice_set, Option}
use Rattle.std.specs.Prelude.{option_map, option_and_then, option_to_list, is_some, is_none}
use Rattle.std.specs.List.{list_any}
use Rattle.std.specs.Option.{option_map_or}
use Rattle.std.specs.Bool.{then_some}
use Rattle.jl_class.specs.Class.{ClassFile}
use Rattle.std.specs.Str.{bytes_eq}
use Rattle.jl_class.specs.Flags.{has_flag, object, PUBLIC}
use Rattle.jl_types.specs.declared.refusal.DefineFault.{DefineFault}
use Rattle.jl_types.specs.declared.refusal.DefineFault.TheVariants as define
use Rattle.jl_types.specs.declared.refusal.DelegateFault.{DelegateFault}
use Rattle.jl_types.specs.declared.refusal.DelegateFault.TheVariants as delegate
use Rattle.jl_types.specs.Values.World.{Class, Classes}
use Rattle.jl_types.specs.Values.Members.{lookup, class_test, is_retired, is_interface, share_package}
use Rattle.jl_types.specs.Linkage.Resolution.{first_of}

abbrev pub FINAL : ℕ
FINAL = 0x0010

-- the superclass's name, then those of the superinterfaces
abbrev pub parent_names : ClassFile → List (List ℕ)
parent_names file = option_to_list file.superclass ++ file.interfaces

-- the class that the loader makes of the file
abbrev pub class_made : Classes → ℕ → ClassFile → Class
class_made cs loader file = record {
  loader = loader;
  file = file;
  superclass = option_and_then (lookup cs loader) file.superclass;
  interfaces = filter_map (lookup cs loader) file.interfaces;
}

-- there was never such a loader, or it is retired
abbrev pub is_unknown : Classes → ℕ → Bool
is_unknown cs loader = nat_le (length cs.loaders) loader || is_retired cs loader

-- ---- why a class isn't defined

-- the test of the class that the loader has recorded under the name
abbrev pub named_test : (ℕ → Bool) → Classes → ℕ → List ℕ → Bool
named_test test cs loader name = list_any test (option_to_list (lookup cs loader name))

abbrev pub is_final : Classes → ℕ → Bool
is_final cs c = class_test (λ row. has_flag row.file.flags FINAL) cs c

-- c is public, or in the run-time package of the class that is being made
abbrev pub is_open_to : Classes → Class → ℕ → Bool
is_open_to cs made c = class_test (λ row. has_flag row.file.flags PUBLIC || share_package row made) cs c

-- the parent of this name is open to the class that the loader makes of the file
abbrev pub is_open_parent : Classes → ℕ → ClassFile → List ℕ → Bool
is_open_parent cs loader file name = named_test (is_open_to cs (class_made cs loader file)) cs loader name

-- The first fault of a definition, with this limit of classes. Of one kind, the superclass's comes first, and then those of the
-- superinterfaces in order.
abbrev pub define_fault : ℕ → Classes → ℕ → ClassFile → Option DefineFault
define_fault most_classes cs loader file = first_of (
    then_some (is_unknown cs loader) define.UnknownLoader
    ∷ then_some (bytes_eq file.name object && not (loader == 0)) define.SecondObject
    ∷ then_some (is_some (lookup cs loader file.name)) define.AlreadyRecorded
    ∷ then_some (list_any (bytes_eq file.name) (parent_names file)) define.NamesItself
    ∷ option_map define.MissingParent (find (λ name. is_none (lookup cs loader name)) (parent_names file))
    ∷ then_some (list_any (named_test (is_interface cs) cs loader) (option_to_list file.superclass)) define.SuperIsInterface
    ∷ then_some (list_any (named_test (is_final cs) cs loader) (option_to_list file.superclass)) define.FinalSuper
    ∷ option_map define.NotAnInterface (find (λ name. not (named_test (is_interface cs) cs loader name)) file.interfaces)
    ∷ option_map define.InaccessibleParent (find (λ name. not (is_open_parent cs loader file name)) (parent_names file))
    ∷ then_some (nat_le most_classes (length cs.rows)) define.Full
    ∷ [])

-- the loader records the class under the name
abbrev pub with_record : List (List (List ℕ × ℕ)) → ℕ → List ℕ → ℕ → List (List (List ℕ × ℕ))
with_record loaders loader name c =
    option_map_or (λ records. slice_set loaders loader (records ++ (name, c) ∷ [])) (slice_get loaders loader) loaders

-- the classes once the class is defined: its loader records it under its name
abbrev pub defined : Classes → ℕ → ClassFile → Classes
defined cs loader file = record cs {
  loaders = with_record cs.loaders loader file.name (length cs.rows);
  rows = cs.rows ++ class_made cs loader file ∷ [];
}

-- ---- delegation

abbrev pub delegate_fault : Classes → ℕ → List ℕ → ℕ → Option DelegateFault
delegate_fault cs loader name to = first_of (
    then_some (is_unknown cs loader || is_unknown cs to) delegate.UnknownLoader
    ∷ then_some (is_none (lookup cs to name)) delegate.NotRecorded
    ∷ then_some (is_some (lookup cs loader name)) delegate.AlreadyRecorded
    ∷ [])

-- the loader records what the other one finds
abbrev pub delegated : Classes → ℕ → List ℕ → ℕ → Classes
delegated cs loader name to =
    record cs { loaders = option_map_or (with_record cs.loaders loader name) (lookup cs to name) cs.loaders }
