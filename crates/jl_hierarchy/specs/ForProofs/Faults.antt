-- The faults of a definition as they are tested: before the parents are looked up, and those of the superclass alone. A means
-- of proof.
use Rattle.std.specs.Prelude.{ℕ, ◌+◌, ◌<◌, Bool, true, false, not, ◌&&◌, ◌==◌, List, [], ◌∷◌, slice_get, Option, Some, None, option_map}
use Rattle.std.specs.Prelude.{option_and_then, option_to_list, is_some, is_none, length, ⊤, find, ◌||◌, ◌++◌}
use Rattle.std.specs.List.{list_any}
use Rattle.std.specs.Bool.{then_some}
use Rattle.std.specs.Str.{bytes_eq}
use Rattle.jl_class.specs.Class.{ClassFile}
use Rattle.jl_class.specs.Flags.{object, has_flag, PUBLIC}
use Rattle.jl_names.specs.ClassNames.{package_of}
use Rattle.jl_types.specs.declared.refusal.DefineFault.{DefineFault}
use Rattle.jl_types.specs.declared.refusal.DefineFault.TheVariants.{UnknownLoader, SecondObject, AlreadyRecorded, NamesItself, SuperIsInterface, FinalSuper}
use Rattle.jl_types.specs.declared.refusal.DefineFault.TheVariants.{MissingParent, NotAnInterface, InaccessibleParent}
use Rattle.jl_hierarchy.specs.declared.faults.FaultAt.{FaultAt}
use Rattle.jl_hierarchy.specs.declared.faults.FaultAt.TheVariants as at
use Rattle.jl_types.specs.Values.World.{Class, Classes}
use Rattle.jl_types.specs.Values.Members.{lookup, is_interface}
use Rattle.jl_types.specs.Events.Definitions.{is_unknown, parent_names, named_test, is_final, is_open_parent}

abbrev pub first_faults : Classes → ℕ → ClassFile → List (Option DefineFault)
first_faults cs loader file =
    then_some (is_unknown cs loader) UnknownLoader
    ∷ then_some (bytes_eq file.name object && not (loader == 0)) SecondObject
    ∷ then_some (is_some (lookup cs loader file.name)) AlreadyRecorded
    ∷ then_some (list_any (bytes_eq file.name) (parent_names file)) NamesItself
    ∷ []

abbrev pub superclass_faults : Classes → ℕ → ClassFile → List (Option DefineFault)
superclass_faults cs loader file =
    then_some (list_any (named_test (is_interface cs) cs loader) (option_to_list file.superclass)) SuperIsInterface
    ∷ then_some (list_any (named_test (is_final cs) cs loader) (option_to_list file.superclass)) FinalSuper
    ∷ []

-- the faults of the parents
abbrev pub parent_faults : Classes → ℕ → ClassFile → List (Option DefineFault)
parent_faults cs loader file =
    option_map MissingParent (find (λ name. is_none (lookup cs loader name)) (parent_names file))
    ∷ superclass_faults cs loader file
    ++ option_map NotAnInterface (find (λ name. not (named_test (is_interface cs) cs loader name)) file.interfaces)
    ∷ option_map InaccessibleParent (find (λ name. not (is_open_parent cs loader file name)) (parent_names file))
    ∷ []

-- the class is public, or in the run-time package of the one that the loader makes of the file
abbrev pub is_open_row : Class → ℕ → ClassFile → Bool
is_open_row row loader file =
    has_flag row.file.flags PUBLIC || (row.loader == loader) && bytes_eq (package_of row.file.name) (package_of file.name)

-- the class of this name may be the superclass
abbrev pub is_fit_superclass : Classes → ℕ → ClassFile → List ℕ → Bool
is_fit_superclass cs loader file name =
    not (named_test (is_interface cs) cs loader name) && not (named_test (is_final cs) cs loader name) && is_open_parent cs loader file name

-- the class of this name may be a superinterface
abbrev pub is_fit_interface : Classes → ℕ → ClassFile → List ℕ → Bool
is_fit_interface cs loader file name = named_test (is_interface cs) cs loader name && is_open_parent cs loader file name

-- a parent has a fault
abbrev pub has_unfit_parent : Classes → ℕ → ClassFile → Bool
has_unfit_parent cs loader file =
    list_any (λ name. not (is_fit_superclass cs loader file name)) (option_to_list file.superclass)
    || list_any (λ name. not (is_fit_interface cs loader file name)) file.interfaces

-- the class that the loader has recorded under the name
abbrev pub named_class : Classes → ℕ → List ℕ → Option Class
named_class cs loader name = option_and_then (slice_get cs.rows) (lookup cs loader name)

-- the first place among the parents that passes a test, from whether the superclass does and the first place of a superinterface that does
abbrev pub first_place : Option Bool → Option ℕ → Option ℕ
first_place None interface = interface
first_place (Some true) interface = Some 0
first_place (Some false) interface = option_map (λ n. n + 1) interface

-- the fault that tells by its name the parent that this one tells by its place
abbrev pub fault_of : ClassFile → FaultAt → Option DefineFault
fault_of file (at.Plain fault) = Some fault
fault_of file (at.Missing i) = option_map MissingParent (slice_get (parent_names file) i)
fault_of file (at.NoInterface i) = option_map NotAnInterface (slice_get file.interfaces i)
fault_of file (at.Closed i) = option_map InaccessibleParent (slice_get (parent_names file) i)

-- there is a parent at that place
abbrev pub IsThere : ClassFile → FaultAt → Type 0
IsThere file (at.Plain fault) = ⊤
IsThere file (at.Missing i) = i < length (parent_names file)
IsThere file (at.NoInterface i) = i < length file.interfaces
IsThere file (at.Closed i) = i < length (parent_names file)
