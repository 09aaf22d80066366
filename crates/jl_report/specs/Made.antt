-- Which receivers may be objects of a class that no file has: those that an invokedynamic gives, as of a lambda (JVMS 6.5, 4.3.3).
use Rattle.std.specs.Prelude.{ℕ, zero, Bool, true, false, ◌&&◌, List, map, filter_map, get_or, Option, Some, None, option_and_then}
use Rattle.std.specs.List.{list_any, flat_map}
use Rattle.jl_names.specs.declared.descriptor.Element.{Element}
use Rattle.jl_names.specs.declared.descriptor.Element.TheVariants as element
use Rattle.jl_names.specs.declared.descriptor.FieldType.{FieldType}
use Rattle.jl_class.specs.Class.{Method}
use Rattle.jl_class.specs.Site.{Site}
use Rattle.jl_class.specs.declared.site.Kind.{Kind}
use Rattle.jl_class.specs.declared.site.Kind.TheVariants.{Virtual, Special, Static, Interface, Dynamic}
use Rattle.jl_class.specs.declared.site.Operand.{Operand}
use Rattle.jl_class.specs.declared.site.Operand.TheVariants as operand
use Rattle.jl_types.specs.declared.key.Key.{Key}
use Rattle.jl_types.specs.declared.key.Key.TheVariants as key
use Rattle.jl_types.specs.Values.World.{Class, Classes}
use Rattle.jl_types.specs.Values.Members.{lookup, is_interface, numbers}
use Rattle.jl_types.specs.Values.Ancestry.{is_ancestor}
use Rattle.jl_report.specs.declared.row.Row.{Row}
use Rattle.jl_report.specs.ForProofs.Results.{result_class}

-- ---- what is made

-- the class or interface that the type is, which is no array
abbrev pub class_of_element : ℕ → Element → Option (List ℕ)
class_of_element zero (element.Class name) = Some name
class_of_element _ _ = None

abbrev pub class_of : FieldType → Option (List ℕ)
class_of ty = class_of_element ty.dimensions ty.element

-- The class or interface that the result of an invokedynamic is. Of a descriptor that is the text of a signature it is `class_of` of the
-- signature's result, by the law `made_objects_are_marked`; no class file has another descriptor there (4.4.10).
abbrev pub named_result : Operand (List ℕ) → Option (List ℕ)
named_result (operand.Method ref) = None
named_result (operand.CallSite specifier) = result_class specifier.ty

-- the class of which the instruction makes an object: its result, as loader 0 has recorded it
abbrev pub made_by : Classes → Site → Option ℕ
made_by cs site = option_and_then (lookup cs 0) (named_result site.operand)

abbrev pub made_in_method : Classes → Method → List ℕ
made_in_method cs method = filter_map (made_by cs) method.sites

abbrev pub made_in_class : Classes → Class → List ℕ
made_in_class cs row = flat_map (made_in_method cs) row.file.methods

-- the classes of which some invokedynamic makes an object
abbrev pub made : Classes → List ℕ
made cs = flat_map (made_in_class cs) cs.rows

-- c is at or above the interface d
abbrev pub is_above : Classes → ℕ → ℕ → Bool
is_above cs c d = is_interface cs d && is_ancestor cs c d

-- an object that is made may be a c, and of a class that no file has
abbrev pub may_be_made : Classes → ℕ → Bool
may_be_made cs c = list_any (is_above cs c) (made cs)

abbrev pub made_receivers : Classes → Key → Bool
made_receivers cs (key.Receivers c) = may_be_made cs c
made_receivers cs (key.Target c) = false
made_receivers cs (key.Valid p) = false

-- whether it names an interface: of the instructions that look at a receiver invokeinterface alone (6.5)
abbrev pub names_interface : Kind → Bool
names_interface Interface = true
names_interface Virtual = false
names_interface Special = false
names_interface Static = false
names_interface Dynamic = false

-- the row names an interface, and its link looks at receivers among which such objects may be
abbrev pub meets_made : Classes → Row → Bool
meets_made cs row = names_interface row.kind && list_any (made_receivers cs) row.rests_on

-- ---- which rows meet such objects, by a mark for each class

abbrev pub marks_of : Classes → List Bool
marks_of cs = map (may_be_made cs) (numbers cs)

abbrev pub is_marked : List Bool → ℕ → Bool
is_marked marks c = get_or marks c false

abbrev pub marked_receivers : List Bool → Key → Bool
marked_receivers marks (key.Receivers c) = is_marked marks c
marked_receivers marks (key.Target c) = false
marked_receivers marks (key.Valid p) = false

abbrev pub meets_marks : List Bool → Row → Bool
meets_marks marks row = names_interface row.kind && list_any (marked_receivers marks) row.rests_on
