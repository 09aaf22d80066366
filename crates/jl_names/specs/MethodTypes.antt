-- Method descriptors (JVMS SE 17 §4.3.3): types as data, their texts, and the slots that parameters take.
use Rattle.std.specs.Prelude.{◌≡◌, ℕ, ◌<◌, ◌≤◌, Bool, true, false, ◌&&◌, ◌==◌, if◌then◌else◌, List, ◌++◌, codes}
use Rattle.std.specs.Prelude.{Option, Some, None, IfSome, ⊤}
use Rattle.std.specs.List.{flat_map, sum_by, AllByRecursion}
use Rattle.jl_names.specs.declared.descriptor.Element.{Element}
use Rattle.jl_names.specs.declared.descriptor.Element.TheVariants.{Long, Double}
use Rattle.jl_names.specs.declared.descriptor.FieldType.{FieldType}
use Rattle.jl_names.specs.declared.fault.NameFault.{NameFault}
use Rattle.jl_names.specs.declared.fault.NameFault.TheVariants.{BadDescriptor, TooManySlots, Memory}
use Rattle.jl_names.specs.Descriptors.{field_text, IsFieldType, StopsAt}

-- the types of a method's parameters and of its result; no result is void
pub record Signature : Type 0 where
  pub parameters : List FieldType
  pub returns : Option FieldType

abbrev pub return_text : Option FieldType → List ℕ
return_text None = codes "V"
return_text (Some ty) = field_text ty

abbrev pub method_text : Signature → List ℕ
method_text m = codes "(" ++ (flat_map field_text m.parameters ++ (codes ")" ++ return_text m.returns))

-- field types, however many slots they take
pub record IsSignature (m : Signature) : Type 0 where
  pub parameters : AllByRecursion IsFieldType m.parameters
  pub returns : IfSome m.returns IsFieldType

-- ---- slots

abbrev pub is_wide : Element → Bool
is_wide Long = true
is_wide Double = true
is_wide _ = false

-- a long and a double take two, any other type one, an array of them too
abbrev pub slots_of : FieldType → ℕ
slots_of ty = if (ty.dimensions == 0) && is_wide ty.element then 2 else 1

abbrev pub slots : Signature → ℕ
slots m = sum_by slots_of m.parameters

-- ---- texts

-- the grammar alone, without the limit of slots
abbrev pub IsMethodText : List ℕ → Type 0
IsMethodText text = (m : Signature) × IsSignature m × (text ≡ method_text m)

-- the text is a method descriptor by the grammar, and its parameters take so many slots
abbrev pub TakesSlots : List ℕ → ℕ → Type 0
TakesSlots text n = (m : Signature) × IsSignature m × (text ≡ method_text m) × (slots m ≡ n)

abbrev pub IsMethodDescriptor : List ℕ → Type 0
IsMethodDescriptor text = (n : ℕ) × (n ≤ 255) × TakesSlots text n

-- ---- faults

-- Why the text is no method descriptor: a break of the grammar is told before too many slots. Want of memory
-- says nothing of the text.
abbrev pub IsMethodFault : List ℕ → NameFault → Type 0
IsMethodFault text (BadDescriptor at) = StopsAt IsMethodText text at
IsMethodFault text TooManySlots = (n : ℕ) × (255 < n) × TakesSlots text n
IsMethodFault text Memory = ⊤
IsMethodFault text _ = ⊥
