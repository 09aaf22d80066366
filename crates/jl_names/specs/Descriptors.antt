-- Field descriptors (JVMS SE 17 §4.3.2): types as data, their texts, and where a text stops being one.
use Rattle.std.specs.Prelude.{◌≡◌, ℕ, ◌+◌, ◌<◌, ◌≤◌, IsTrue, List, ◌++◌, length, take, replicate, codes, ⊤}
use Rattle.std.specs.Str.{byte}
use Rattle.jl_names.specs.declared.descriptor.Element.{Element}
use Rattle.jl_names.specs.declared.descriptor.Element.TheVariants.{Byte, Char, Double, Float, Int}
use Rattle.jl_names.specs.declared.descriptor.Element.TheVariants.{Long, Short, Boolean, Class}
use Rattle.jl_names.specs.declared.descriptor.FieldType.{FieldType}
use Rattle.jl_names.specs.declared.fault.NameFault.{NameFault}
use Rattle.jl_names.specs.declared.fault.NameFault.TheVariants.{BadDescriptor}
use Rattle.jl_names.specs.ClassNames.{is_class_name}

abbrev pub element_text : Element → List ℕ
element_text Byte = codes "B"
element_text Char = codes "C"
element_text Double = codes "D"
element_text Float = codes "F"
element_text Int = codes "I"
element_text Long = codes "J"
element_text Short = codes "S"
element_text Boolean = codes "Z"
element_text (Class name) = codes "L" ++ name ++ codes ";"

-- a bracket for each dimension, and the element
abbrev pub field_text : FieldType → List ℕ
field_text ty = replicate ty.dimensions (byte "[") ++ element_text ty.element

abbrev pub IsElement : Element → Type 0
IsElement (Class name) = IsTrue (is_class_name name)
IsElement _ = ⊤

-- a class by its name, and 255 dimensions at most
pub record IsFieldType (ty : FieldType) : Type 0 where
  pub dimensions : ty.dimensions ≤ 255
  pub element : IsElement ty.element

abbrev pub IsFieldDescriptor : List ℕ → Type 0
IsFieldDescriptor text = (ty : FieldType) × IsFieldType ty × (text ≡ field_text ty)

-- ---- faults

-- some text of this kind begins so
abbrev pub CanGoOn : (List ℕ → Type 0) → List ℕ → Type 0
CanGoOn IsKind front = (more : List ℕ) × IsKind (front ++ more)

-- The text is none of this kind: it can go on up to this place, and not with the byte there. If the place
-- is the text's length, the text ends too early.
pub record StopsAt (IsKind : List ℕ → Type 0) (text : List ℕ) (at : ℕ) : Type 0 where
  pub within : at ≤ length text
  pub before : CanGoOn IsKind (take at text)
  pub here : at < length text → ¬ CanGoOn IsKind (take (at + 1) text)
  pub none : ¬ IsKind text

-- why the text is no field descriptor
abbrev pub IsFieldFault : List ℕ → NameFault → Type 0
IsFieldFault text (BadDescriptor at) = StopsAt IsFieldDescriptor text at
IsFieldFault text _ = ⊥
