-- A method descriptor (JVMS SE 17 §4.3.3) read at the front: which types stand there and what is left. Only
-- private clauses cite this.
use Rattle.std.specs.Prelude.{◌≡◌, ℕ, ◌-◌, ◌≤◌, List, [], ◌∷◌, ◌++◌, length, Option, Some, None, Result, Ok, Err}
use Rattle.std.specs.Prelude.{if◌then◌else◌, ◌==◌, ⊤}
use Rattle.std.specs.List.{flat_map, sum_by, AllByRecursion}
use Rattle.std.specs.Str.{byte}
use Rattle.jl_names.specs.declared.descriptor.FieldType.{FieldType}
use Rattle.jl_names.specs.declared.method_type.Broken.{Broken}
use Rattle.jl_names.specs.declared.method_type.Broken.TheVariants.{At, Memory}
use Rattle.jl_names.specs.Descriptors.{field_text, IsFieldType, StopsAt}
use Rattle.jl_names.specs.MethodTypes.{Signature, method_text, slots_of, IsSignature, IsMethodText}
use Rattle.jl_names.specs.ForProofs.Steps.{◌>>=◌}
use Rattle.jl_names.specs.ForProofs.Descriptors.{field_at}

-- what comes after this byte, if it stands at the front
unfoldable pub after_byte : ℕ → List ℕ → Option (List ℕ)
after_byte wanted [] = None
after_byte wanted (b ∷ bs) = if b == wanted then Some bs else None

-- these types stand at the front, and this is left
pub record Stand (text : List ℕ) (types : List FieldType) (left : List ℕ) : Type 0 where
  pub each : AllByRecursion IsFieldType types
  pub bytes : text ≡ flat_map field_text types ++ left

-- after whole parameters no bracket closes, and no further type stands
pub record StopsAfter (text left : List ℕ) : Type 0 where
  pub types : List FieldType
  pub middle : List ℕ
  pub stand : Stand text types middle
  pub goes_on : after_byte (byte ")") middle ≡ None
  pub stops : field_at middle ≡ Err left

-- why no closed list of parameters stands at the front
abbrev pub IsBroken : List ℕ → Broken → Type 0
IsBroken text (At left) = StopsAfter text left.now
IsBroken text Memory = ⊤

-- a result's type, none for void
unfoldable pub return_at : List ℕ → Result (Option FieldType × List ℕ) (List ℕ)
return_at [] = field_at [] >>= λ x. Ok (Some x.0, x.1)
return_at (b ∷ bs) =
    if b == byte "V" then Ok (None, bs) else (field_at (b ∷ bs) >>= λ x. Ok (Some x.0, x.1))

-- a method's types stand at the front, and this is left
pub record MethodStands (text : List ℕ) (m : Signature) (left : List ℕ) : Type 0 where
  pub signature : IsSignature m
  pub bytes : text ≡ method_text m ++ left

-- why no method type stands at the front
abbrev pub IsStopped : List ℕ → Broken → Type 0
IsStopped text (At left) =
    StopsAt IsMethodText text (length text - length left.now) × (length left.now ≤ length text)
IsStopped text Memory = ⊤

-- types of so many slots, 255 at most, stand at the front, and this is left
pub record SlotsStand (text : List ℕ) (slots : ℕ) (left : List ℕ) : Type 0 where
  pub types : List FieldType
  pub stand : Stand text types left
  pub slots_is : sum_by slots_of types ≡ slots
  pub few : slots ≤ 255

-- the text is parameters of 255 slots at most, a closing bracket and more
abbrev pub FewSlots : List ℕ → Type 0
FewSlots text = (slots : ℕ) × (left : List ℕ) × SlotsStand text slots (byte ")" ∷ left)
