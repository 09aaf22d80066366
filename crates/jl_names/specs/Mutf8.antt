-- Modified UTF-8 (JVMS SE 17 §4.4.7): 16-bit units, and the bytes that stand for them.
use Rattle.std.specs.Prelude.{◌≡◌, ◌≢◌, ℕ, ◌+◌, ◌/◌, ◌%◌, ◌^◌, ◌<◌, nat_lt, nat_le, ◌&&◌, if◌then◌else◌}
use Rattle.std.specs.Prelude.{List, [], ◌∷◌, ◌++◌, length, ⊤}
use Rattle.std.specs.List.{flat_map, AllByRecursion}
use Rattle.jl_names.specs.declared.fault.NameFault.{NameFault}
use Rattle.jl_names.specs.declared.fault.NameFault.TheVariants.{BadByte, Truncated, Memory}

-- A unit from 0001 to 007f is one byte, 0000 and one up to 07ff two bytes, any other three.
abbrev pub unit_bytes : ℕ → List ℕ
unit_bytes u =
    if nat_lt 0 u && nat_lt u 0x80 then u ∷ []
    else (if nat_lt u 0x800 then (0xc0 + u / 64) ∷ (0x80 + u % 64) ∷ []
    else (0xe0 + u / 4096) ∷ (0x80 + u / 64 % 64) ∷ (0x80 + u % 64) ∷ [])

-- the units' bytes, one unit after another
abbrev pub mutf8 : List ℕ → List ℕ
mutf8 units = flat_map unit_bytes units

-- each is a number of 16 bits
abbrev pub AreUnits : List ℕ → Type 0
AreUnits units = AllByRecursion (λ u. u < 2 ^ 16) units

-- the text is the modified UTF-8 of these units
pub record IsMutf8 (text units : List ℕ) : Type 0 where
  pub in_range : AreUnits units
  pub bytes : text ≡ mutf8 units

-- the text is the modified UTF-8 of some units
abbrev pub IsText : List ℕ → Type 0
IsText text = (units : List ℕ) × IsMutf8 text units

-- ---- faults

-- the text begins with these units, and this is left
pub record Begins (text units left : List ℕ) : Type 0 where
  pub in_range : AreUnits units
  pub bytes : text ≡ mutf8 units ++ left

-- how many bytes a unit has whose first byte this is; 0 if no unit's bytes begin so
abbrev pub bytes_asked : ℕ → ℕ
bytes_asked first =
    if nat_le 0x01 first && nat_le first 0x7f then 1
    else (if nat_le 0xc0 first && nat_le first 0xdf then 2
    else (if nat_le 0xe0 first && nat_le first 0xef then 3 else 0))

-- some bytes, and fewer than the first of them asks for
abbrev pub IsCutUnit : List ℕ → Type 0
IsCutUnit [] = ⊥
IsCutUnit (first ∷ rest) = length (first ∷ rest) < bytes_asked first

-- some bytes, enough for what the first of them asks for, and no unit's bytes begin them
pub record IsBadUnit (left : List ℕ) : Type 0 where
  pub some : left ≢ []
  pub enough : ¬ IsCutUnit left
  pub none : (u : ℕ) (rest : List ℕ) → u < 2 ^ 16 → left ≢ unit_bytes u ++ rest

-- Why the text is not the modified UTF-8 of units: the first fault from the left, since whole units stand
-- before it. Want of memory says nothing of the text.
abbrev pub IsMutf8Fault : List ℕ → NameFault → Type 0
IsMutf8Fault text (BadByte at) =
    (units : List ℕ) × (left : List ℕ) × Begins text units left
    × (at ≡ length (mutf8 units)) × IsBadUnit left
IsMutf8Fault text Truncated =
    (units : List ℕ) × (left : List ℕ) × Begins text units left × IsCutUnit left
IsMutf8Fault text Memory = ⊤
IsMutf8Fault text _ = ⊥
