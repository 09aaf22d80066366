-- Instructions and their texts (JVMS 6.5).
use Rattle.std.specs.Prelude.{◌≡◌, ℕ, ◌+◌, ◌*◌, ◌-◌, ◌<◌, ◌≤◌, ◌^◌, ◌%◌, Bool, ◌==◌, ◌&&◌, nat_le, nat_lt, if◌then◌else◌, List, [], ◌∷◌, ◌++◌, length}
use Rattle.std.specs.Prelude.{Option, Some, None}
use Rattle.std.specs.Option.{option_map_or}
use Rattle.jl_code.specs.declared.instruction.Instruction.{Instruction}
use Rattle.jl_code.specs.declared.instruction.Instruction.TheVariants.{Plain, Wide, Invoke, TableSwitch, LookupSwitch}
use Rattle.jl_pool.specs.Numbers.{u1, u2, u4}
use Rattle.jl_code.specs.Known.{Opcodes, plain_opcodes, wide_opcodes, InvokeRow, invoke_rows}

abbrev pub instruction_text : Instruction → List ℕ
instruction_text (Plain opcode operands) = u1 opcode ++ operands
instruction_text (Wide opcode operands) = u1 196 ++ (u1 opcode ++ operands)
instruction_text (Invoke opcode number tail) = u1 opcode ++ (u2 number ++ tail)
instruction_text (TableSwitch padding default low high offsets) = u1 170 ++ (padding ++ (u4 default ++ (u4 low ++ (u4 high ++ offsets))))
instruction_text (LookupSwitch padding default count pairs) = u1 171 ++ (padding ++ (u4 default ++ (u4 count ++ pairs)))

-- ---- conditions

abbrev pub holds_opcode : ℕ → Opcodes → Bool
holds_opcode opcode row = nat_le row.first opcode && nat_le opcode row.last

-- how many operand bytes the table gives the opcode
abbrev pub operands_in : List Opcodes → ℕ → Option ℕ
operands_in [] opcode = None
operands_in (row ∷ rows) opcode = if holds_opcode opcode row then Some row.operands else operands_in rows opcode

-- the row of an invocation
abbrev pub invoke_row_in : List InvokeRow → ℕ → Option InvokeRow
invoke_row_in [] opcode = None
invoke_row_in (row ∷ rows) opcode = if row.opcode == opcode then Some row else invoke_row_in rows opcode

abbrev pub tail_in : List InvokeRow → ℕ → Option ℕ
tail_in rows opcode = option_map_or (λ row. Some row.tail) (invoke_row_in rows opcode) None

-- 32 bits as a number with sign, counted up from the least
abbrev pub from_least : ℕ → ℕ
from_least bits = if nat_lt bits (2 ^ 31) then bits + 2 ^ 31 else bits - 2 ^ 31

-- padding up to a multiple of 4 from the code's start
pub record Pads (padding : List ℕ) (pc : ℕ) : Type 0 where
  pub few : length padding < 4
  pub aligned : (pc + 1 + length padding) % 4 ≡ 0

pub record IsTableSwitch (pc : ℕ) (padding : List ℕ) (default low high : ℕ) (offsets : List ℕ) : Type 0 where
  pub pads : Pads padding pc
  pub default_size : default < 2 ^ 32
  pub low_size : low < 2 ^ 32
  pub high_size : high < 2 ^ 32
  pub order : from_least low ≤ from_least high
  -- an offset of 4 bytes for each number from low to high
  pub count : length offsets + 4 * from_least low ≡ 4 * (from_least high + 1)

pub record IsLookupSwitch (pc : ℕ) (padding : List ℕ) (default count : ℕ) (pairs : List ℕ) : Type 0 where
  pub pads : Pads padding pc
  pub default_size : default < 2 ^ 32
  pub not_negative : count < 2 ^ 31
  -- a match and an offset, 4 bytes each
  pub sizes : length pairs ≡ 8 * count

-- the instruction may stand at this place of a code
abbrev pub MayStand : ℕ → Instruction → Type 0
MayStand pc (Plain opcode operands) = operands_in plain_opcodes opcode ≡ Some (length operands)
MayStand pc (Wide opcode operands) = operands_in wide_opcodes opcode ≡ Some (length operands)
MayStand pc (Invoke opcode number tail) = (tail_in invoke_rows opcode ≡ Some (length tail)) × (number < 2 ^ 16)
MayStand pc (TableSwitch padding default low high offsets) = IsTableSwitch pc padding default low high offsets
MayStand pc (LookupSwitch padding default count pairs) = IsLookupSwitch pc padding default count pairs
