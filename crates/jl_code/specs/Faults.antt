-- Why bytes are no code (JVMS 4.9.1).
use Rattle.std.specs.Prelude.{◌≡◌, ◌≢◌, ℕ, ◌<◌, ◌≤◌, ◌^◌, Bool, true, not, ◌==◌, ◌&&◌, ◌||◌, IsTrue, IsFalse, List, [], ◌∷◌, ◌++◌, length, ⊤, ◌⊎◌}
use Rattle.std.specs.Prelude.{is_some}
use Rattle.jl_pool.specs.Numbers.{u4}
use Rattle.jl_pool.specs.Pools.{Pool}
use Rattle.jl_code.specs.declared.code_fault.CodeFault.{CodeFault}
use Rattle.jl_code.specs.declared.code_fault.CodeFault.TheVariants as code
use Rattle.jl_code.specs.declared.instruction.Instruction.{Instruction}
use Rattle.jl_code.specs.Known.{plain_opcodes, wide_opcodes, invoke_rows}
use Rattle.jl_code.specs.Instructions.{instruction_text, MayStand, Pads, operands_in, tail_in, from_least}
use Rattle.jl_code.specs.Codes.{code_bytes, MayStandFrom, OperandFits}

-- whole instructions, which end at pc, and what is left
pub record Runs (bytes : List ℕ) (instructions : List Instruction) (pc : ℕ) (left : List ℕ) : Type 0 where
  pub bytes_are : bytes ≡ code_bytes instructions ++ left
  pub places : MayStandFrom 0 instructions
  pub place : pc ≡ length (code_bytes instructions)

-- an instruction begins so: of a fixed length, an invocation, tableswitch, lookupswitch, or wide
abbrev pub is_opcode : ℕ → Bool
is_opcode b = is_some (operands_in plain_opcodes b) || (is_some (tail_in invoke_rows b) || ((b == 170) || ((b == 171) || (b == 196))))

abbrev pub begins_opcode : List ℕ → Bool
begins_opcode [] = true
begins_opcode (b ∷ []) = is_opcode b
begins_opcode (b ∷ c ∷ rest) = is_opcode b && (not (b == 196) || is_some (operands_in wide_opcodes c))

-- a switch stands there up to the numbers that give its size, and these can't be
abbrev pub IsBadSwitch : ℕ → List ℕ → Type 0
IsBadSwitch pc left = (padding : List ℕ) × (default : ℕ) × (rest : List ℕ) × Pads padding pc
    × (((low : ℕ) × (high : ℕ) × (left ≡ 170 ∷ (padding ++ (u4 default ++ (u4 low ++ (u4 high ++ rest))))) × (low < 2 ^ 32) × (high < 2 ^ 32)
    × (from_least high < from_least low))
    ⊎ ((pairs : ℕ) × (left ≡ 171 ∷ (padding ++ (u4 default ++ (u4 pairs ++ rest)))) × (pairs < 2 ^ 32) × (2 ^ 31 ≤ pairs)))

-- why the bytes are no code; BadLayout is no fault of theirs
abbrev pub IsScanFault : Pool → List ℕ → CodeFault → Type 0
IsScanFault p bytes (code.BadOpcode pc) = (is : List Instruction) × (left : List ℕ) × Runs bytes is pc left × IsFalse (begins_opcode left)
IsScanFault p bytes (code.BadSwitch pc) = (is : List Instruction) × (left : List ℕ) × Runs bytes is pc left × IsTrue (begins_opcode left) × IsBadSwitch pc left
IsScanFault p bytes (code.CutShort pc) = (is : List Instruction) × (left : List ℕ) × Runs bytes is pc left × (left ≢ [])
    × IsTrue (begins_opcode left) × ¬ IsBadSwitch pc left × ((i : Instruction) (rest : List ℕ) → MayStand pc i → left ≢ instruction_text i ++ rest)
IsScanFault p bytes (code.BadOperand pc) = (is : List Instruction) × (i : Instruction) × (rest : List ℕ) × Runs bytes is pc (instruction_text i ++ rest)
    × MayStand pc i × ¬ OperandFits p i
IsScanFault p bytes code.BadLayout = ⊥
IsScanFault p bytes code.Memory = ⊤
