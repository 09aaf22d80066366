-- Plain instructions: of a fixed length, and no invocations. No public clause cites this.
use Rattle.std.specs.Prelude.{◌≡◌, ℕ, ◌+◌, List, ◌++◌, length, Some}
use Rattle.std.specs.Option.{option_map_or}
use Rattle.std.specs.List.{AllByRecursion}
use Rattle.jl_code.specs.declared.instruction.Instruction.{Instruction}
use Rattle.jl_code.specs.declared.instruction.Instruction.TheVariants.{Plain}
use Rattle.jl_code.specs.Known.{plain_opcodes}
use Rattle.jl_code.specs.Instructions.{operands_in}
use Rattle.jl_code.specs.Codes.{code_bytes}

-- how many bytes a plain instruction takes with its opcode; 0 if no plain instruction has that
abbrev pub plain_length : ℕ → ℕ
plain_length opcode = option_map_or (λ operands. operands + 1) (operands_in plain_opcodes opcode) 0

abbrev pub IsPlain : Instruction → Type 0
IsPlain (Plain opcode operands) = operands_in plain_opcodes opcode ≡ Some (length operands)
IsPlain _ = ⊥

-- plain instructions stand at the front, and this follows them
pub record IsAfterPlain (bytes rest : List ℕ) : Type 0 where
  pub is : List Instruction
  pub bytes_are : bytes ≡ code_bytes is ++ rest
  pub plain : AllByRecursion IsPlain is
