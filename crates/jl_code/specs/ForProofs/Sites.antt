-- What an invocation names, found by tests. No public clause cites this.
use Rattle.std.specs.Prelude.{◌≡◌, ℕ, Bool, false, ◌==◌, ◌&&◌, nat_le, is_some, List, Option, Some, None, ⊤}
use Rattle.std.specs.Option.{option_map_or}
use Rattle.std.specs.List.{list_any}
use Rattle.std.specs.Str.{bytes_eq}
use Rattle.jl_code.specs.declared.code_fault.CodeFault.{CodeFault}
use Rattle.jl_code.specs.declared.code_fault.CodeFault.TheVariants.{BadOperand, Memory}
use Rattle.jl_code.specs.declared.instruction.Instruction.{Instruction}
use Rattle.jl_code.specs.Known.{invoke_rows}
use Rattle.jl_pool.specs.declared.constant.Constant.{Constant}
use Rattle.jl_pool.specs.declared.constant.Constant.TheVariants.{Methodref, InterfaceMethodref, InvokeDynamic}
use Rattle.jl_pool.specs.Pools.{Pool, Signed, constant_at, class_text_at, signed_at}
use Rattle.jl_code.specs.Instructions.{invoke_row_in}
use Rattle.jl_code.specs.Codes.{may_name, most_slots, tail_of, OperandFits}
use Rattle.jl_pool.specs.ForProofs.Forms.{method_slots}

-- whether an invocation may name an entry of this tag
abbrev pub may_name_tag : ℕ → ℕ → Bool
may_name_tag opcode tag = option_map_or (λ row. list_any (λ t. t == tag) row.tags) (invoke_row_in invoke_rows opcode) false

-- whether it may have this name, these slots, and these bytes after the number
abbrev pub fits : ℕ → List ℕ → List ℕ → ℕ → Bool
fits opcode tail name slots = may_name opcode name && (nat_le slots (most_slots opcode) && bytes_eq tail (tail_of opcode slots))

abbrev pub signed_fits : ℕ → List ℕ → Option Signed → Bool
signed_fits opcode tail (Some s) = option_map_or (fits opcode tail s.name) (method_slots s.ty) false
signed_fits opcode tail None = false

abbrev pub names_method : Pool → ℕ → List ℕ → ℕ → ℕ → Bool
names_method pool opcode tail owner signed = is_some (class_text_at pool owner) && signed_fits opcode tail (signed_at pool signed)

-- whether an invocation may name what this constant names, with these bytes after the number
abbrev pub is_invoked_of : Pool → ℕ → List ℕ → Constant → Bool
is_invoked_of pool opcode tail (Methodref owner signed) = may_name_tag opcode 10 && names_method pool opcode tail owner signed
is_invoked_of pool opcode tail (InterfaceMethodref owner signed) = may_name_tag opcode 11 && names_method pool opcode tail owner signed
is_invoked_of pool opcode tail (InvokeDynamic bootstrap signed) = may_name_tag opcode 18 && signed_fits opcode tail (signed_at pool signed)
is_invoked_of pool opcode tail _ = false

abbrev pub is_invoked : Pool → ℕ → ℕ → List ℕ → Bool
is_invoked pool opcode number tail = option_map_or (is_invoked_of pool opcode tail) (constant_at pool number) false

-- why an instruction at a place has no site
abbrev pub IsSiteFault : Pool → ℕ → Instruction → CodeFault → Type 0
IsSiteFault pool pc i (BadOperand at) = (at ≡ pc) × ¬ OperandFits pool i
IsSiteFault pool pc i Memory = ⊤
IsSiteFault pool pc i _ = ⊥
