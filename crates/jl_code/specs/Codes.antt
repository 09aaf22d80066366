-- A code: instructions one after another, and its invocations (JVMS 4.7.3, 4.9.1).
use Rattle.std.specs.Prelude.{◌≡◌, ℕ, ◌+◌, ◌≤◌, Bool, not, ◌==◌, ◌&&◌, ◌||◌, if◌then◌else◌, IsTrue, List, [], ◌∷◌, ◌++◌, length, codes, Option}
use Rattle.std.specs.Prelude.{Some, None, ⊤}
use Rattle.std.specs.List.{flat_map, AllByRecursion}
use Rattle.std.specs.Str.{bytes_eq}
use Rattle.jl_names.specs.MethodTypes.{TakesSlots}
use Rattle.jl_class.specs.declared.site.Kind.{Kind}
use Rattle.jl_class.specs.declared.site.Kind.TheVariants.{Virtual, Special, Static, Interface, Dynamic}
use Rattle.jl_class.specs.declared.site.Operand.{Operand}
use Rattle.jl_class.specs.declared.site.Operand.TheVariants.{Method, CallSite}
use Rattle.jl_class.specs.Site.{Site}
use Rattle.jl_code.specs.Known.{InvokeRow, invoke_rows}
use Rattle.jl_pool.specs.Pools.{Pool, has_tag}
use Rattle.jl_code.specs.declared.instruction.Instruction.{Instruction}
use Rattle.jl_code.specs.declared.instruction.Instruction.TheVariants.{Invoke}
use Rattle.jl_code.specs.Instructions.{instruction_text, MayStand, invoke_row_in}
use Rattle.jl_class.specs.Operands.{operand_at}
use Rattle.jl_class.specs.Special.{begins_special}

abbrev pub code_bytes : List Instruction → List ℕ
code_bytes instructions = flat_map instruction_text instructions

-- each may stand where the ones before it end
abbrev pub MayStandFrom : ℕ → List Instruction → Type 0
MayStandFrom pc [] = ⊤
MayStandFrom pc (i ∷ is) = MayStand pc i × MayStandFrom (pc + length (instruction_text i)) is

-- ---- what is invoked

abbrev pub kind_of : ℕ → Kind
kind_of opcode =
    if opcode == 182 then Virtual else (if opcode == 183 then Special else (if opcode == 184 then Static
    else (if opcode == 185 then Interface else Dynamic)))

abbrev pub site_list : ℕ → ℕ → Option (Operand (List ℕ)) → List Site
site_list pc opcode None = []
site_list pc opcode (Some operand) = record { pc = pc; kind = kind_of opcode; operand = operand } ∷ []

abbrev pub site_at : Pool → ℕ → Instruction → List Site
site_at pool pc (Invoke opcode number tail) = site_list pc opcode (operand_at pool number)
site_at pool pc _ = []

-- the invocations in order, each at the length of what stands before it
abbrev pub sites_from : Pool → ℕ → List Instruction → List Site
sites_from pool pc [] = []
sites_from pool pc (i ∷ is) = site_at pool pc i ++ sites_from pool (pc + length (instruction_text i)) is

-- ---- conditions

abbrev pub operand_name : Operand (List ℕ) → List ℕ
operand_name (Method r) = r.name
operand_name (CallSite c) = c.name

abbrev pub operand_type : Operand (List ℕ) → List ℕ
operand_type (Method r) = r.ty
operand_type (CallSite c) = c.ty

-- no method whose name begins with < is invoked, but <init> by invokespecial
abbrev pub may_name : ℕ → List ℕ → Bool
may_name opcode name = not (begins_special name) || ((opcode == 183) && bytes_eq name (codes "<init>"))

-- the bytes after the number: those of invokeinterface are the slots with the receiver's and a zero, those of invokedynamic two zeros
abbrev pub tail_of : ℕ → ℕ → List ℕ
tail_of opcode slots = if opcode == 185 then (slots + 1) ∷ 0 ∷ [] else (if opcode == 186 then 0 ∷ 0 ∷ [] else [])

-- the most slots of parameters: a receiver takes one of 255
abbrev pub most_slots : ℕ → ℕ
most_slots opcode = if (opcode == 184) || (opcode == 186) then 255 else 254

-- what an invocation names, and the bytes after the number of it
pub record Invokes (pool : Pool) (opcode number : ℕ) (tail : List ℕ) : Type 0 where
  pub row : InvokeRow
  pub found : invoke_row_in invoke_rows opcode ≡ Some row
  pub tagged : IsTrue (has_tag pool row.tags number)
  pub operand : Operand (List ℕ)
  pub there : operand_at pool number ≡ Some operand
  pub named : IsTrue (may_name opcode (operand_name operand))
  pub slots : ℕ
  pub counted : TakesSlots (operand_type operand) slots
  pub few : slots ≤ most_slots opcode
  pub later : tail ≡ tail_of opcode slots

abbrev pub OperandFits : Pool → Instruction → Type 0
OperandFits pool (Invoke opcode number tail) = Invokes pool opcode number tail
OperandFits pool _ = ⊤

-- the bytes are these instructions
pub record IsCode (pool : Pool) (bytes : List ℕ) (instructions : List Instruction) : Type 0 where
  pub bytes_are : bytes ≡ code_bytes instructions
  pub places : MayStandFrom 0 instructions
  pub operands : AllByRecursion (OperandFits pool) instructions
