-- An instruction at the front of bytes at a place of a code, and what is left. No public clause cites this.
use Rattle.std.specs.Prelude.{◌≡◌, ℕ, ◌+◌, ◌*◌, ◌-◌, ◌^◌, ◌%◌, ◌==◌, nat_le, nat_lt, if◌then◌else◌, List, [], ◌∷◌, Option, Some, None, Result, Ok, Err}
use Rattle.jl_code.specs.declared.instruction.Instruction.{Instruction}
use Rattle.jl_code.specs.declared.instruction.Instruction.TheVariants.{Plain, Wide, Invoke, TableSwitch, LookupSwitch}
use Rattle.jl_code.specs.declared.instruction.Stop.{Stop}
use Rattle.jl_code.specs.declared.instruction.Stop.TheVariants.{Cut, Opcode, Switch}
use Rattle.jl_code.specs.Known.{plain_opcodes, wide_opcodes, invoke_rows}
use Rattle.jl_code.specs.Instructions.{operands_in, tail_in, from_least}
use Rattle.jl_pool.specs.ForProofs.Fields.{◌>>=◌, number_at, bytes_at}

abbrev pub Gives : {X Y : Type 0} → (X → Y) → Result X Stop → Result Y Stop → Type 0
Gives view (Ok x) read = read ≡ Ok (view x)
Gives view (Err e) read = read ≡ Err e

abbrev pub or_cut : Option (Instruction × List ℕ) → Result (Instruction × List ℕ) Stop
or_cut (Some x) = Ok x
or_cut None = Err Cut

-- what is made of a part, if it is there
abbrev pub with_part : {X : Type 0} → Option X → (X → Result (Instruction × List ℕ) Stop) → Result (Instruction × List ℕ) Stop
with_part (Some x) next = next x
with_part None next = Err Cut

-- ---- of a fixed length

abbrev pub invocation_at : ℕ → ℕ → List ℕ → Option (Instruction × List ℕ)
invocation_at opcode tail bytes = number_at 2 bytes >>= λ n. bytes_at tail n.1 >>= λ t. Some (Invoke opcode n.0 t.0, t.1)

abbrev pub plain_at : ℕ → ℕ → List ℕ → Option (Instruction × List ℕ)
plain_at opcode count bytes = bytes_at count bytes >>= λ o. Some (Plain opcode o.0, o.1)

abbrev pub by_row : Option ℕ → Option ℕ → ℕ → List ℕ → Result (Instruction × List ℕ) Stop
by_row operands (Some tail) opcode bytes = or_cut (invocation_at opcode tail bytes)
by_row (Some count) None opcode bytes = or_cut (plain_at opcode count bytes)
by_row None None opcode bytes = Err Opcode

unfoldable pub fixed_at : ℕ → List ℕ → Result (Instruction × List ℕ) Stop
fixed_at opcode bytes = by_row (operands_in plain_opcodes opcode) (tail_in invoke_rows opcode) opcode bytes

-- ---- after a wide

abbrev pub wide_by_row : Option ℕ → ℕ → List ℕ → Result (Instruction × List ℕ) Stop
wide_by_row (Some count) opcode bytes = or_cut (bytes_at count bytes >>= λ o. Some (Wide opcode o.0, o.1))
wide_by_row None opcode bytes = Err Opcode

unfoldable pub wide_at : List ℕ → Result (Instruction × List ℕ) Stop
wide_at [] = Err Cut
wide_at (opcode ∷ bytes) = wide_by_row (operands_in wide_opcodes opcode) opcode bytes

-- ---- switches, after their opcode at pc

unfoldable pub padding_at : ℕ → List ℕ → Option (List ℕ × List ℕ)
padding_at pc bytes = bytes_at (3 - pc % 4) bytes

-- the padding, the default, and low or the number of pairs
unfoldable pub head_at : ℕ → List ℕ → Option ((List ℕ × ℕ × ℕ) × List ℕ)
head_at pc bytes = do
  padding ← padding_at pc bytes
  default ← number_at 4 padding.1
  number ← number_at 4 default.1
  Some ((padding.0, default.0, number.0), number.1)

abbrev pub offsets_at : List ℕ × ℕ × ℕ → ℕ → List ℕ → Result (Instruction × List ℕ) Stop
offsets_at head high bytes =
    if nat_lt (from_least high) (from_least head.2) then Err Switch
    else or_cut (bytes_at (4 * (from_least high - from_least head.2 + 1)) bytes >>= λ o. Some (TableSwitch head.0 head.1 head.2 high o.0, o.1))

unfoldable pub table_switch_at : ℕ → List ℕ → Result (Instruction × List ℕ) Stop
table_switch_at pc bytes = with_part (head_at pc bytes) (λ head. with_part (number_at 4 head.1) (λ high. offsets_at head.0 high.0 high.1))

abbrev pub pairs_at : List ℕ × ℕ × ℕ → List ℕ → Result (Instruction × List ℕ) Stop
pairs_at head bytes =
    if nat_le (2 ^ 31) head.2 then Err Switch
    else or_cut (bytes_at (8 * head.2) bytes >>= λ p. Some (LookupSwitch head.0 head.1 head.2 p.0, p.1))

unfoldable pub lookup_switch_at : ℕ → List ℕ → Result (Instruction × List ℕ) Stop
lookup_switch_at pc bytes = with_part (head_at pc bytes) (λ head. pairs_at head.0 head.1)

-- ---- any

unfoldable pub instruction_at : ℕ → List ℕ → Result (Instruction × List ℕ) Stop
instruction_at pc [] = Err Cut
instruction_at pc (opcode ∷ bytes) =
    if opcode == 170 then table_switch_at pc bytes else (if opcode == 171 then lookup_switch_at pc bytes
    else (if opcode == 196 then wide_at bytes else fixed_at opcode bytes))
