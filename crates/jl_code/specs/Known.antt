-- The opcodes of instructions.
use Rattle.std.specs.Prelude.{ℕ, List, [], ◌∷◌}

-- opcodes from one to another, and how many operand bytes each has
pub record Opcodes : Type 0 where
  pub first : ℕ
  pub last : ℕ
  pub operands : ℕ

abbrev pub opcodes : ℕ → ℕ → ℕ → Opcodes
opcodes first last operands = record { first = first; last = last; operands = operands }

-- instructions of a fixed length (JVMS 6.5), invocations aside
abbrev pub plain_opcodes : List Opcodes
plain_opcodes =
    opcodes 0 15 0
    ∷ opcodes 16 16 1
    ∷ opcodes 17 17 2
    ∷ opcodes 18 18 1
    ∷ opcodes 19 20 2
    ∷ opcodes 21 25 1
    ∷ opcodes 26 53 0
    ∷ opcodes 54 58 1
    ∷ opcodes 59 131 0
    ∷ opcodes 132 132 2
    ∷ opcodes 133 152 0
    ∷ opcodes 153 168 2
    ∷ opcodes 169 169 1
    ∷ opcodes 172 177 0
    ∷ opcodes 178 181 2
    ∷ opcodes 187 187 2
    ∷ opcodes 188 188 1
    ∷ opcodes 189 189 2
    ∷ opcodes 190 191 0
    ∷ opcodes 192 193 2
    ∷ opcodes 194 195 0
    ∷ opcodes 197 197 3
    ∷ opcodes 198 199 2
    ∷ opcodes 200 201 4
    ∷ []

-- after a wide (196)
abbrev pub wide_opcodes : List Opcodes
wide_opcodes = opcodes 21 25 2 ∷ opcodes 54 58 2 ∷ opcodes 169 169 2 ∷ opcodes 132 132 4 ∷ []

-- invocations: the opcode, the tags of what it may name, and how many bytes come after the number
pub record InvokeRow : Type 0 where
  pub opcode : ℕ
  pub tags : List ℕ
  pub tail : ℕ

abbrev pub invoke_rows : List InvokeRow
invoke_rows =
    record { opcode = 182; tags = 10 ∷ []; tail = 0 }
    ∷ record { opcode = 183; tags = 10 ∷ 11 ∷ []; tail = 0 }
    ∷ record { opcode = 184; tags = 10 ∷ 11 ∷ []; tail = 0 }
    ∷ record { opcode = 185; tags = 11 ∷ []; tail = 2 }
    ∷ record { opcode = 186; tags = 18 ∷ []; tail = 2 }
    ∷ []
