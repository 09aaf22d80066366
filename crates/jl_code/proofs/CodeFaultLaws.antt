-- No code has a fault, and bytes are one code at most.
use Rattle.std.proofs.Common.{◌≡◌, ◌≢◌, ℕ, ◌+◌, Bool, true, false, List, [], ◌∷◌, ◌++◌, length, Result, Ok, Err, refl, sym, ap, subst}
use Rattle.std.proofs.Common.{◌∙◌, append_assoc, length-append, arith}
use Rattle.std.specs.Prelude.{IsFalse}
use Rattle.std.specs.List.{AllByRecursion}
use Rattle.jl_names.proofs.Bytes.{ok_is}
use Rattle.jl_names.proofs.Tests.{All-back}
use Rattle.jl_code.specs.declared.instruction.Instruction.{Instruction}
use Rattle.jl_code.specs.declared.instruction.Instruction.TheVariants.{Plain, Wide, Invoke, TableSwitch, LookupSwitch}
use Rattle.jl_code.specs.declared.instruction.Stop.{Stop}
use Rattle.jl_code.specs.declared.instruction.Stop.TheVariants.{Switch}
use Rattle.jl_code.specs.declared.code_fault.CodeFault.{CodeFault}
use Rattle.jl_code.specs.declared.code_fault.CodeFault.TheVariants as code
use Rattle.jl_pool.specs.Numbers.{u2, u4}
use Rattle.jl_pool.specs.Pools.{Pool}
use Rattle.jl_code.specs.Instructions.{instruction_text, MayStand}
use Rattle.jl_code.specs.Codes.{code_bytes, MayStandFrom, OperandFits, IsCode}
use Rattle.jl_code.specs.Faults.{Runs, begins_opcode, IsBadSwitch, IsScanFault}
use Rattle.jl_code.specs.ForProofs.Instructions.{instruction_at}
use Rattle.jl_code.proofs.OpcodeLaws.{begins_plain, begins_invocation, begins_wide, begins_table, begins_look_up}
use Rattle.jl_code.proofs.InstructionLaws.{instruction_again, nothing_stands, bad_again}
use Rattle.jl_code.proofs.CodeLaws.{text-some}

begins : (pc : ℕ) (i : Instruction) (rest : List ℕ) → MayStand pc i → begins_opcode (instruction_text i ++ rest) ≡ true
begins pc (Plain opcode operands) rest m = begins_plain opcode (length operands) m (operands ++ rest)
begins pc (Invoke opcode number tail) rest m = begins_invocation opcode (length tail) m.0 ((u2 number ++ tail) ++ rest)
begins pc (Wide opcode operands) rest m = begins_wide opcode (length operands) m (operands ++ rest)
begins pc (TableSwitch padding default low high offsets) rest m = begins_table ((padding ++ (u4 default ++ (u4 low ++ (u4 high ++ offsets)))) ++ rest)
begins pc (LookupSwitch padding default count pairs) rest m = begins_look_up ((padding ++ (u4 default ++ (u4 count ++ pairs))) ++ rest)

pub record Front (pc : ℕ) (is js : List Instruction) (left : List ℕ) : Type 0 where
  pub more : List Instruction
  pub all : is ≡ js ++ more
  pub text : left ≡ code_bytes more
  pub stand : MayStandFrom (pc + length (code_bytes js)) more

abbrev found : Instruction × List ℕ → Result (Instruction × List ℕ) Stop
found x = Ok x

abbrev bad : Result (Instruction × List ℕ) Stop
bad = Err Switch

-- instructions at the front of a code are its own
front : (pc : ℕ) (is js : List Instruction) (left : List ℕ) → MayStandFrom pc is → MayStandFrom pc js → code_bytes is ≡ code_bytes js ++ left
    → Front pc is js left
front pc is [] left hi hj e = record {
  more = is;
  all = refl;
  text = sym e;
  stand = subst (λ (n : ℕ). MayStandFrom n is)
      (let same : pc ≡ pc + 0 = omega arith in same) hi;
}
front pc [] (j ∷ js) left hi hj e =
    absurd (omega (
      arith,
      ap length e,
      length-append (instruction_text j ++ code_bytes js) left,
      length-append (instruction_text j) (code_bytes js),
      text-some j,
    ))
front pc (i ∷ is) (j ∷ js) left hi hj e =
    let both : found (i, code_bytes is) ≡ found (j, code_bytes js ++ left) =
    sym (instruction_again pc i (code_bytes is) hi.0)
    ∙ ap (instruction_at pc) (e ∙ append_assoc (instruction_text j) (code_bytes js) left)
    ∙ instruction_again pc j (code_bytes js ++ left) hj.0 in
    let pairs = ok_is {E = Stop} (i, code_bytes is) (j, code_bytes js ++ left) both in
    let first : i ≡ j = ap (λ (x : Instruction × List ℕ). x.0) pairs in
    let rest =
    front (pc + length (instruction_text j)) is js left (subst (λ (k : Instruction). MayStandFrom (pc + length (instruction_text k)) is) first hi.1) hj.1
    (ap (λ (x : Instruction × List ℕ). x.1) pairs)
    in
    record {
      more = rest.more;
      all = cc (first, rest.all);
      text = rest.text;
      stand =
          subst (λ (n : ℕ). MayStandFrom n rest.more)
          (let same : pc + length (instruction_text j) + length (code_bytes js) ≡ pc + length (code_bytes (j ∷ js)) =
          omega (arith, length-append (instruction_text j) (code_bytes js))
          in
          same)
          rest.stand;
    }

runs_front : (p : Pool) (bytes : List ℕ) (is js : List Instruction) (pc : ℕ) (left : List ℕ) → IsCode p bytes is → Runs bytes js pc left → Front 0 is js left
runs_front p bytes is js pc left h r = front 0 is js left h.places r.places (sym h.bytes_are ∙ r.bytes_are)

front_begins : (left : List ℕ) (more : List Instruction) (n : ℕ) → left ≡ code_bytes more → MayStandFrom n more → begins_opcode left ≡ true
front_begins left [] n e stand = ap begins_opcode e
front_begins left (i ∷ more) n e stand = ap begins_opcode e ∙ begins n i (code_bytes more) stand.0

-- a switch that may stand is no bad one
no_bad_switch : (pc : ℕ) (left : List ℕ) (more : List Instruction) → left ≡ code_bytes more → MayStandFrom pc more → ¬ IsBadSwitch pc left
no_bad_switch pc left more e stand = λ s. by more stand (sym (bad_again pc left s) ∙ ap (instruction_at pc) e) where
  by : (more : List Instruction) → MayStandFrom pc more → bad ≡ instruction_at pc (code_bytes more) → ⊥
  by [] stand e = nothing_stands pc (sym e)
  by (i ∷ more) stand e = let clash : bad ≡ found (i, code_bytes more) = e ∙ instruction_again pc i (code_bytes more) stand.0 in cc

no_cut : (pc : ℕ) (left : List ℕ) (more : List Instruction) → left ≡ code_bytes more → MayStandFrom pc more → left ≢ []
    → ((i : Instruction) (rest : List ℕ) → MayStand pc i → left ≢ instruction_text i ++ rest) → ⊥
no_cut pc left [] e stand some none = some e
no_cut pc left (i ∷ more) e stand some none = none i (code_bytes more) stand.0 e

no_operand : (p : Pool) (pc : ℕ) (i : Instruction) (rest : List ℕ) (more : List Instruction) → instruction_text i ++ rest ≡ code_bytes more
    → MayStandFrom pc more → MayStand pc i → AllByRecursion (OperandFits p) more → ¬ OperandFits p i → ⊥
no_operand p pc i rest [] e stand m fits not_so = absurd (omega (arith, ap length e, length-append (instruction_text i) rest, text-some i))
no_operand p pc i rest (k ∷ more) e stand m fits not_so =
    let both : found (i, rest) ≡ found (k, code_bytes more) = sym (instruction_again pc i rest m) ∙ ap (instruction_at pc) e
    ∙ instruction_again pc k (code_bytes more) stand.0 in
    let pairs = ok_is {E = Stop} (i, rest) (k, code_bytes more) both in
    not_so (subst (λ (x : Instruction). OperandFits p x) (sym (ap (λ (x : Instruction × List ℕ). x.0) pairs)) fits.0)

clash_false : (b : Bool) → b ≡ true → ¬ IsFalse b
clash_false true e = λ f. absurd cc
clash_false false e = absurd cc

-- what is left after instructions is the instructions after them
record Later (p : Pool) (pc : ℕ) (left : List ℕ) : Type 0 where
  more : List Instruction
  text : left ≡ code_bytes more
  stand : MayStandFrom pc more
  fit : AllByRecursion (OperandFits p) more

later : (p : Pool) (bytes : List ℕ) (is js : List Instruction) (pc : ℕ) (left : List ℕ) → IsCode p bytes is → Runs bytes js pc left → Later p pc left
later p bytes is js pc left h r =
    let f = runs_front p bytes is js pc left h r in
    let here : 0 + length (code_bytes js) ≡ pc = omega (arith, r.place) in
    record {
      more = f.more;
      text = f.text;
      stand = subst (λ (n : ℕ). MayStandFrom n f.more) here f.stand;
      fit = All-back (OperandFits p) js f.more (subst (λ (y : List Instruction). AllByRecursion (OperandFits p) y) f.all h.operands);
    }

pub no_scan : (p : Pool) (bytes : List ℕ) (is : List Instruction) (f : CodeFault) → IsCode p bytes is → f ≢ code.Memory → ¬ IsScanFault p bytes f
no_scan p bytes is (code.BadOpcode pc) h m = λ x.
    let b = later p bytes is x.0 pc x.1 h x.2 in
    clash_false (begins_opcode x.1) (front_begins x.1 b.more pc b.text b.stand) x.3
no_scan p bytes is (code.BadSwitch pc) h m = λ x.
    let b = later p bytes is x.0 pc x.1 h x.2 in
    no_bad_switch pc x.1 b.more b.text b.stand x.4
no_scan p bytes is (code.CutShort pc) h m = λ x.
    let b = later p bytes is x.0 pc x.1 h x.2 in
    no_cut pc x.1 b.more b.text b.stand x.3 x.6
no_scan p bytes is (code.BadOperand pc) h m = λ x.
    let b = later p bytes is x.0 pc (instruction_text x.1 ++ x.2) h x.3 in
    no_operand p pc x.1 x.2 b.more b.text b.stand x.4 b.fit x.5
no_scan p bytes is code.BadLayout h m = λ x. x
no_scan p bytes is code.Memory h m = λ x. m refl

-- ---- bytes are one code at most

pub one_list : (pc : ℕ) (is js : List Instruction) → MayStandFrom pc is → MayStandFrom pc js → code_bytes is ≡ code_bytes js → is ≡ js
one_list pc [] [] hi hj e = refl
one_list pc [] (j ∷ js) hi hj e = absurd (omega (arith, ap length e, length-append (instruction_text j) (code_bytes js), text-some j))
one_list pc (i ∷ is) [] hi hj e = absurd (omega (arith, ap length e, length-append (instruction_text i) (code_bytes is), text-some i))
one_list pc (i ∷ is) (j ∷ js) hi hj e =
    let both : found (i, code_bytes is) ≡ found (j, code_bytes js) = sym (instruction_again pc i (code_bytes is) hi.0) ∙ ap (instruction_at pc) e
    ∙ instruction_again pc j (code_bytes js) hj.0 in
    let pairs = ok_is {E = Stop} (i, code_bytes is) (j, code_bytes js) both in
    let first : i ≡ j = ap (λ (p : Instruction × List ℕ). p.0) pairs in
    let more =
    one_list (pc + length (instruction_text i)) is js hi.1 (subst (λ (k : Instruction). MayStandFrom (pc + length (instruction_text k)) js) (sym first) hj.1)
    (ap (λ (p : Instruction × List ℕ). p.1) pairs)
    in
    cc (first, more)

pub one_code : (p : Pool) (bytes : List ℕ) (is js : List Instruction) → IsCode p bytes is → IsCode p bytes js → is ≡ js
one_code p bytes is js h k = one_list 0 is js h.places k.places (sym h.bytes_are ∙ k.bytes_are)
