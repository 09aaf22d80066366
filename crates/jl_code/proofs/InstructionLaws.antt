-- An instruction is read where its text stands, and only there.
use Rattle.std.proofs.Common.{◌≡◌, ◌≢◌, ℕ, Bool, true, false, cond, eqb, List, [], ◌∷◌, ◌++◌, length, Result, Ok, Err, refl, sym, ap, subst, ◌∙◌, inl, inr}
use Rattle.std.proofs.lemmas.Bool.{eqb-true}
use Rattle.jl_code.specs.declared.instruction.Instruction.{Instruction}
use Rattle.jl_code.specs.declared.instruction.Instruction.TheVariants.{Plain, Wide, Invoke, TableSwitch, LookupSwitch}
use Rattle.jl_code.specs.declared.instruction.Stop.{Stop}
use Rattle.jl_code.specs.declared.instruction.Stop.TheVariants.{Cut, Opcode, Switch}
use Rattle.jl_pool.specs.Numbers.{u2}
use Rattle.jl_code.specs.Instructions.{instruction_text, MayStand}
use Rattle.jl_code.specs.Faults.{begins_opcode, IsBadSwitch}
use Rattle.jl_code.specs.ForProofs.Instructions.{fixed_at, wide_at, table_switch_at, lookup_switch_at, instruction_at}
use Rattle.jl_pool.proofs.Fields.{IsBytes, IsBytes-rest}
use Rattle.jl_code.proofs.StopLaws.{Read, found, stopped, Spelled}
use Rattle.jl_code.proofs.OpcodeLaws.{IsFixed, fixed-plain, fixed-invocation, begins_table, begins_look_up}
use Rattle.jl_code.proofs.FixedLaws.{fixed_again-plain, fixed_again-invocation, fixed_takes, fixed_cut, fixed_unknown, fixed_no_switch, wide_again}
use Rattle.jl_code.proofs.FixedLaws.{wide_takes, wide_cut, wide_unknown, wide_no_switch}
use Rattle.jl_code.proofs.SwitchLaws.{table_text, table_again, table_bad_again, table_takes, table_bad, table_no_opcode, look_up_text, look_up_again}
use Rattle.jl_code.proofs.SwitchLaws.{look_up_bad_again}
use Rattle.jl_code.proofs.SwitchLaws.{look_up_takes, look_up_bad, look_up_no_opcode}

first_fixed : (pc opcode : ℕ) (bytes : List ℕ) → IsFixed opcode → instruction_at pc (opcode ∷ bytes) ≡ fixed_at opcode bytes
unfolding instruction_at
first_fixed pc opcode bytes fixed = rw (fixed.no_table, fixed.no_look_up, fixed.no_wide) refl

pub instruction_again : (pc : ℕ) (i : Instruction) (rest : List ℕ) → MayStand pc i → instruction_at pc (instruction_text i ++ rest) ≡ Ok (i, rest)
unfolding instruction_at
instruction_again pc (Plain opcode operands) rest m = first_fixed pc opcode (operands ++ rest) (fixed-plain opcode (length operands) m)
    ∙ fixed_again-plain opcode operands rest m
instruction_again pc (Invoke opcode number tail) rest m =
    first_fixed pc opcode ((u2 number ++ tail) ++ rest) (fixed-invocation opcode (length tail) m.0) ∙ fixed_again-invocation opcode number tail rest m.0 m.1
instruction_again pc (Wide opcode operands) rest m = wide_again opcode operands rest m
instruction_again pc (TableSwitch padding default low high offsets) rest m =
    ap (instruction_at pc) (table_text padding default low high offsets rest) ∙ table_again pc padding default low high offsets rest m
instruction_again pc (LookupSwitch padding default count pairs) rest m = ap (instruction_at pc) (look_up_text padding default count pairs rest)
    ∙ look_up_again pc padding default count pairs rest m

pub nothing_stands : (pc : ℕ) → instruction_at pc [] ≢ Err Switch
unfolding instruction_at
nothing_stands pc = λ e. let clash : stopped Cut ≡ stopped Switch = e in cc

-- by the first byte
by_first : (P : ℕ → Type 0) (pc opcode : ℕ) (bytes : List ℕ) (r : Result Read Stop) → (table_switch_at pc bytes ≡ r → P 170)
    → (lookup_switch_at pc bytes ≡ r → P 171) → (wide_at bytes ≡ r → P 196)
    → (IsFixed opcode → fixed_at opcode bytes ≡ r → P opcode) → instruction_at pc (opcode ∷ bytes) ≡ r → P opcode
unfolding instruction_at
by_first P pc opcode bytes r table look_up wide fixed e = by (eqb opcode 170) (eqb opcode 171) (eqb opcode 196) refl refl refl e where
  by : (a b c : Bool) → eqb opcode 170 ≡ a → eqb opcode 171 ≡ b → eqb opcode 196 ≡ c
      → cond a (table_switch_at pc bytes) (cond b (lookup_switch_at pc bytes) (cond c (wide_at bytes) (fixed_at opcode bytes))) ≡ r → P opcode
  by true b c is_a is_b is_c e = subst P (sym (eqb-true opcode 170 is_a)) (table e)
  by false true c is_a is_b is_c e = subst P (sym (eqb-true opcode 171 is_b)) (look_up e)
  by false false true is_a is_b is_c e = subst P (sym (eqb-true opcode 196 is_c)) (wide e)
  by false false false is_a is_b is_c e = fixed (record { no_table = is_a; no_look_up = is_b; no_wide = is_c }) e

pub instruction_takes : (pc : ℕ) (bytes : List ℕ) (x : Read) → IsBytes bytes → instruction_at pc bytes ≡ Ok x → Spelled pc bytes x.0 x.1
unfolding instruction_at
instruction_takes pc [] x fits e = absurd (let clash : stopped Cut ≡ found x = e in cc)
instruction_takes pc (opcode ∷ bytes) x fits e =
    let later = IsBytes-rest opcode bytes fits in
    by_first (λ first. Spelled pc (first ∷ bytes) x.0 x.1) pc opcode bytes (found x) (table_takes pc bytes x later) (look_up_takes pc bytes x later)
    (wide_takes pc bytes x later)
    (λ fixed. fixed_takes pc opcode bytes x later) e

-- ---- where no instruction stands

-- a switch whose numbers are there and can't be is found
pub bad_again : (pc : ℕ) (left : List ℕ) → IsBadSwitch pc left → instruction_at pc left ≡ Err Switch
unfolding instruction_at
bad_again pc left s = elim s.4 [
  | inl t ↦ ap (instruction_at pc) t.2 ∙ table_bad_again pc s.0 s.1 t.0 t.1 s.2 s.3 t.3 t.4 t.5
  | inr l ↦ ap (instruction_at pc) l.1 ∙ look_up_bad_again pc s.0 s.1 l.0 s.2 s.3 l.2 l.3
]

pub record IsCut (pc : ℕ) (left : List ℕ) : Type 0 where
  pub begins : begins_opcode left ≡ true
  pub no_switch : ¬ IsBadSwitch pc left

pub instruction_cut : (pc opcode : ℕ) (bytes : List ℕ) → instruction_at pc (opcode ∷ bytes) ≡ Err Cut → IsCut pc (opcode ∷ bytes)
instruction_cut pc opcode bytes e = record {
  begins =
      by_first (λ first. begins_opcode (first ∷ bytes) ≡ true) pc opcode bytes (stopped Cut) (λ t. begins_table bytes) (λ l. begins_look_up bytes)
      (wide_cut bytes)
      (λ fixed. fixed_cut opcode bytes) e;
  no_switch = λ s. let clash : stopped Cut ≡ stopped Switch = sym e ∙ bad_again pc (opcode ∷ bytes) s in cc;
}

pub instruction_unknown : (pc : ℕ) (bytes : List ℕ) → IsBytes bytes → instruction_at pc bytes ≡ Err Opcode → begins_opcode bytes ≡ false
unfolding instruction_at
instruction_unknown pc [] fits e = absurd (let clash : stopped Cut ≡ stopped Opcode = e in cc)
instruction_unknown pc (opcode ∷ bytes) fits e =
    let later = IsBytes-rest opcode bytes fits in
    by_first (λ first. begins_opcode (first ∷ bytes) ≡ false) pc opcode bytes (stopped Opcode) (λ t. absurd (table_no_opcode pc bytes later t))
    (λ l. absurd (look_up_no_opcode pc bytes later l)) (wide_unknown bytes)
    (fixed_unknown opcode bytes) e

pub record IsStopped (pc : ℕ) (left : List ℕ) : Type 0 where
  pub begins : begins_opcode left ≡ true
  pub switch : IsBadSwitch pc left

pub instruction_bad : (pc : ℕ) (bytes : List ℕ) → IsBytes bytes → instruction_at pc bytes ≡ Err Switch → IsStopped pc bytes
unfolding instruction_at
instruction_bad pc [] fits e = absurd (let clash : stopped Cut ≡ stopped Switch = e in cc)
instruction_bad pc (opcode ∷ bytes) fits e =
    let later = IsBytes-rest opcode bytes fits in
    by_first (λ first. IsStopped pc (first ∷ bytes)) pc opcode bytes (stopped Switch)
    (λ t. record { begins = begins_table bytes; switch = table_bad pc bytes later t })
    (λ l. record { begins = begins_look_up bytes; switch = look_up_bad pc bytes later l })
    (λ w. absurd (wide_no_switch bytes w))
    (λ fixed f. absurd (fixed_no_switch opcode bytes f)) e
