-- Instructions of a fixed length, and those after a wide.
use Rattle.std.proofs.Common.{◌≡◌, ◌≢◌, ℕ, ◌<◌, ◌^◌, true, false, List, [], ◌∷◌, ◌++◌, length, Option, Some, None, Result, refl, sym, ap}
use Rattle.std.proofs.Common.{subst, ◌∙◌, append_assoc}
use Rattle.jl_code.specs.declared.instruction.Instruction.TheVariants.{Plain, Wide, Invoke}
use Rattle.jl_code.specs.declared.instruction.Stop.{Stop}
use Rattle.jl_code.specs.declared.instruction.Stop.TheVariants.{Cut, Opcode, Switch}
use Rattle.jl_pool.specs.Numbers.{u2}
use Rattle.jl_code.specs.Known.{plain_opcodes, wide_opcodes, invoke_rows}
use Rattle.jl_code.specs.Instructions.{operands_in, tail_in}
use Rattle.jl_code.specs.Faults.{begins_opcode}
use Rattle.jl_pool.specs.ForProofs.Fields.{◌>>=◌, number_at, bytes_at}
use Rattle.jl_code.specs.ForProofs.Instructions.{or_cut, invocation_at, plain_at, by_row, fixed_at, wide_by_row, wide_at}
use Rattle.jl_pool.proofs.Fields.{IsBytes, IsBytes-rest, Takes, bind_some, some_is, u2_takes, u2_again, bytes_takes, bytes_again}
use Rattle.jl_code.proofs.StopLaws.{Read, found, stopped, Spelled, or_cut-ok, or_cut-err}
use Rattle.jl_code.proofs.OpcodeLaws.{one_table, IsFixed, unknown, begins_plain, begins_invocation, begins_wide, begins_unknown}

-- ---- of a fixed length

plain_again : (opcode : ℕ) (operands rest : List ℕ) → plain_at opcode (length operands) (operands ++ rest) ≡ Some (Plain opcode operands, rest)
plain_again opcode operands rest = rw (bytes_again (length operands) operands rest refl) refl

invocation_again : (opcode number : ℕ) (tail rest : List ℕ) → number < 2 ^ 16
    → invocation_at opcode (length tail) ((u2 number ++ tail) ++ rest) ≡ Some (Invoke opcode number tail, rest)
invocation_again opcode number tail rest size =
    ap (λ (b : List ℕ). invocation_at opcode (length tail) b) (append_assoc (u2 number) tail rest)
    ∙ rw (u2_again number (tail ++ rest) size, bytes_again (length tail) tail rest refl) refl

pub fixed_again-plain : (opcode : ℕ) (operands rest : List ℕ) → operands_in plain_opcodes opcode ≡ Some (length operands)
    → fixed_at opcode (operands ++ rest) ≡ found (Plain opcode operands, rest)
unfolding fixed_at
fixed_again-plain opcode operands rest row =
    ap (λ (o : Option ℕ). by_row o (tail_in invoke_rows opcode) opcode (operands ++ rest)) row
    ∙ ap (λ (t : Option ℕ). by_row (Some (length operands)) t opcode (operands ++ rest)) (one_table opcode (length operands) row)
    ∙ ap or_cut (plain_again opcode operands rest)

pub fixed_again-invocation : (opcode number : ℕ) (tail rest : List ℕ) → tail_in invoke_rows opcode ≡ Some (length tail) → number < 2 ^ 16
    → fixed_at opcode ((u2 number ++ tail) ++ rest) ≡ found (Invoke opcode number tail, rest)
unfolding fixed_at
fixed_again-invocation opcode number tail rest row size =
    ap (λ (t : Option ℕ). by_row (operands_in plain_opcodes opcode) t opcode ((u2 number ++ tail) ++ rest)) row
    ∙ ap or_cut (invocation_again opcode number tail rest size)

prepend : (opcode : ℕ) (bytes text rest : List ℕ) → Takes bytes text rest → Takes (opcode ∷ bytes) (opcode ∷ text) rest
prepend opcode bytes text rest t = record { parts = ap (λ (x : List ℕ). opcode ∷ x) t.parts; bytes_left = t.bytes_left }

plain_takes : (pc opcode count : ℕ) (bytes : List ℕ) (x : Read) → IsBytes bytes → operands_in plain_opcodes opcode ≡ Some count
    → plain_at opcode count bytes ≡ Some x → Spelled pc (opcode ∷ bytes) x.0 x.1
plain_takes pc opcode count bytes x fits row e =
    let b = bind_some (bytes_at count bytes) (λ o. Some (Plain opcode o.0, o.1)) x e in
    let t = bytes_takes count bytes b.0 fits b.1 in
    subst (λ (y : Read). Spelled pc (opcode ∷ bytes) y.0 y.1) (some_is (Plain opcode b.0.0, b.0.1) x b.2)
    (record { taken = prepend opcode bytes b.0.0 b.0.1 t.0; stands = row ∙ ap (λ (n : ℕ). Some n) (sym t.1) })

invocation_takes : (pc opcode tail : ℕ) (bytes : List ℕ) (x : Read) → IsBytes bytes → tail_in invoke_rows opcode ≡ Some tail
    → invocation_at opcode tail bytes ≡ Some x → Spelled pc (opcode ∷ bytes) x.0 x.1
invocation_takes pc opcode tail bytes x fits row e =
    let n = bind_some (number_at 2 bytes) (λ n. bytes_at tail n.1 >>= λ t. Some (Invoke opcode n.0 t.0, t.1)) x e in
    let b = bind_some (bytes_at tail n.0.1) (λ t. Some (Invoke opcode n.0.0 t.0, t.1)) x n.2 in
    let s = u2_takes bytes n.0 fits n.1 in
    let t = bytes_takes tail n.0.1 b.0 s.0.bytes_left b.1 in
    let whole : bytes ≡ (u2 n.0.0 ++ b.0.0) ++ b.0.1 = s.0.parts ∙ ap (λ (y : List ℕ). u2 n.0.0 ++ y) t.0.parts ∙ sym (append_assoc (u2 n.0.0) b.0.0 b.0.1) in
    subst (λ (y : Read). Spelled pc (opcode ∷ bytes) y.0 y.1) (some_is (Invoke opcode n.0.0 b.0.0, b.0.1) x b.2)
    (record {
      taken = prepend opcode bytes (u2 n.0.0 ++ b.0.0) b.0.1 (record { parts = whole; bytes_left = t.0.bytes_left });
      stands = (row ∙ ap (λ (k : ℕ). Some k) (sym t.1), s.1);
    })

-- by the tables
by_tables : {P : Type 0} (opcode : ℕ) (bytes : List ℕ) (r : Result Read Stop)
    → ((tail : ℕ) → tail_in invoke_rows opcode ≡ Some tail → or_cut (invocation_at opcode tail bytes) ≡ r → P)
    → ((count : ℕ) → operands_in plain_opcodes opcode ≡ Some count → or_cut (plain_at opcode count bytes) ≡ r → P)
    → (operands_in plain_opcodes opcode ≡ None → tail_in invoke_rows opcode ≡ None → stopped Opcode ≡ r → P) → fixed_at opcode bytes ≡ r → P
unfolding fixed_at
by_tables {P} opcode bytes r invoke plain none e = by (operands_in plain_opcodes opcode) (tail_in invoke_rows opcode) refl refl e where
  by : (operands tail : Option ℕ) → operands_in plain_opcodes opcode ≡ operands → tail_in invoke_rows opcode ≡ tail → by_row operands tail opcode bytes ≡ r → P
  by (Some count) (Some tail) o t e = invoke tail t e
  by None (Some tail) o t e = invoke tail t e
  by (Some count) None o t e = plain count o e
  by None None o t e = none o t e

pub fixed_takes : (pc opcode : ℕ) (bytes : List ℕ) (x : Read) → IsBytes bytes → fixed_at opcode bytes ≡ found x → Spelled pc (opcode ∷ bytes) x.0 x.1
fixed_takes pc opcode bytes x fits = by_tables opcode bytes (found x)
    (λ tail row e. invocation_takes pc opcode tail bytes x fits row (or_cut-ok (invocation_at opcode tail bytes) x e))
    (λ count row e. plain_takes pc opcode count bytes x fits row (or_cut-ok (plain_at opcode count bytes) x e))
    (λ o t e. absurd (let clash : stopped Opcode ≡ found x = e in cc))

pub fixed_cut : (opcode : ℕ) (bytes : List ℕ) → fixed_at opcode bytes ≡ stopped Cut → begins_opcode (opcode ∷ bytes) ≡ true
fixed_cut opcode bytes = by_tables opcode bytes (stopped Cut)
    (λ tail row e. begins_invocation opcode tail row bytes)
    (λ count row e. begins_plain opcode count row bytes)
    (λ o t e. absurd (let clash : stopped Opcode ≡ stopped Cut = e in cc))

pub fixed_unknown : (opcode : ℕ) (bytes : List ℕ) → IsFixed opcode → fixed_at opcode bytes ≡ stopped Opcode → begins_opcode (opcode ∷ bytes) ≡ false
fixed_unknown opcode bytes fixed = by_tables opcode bytes (stopped Opcode)
    (λ tail row e. absurd (let clash : Opcode ≡ Cut = or_cut-err (invocation_at opcode tail bytes) Opcode e in cc))
    (λ count row e. absurd (let clash : Opcode ≡ Cut = or_cut-err (plain_at opcode count bytes) Opcode e in cc))
    (λ o t e. begins_unknown opcode (unknown opcode fixed o t) bytes)

pub fixed_no_switch : (opcode : ℕ) (bytes : List ℕ) → fixed_at opcode bytes ≢ stopped Switch
fixed_no_switch opcode bytes = by_tables opcode bytes (stopped Switch)
    (λ tail row e. let clash : Switch ≡ Cut = or_cut-err (invocation_at opcode tail bytes) Switch e in cc)
    (λ count row e. let clash : Switch ≡ Cut = or_cut-err (plain_at opcode count bytes) Switch e in cc)
    (λ o t e. let clash : stopped Opcode ≡ stopped Switch = e in cc)

-- ---- after a wide

pub wide_again : (opcode : ℕ) (operands rest : List ℕ) → operands_in wide_opcodes opcode ≡ Some (length operands)
    → wide_at (opcode ∷ (operands ++ rest)) ≡ found (Wide opcode operands, rest)
unfolding wide_at
wide_again opcode operands rest row =
    ap (λ (o : Option ℕ). wide_by_row o opcode (operands ++ rest)) row ∙ rw (bytes_again (length operands) operands rest refl) refl

-- by the table
by_wide_table : {P : Type 0} (opcode : ℕ) (bytes : List ℕ) (r : Result Read Stop)
    → ((count : ℕ) → operands_in wide_opcodes opcode ≡ Some count → or_cut (bytes_at count bytes >>= λ o. Some (Wide opcode o.0, o.1)) ≡ r → P)
    → (operands_in wide_opcodes opcode ≡ None → stopped Opcode ≡ r → P) → wide_at (opcode ∷ bytes) ≡ r → P
unfolding wide_at
by_wide_table {P} opcode bytes r wide none e = by (operands_in wide_opcodes opcode) refl e where
  by : (operands : Option ℕ) → operands_in wide_opcodes opcode ≡ operands → wide_by_row operands opcode bytes ≡ r → P
  by (Some count) o e = wide count o e
  by None o e = none o e

wide_some : (pc opcode count : ℕ) (bytes : List ℕ) (x : Read) → IsBytes bytes → operands_in wide_opcodes opcode ≡ Some count
    → (bytes_at count bytes >>= λ o. Some (Wide opcode o.0, o.1)) ≡ Some x → Spelled pc (196 ∷ opcode ∷ bytes) x.0 x.1
wide_some pc opcode count bytes x fits row e =
    let b = bind_some (bytes_at count bytes) (λ o. Some (Wide opcode o.0, o.1)) x e in
    let t = bytes_takes count bytes b.0 fits b.1 in
    subst (λ (y : Read). Spelled pc (196 ∷ opcode ∷ bytes) y.0 y.1) (some_is (Wide opcode b.0.0, b.0.1) x b.2)
    (record {
      taken = prepend 196 (opcode ∷ bytes) (opcode ∷ b.0.0) b.0.1 (prepend opcode bytes b.0.0 b.0.1 t.0);
      stands = row
          ∙ ap (λ (n : ℕ). Some n) (sym t.1);
    })

pub wide_takes : (pc : ℕ) (bytes : List ℕ) (x : Read) → IsBytes bytes → wide_at bytes ≡ found x → Spelled pc (196 ∷ bytes) x.0 x.1
unfolding wide_at
wide_takes pc [] x fits e = absurd (let clash : stopped Cut ≡ found x = e in cc)
wide_takes pc (opcode ∷ bytes) x fits e = by_wide_table opcode bytes (found x)
    (λ count row e. wide_some pc opcode count bytes x (IsBytes-rest opcode bytes fits) row
    (or_cut-ok (bytes_at count bytes >>= λ o. Some (Wide opcode o.0, o.1)) x e))
    (λ o e. absurd (let clash : stopped Opcode ≡ found x = e in cc))
    e

pub wide_cut : (bytes : List ℕ) → wide_at bytes ≡ stopped Cut → begins_opcode (196 ∷ bytes) ≡ true
wide_cut [] e = refl
wide_cut (opcode ∷ bytes) e = by_wide_table opcode bytes (stopped Cut)
    (λ count row e. begins_wide opcode count row bytes)
    (λ o e. absurd (let clash : stopped Opcode ≡ stopped Cut = e in cc))
    e

pub wide_unknown : (bytes : List ℕ) → wide_at bytes ≡ stopped Opcode → begins_opcode (196 ∷ bytes) ≡ false
unfolding wide_at
wide_unknown [] e = absurd (let clash : stopped Cut ≡ stopped Opcode = e in cc)
wide_unknown (opcode ∷ bytes) e = by_wide_table opcode bytes (stopped Opcode)
    (λ count row e. absurd (let clash : Opcode ≡ Cut = or_cut-err (bytes_at count bytes >>= λ o. Some (Wide opcode o.0, o.1)) Opcode e in cc))
    (λ o e. rw o refl)
    e

pub wide_no_switch : (bytes : List ℕ) → wide_at bytes ≢ stopped Switch
unfolding wide_at
wide_no_switch [] = λ e. let clash : stopped Cut ≡ stopped Switch = e in cc
wide_no_switch (opcode ∷ bytes) = by_wide_table opcode bytes (stopped Switch)
    (λ count row e. let clash : Switch ≡ Cut = or_cut-err (bytes_at count bytes >>= λ o. Some (Wide opcode o.0, o.1)) Switch e in cc)
    (λ o e. let clash : stopped Opcode ≡ stopped Switch = e in cc)
