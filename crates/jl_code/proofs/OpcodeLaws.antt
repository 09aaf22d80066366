-- The opcodes by the tables. A table is looked into here, and nowhere else.
use Rattle.std.proofs.Common.{◌≡◌, ℕ, Bool, true, false, eqb, List, [], ◌∷◌, Option, Some, None, refl, sym, ap, subst, ◌∙◌}
use Rattle.std.specs.Prelude.{is_some}
use Rattle.std.proofs.lemmas.Bool.{or_right, eqb-true, ne_eqb}
use Rattle.jl_code.specs.Known.{plain_opcodes, wide_opcodes, invoke_rows}
use Rattle.jl_code.specs.Instructions.{operands_in, tail_in}
use Rattle.jl_code.specs.Faults.{is_opcode, begins_opcode}

-- an opcode that has a row isn't one that has none
is_not : {X : Type 0} (row : ℕ → Option X) (opcode n : ℕ) (x : X) → row opcode ≡ Some x → row n ≡ None → eqb opcode n ≡ false
is_not row opcode n x there none = ne_eqb opcode n (λ e. absurd (let clash : Some x ≡ None = sym there ∙ ap row e ∙ none in cc))

either : (P : ℕ → Type 0) (n opcode : ℕ) → P n → (eqb n opcode ≡ false → P opcode) → P opcode
either P n opcode here next = by (eqb n opcode) refl where
  by : (b : Bool) → eqb n opcode ≡ b → P opcode
  by true e = subst P (eqb-true n opcode e) here
  by false e = next e

-- the opcodes of invocations
invocation_is : (P : ℕ → Type 0) (opcode tail : ℕ) → tail_in invoke_rows opcode ≡ Some tail → P 182 → P 183 → P 184 → P 185 → P 186 → P opcode
invocation_is P opcode tail e p182 p183 p184 p185 p186 =
    either P 182 opcode p182 (λ a. either P 183 opcode p183 (λ b. either P 184 opcode p184 (λ c. either P 185 opcode p185 (λ d. either P 186 opcode p186 (λ f.
    absurd (let none : tail_in invoke_rows opcode ≡ None = rw (a, b, c, d, f) refl in let clash : Some tail ≡ None = sym e ∙ none in cc))))))

-- no opcode is in both tables
pub one_table : (opcode k : ℕ) → operands_in plain_opcodes opcode ≡ Some k → tail_in invoke_rows opcode ≡ None
one_table opcode k e = by (tail_in invoke_rows opcode) refl where
  by : (t : Option ℕ) → tail_in invoke_rows opcode ≡ t → tail_in invoke_rows opcode ≡ None
  by None t = t
  by (Some tail) t = absurd (let none = invocation_is (λ n. operands_in plain_opcodes n ≡ None) opcode tail t refl refl refl refl refl in
      let clash : Some k ≡ None = sym e ∙ none in cc)

-- an opcode that is no switch's and no wide
pub record IsFixed (opcode : ℕ) : Type 0 where
  pub no_table : eqb opcode 170 ≡ false
  pub no_look_up : eqb opcode 171 ≡ false
  pub no_wide : eqb opcode 196 ≡ false

pub fixed-plain : (opcode k : ℕ) → operands_in plain_opcodes opcode ≡ Some k → IsFixed opcode
fixed-plain opcode k e = record {
  no_table = is_not (operands_in plain_opcodes) opcode 170 k e refl;
  no_look_up = is_not (operands_in plain_opcodes) opcode 171 k e refl;
  no_wide = is_not (operands_in plain_opcodes) opcode 196 k e refl;
}

pub fixed-invocation : (opcode k : ℕ) → tail_in invoke_rows opcode ≡ Some k → IsFixed opcode
fixed-invocation opcode k e = record {
  no_table = is_not (tail_in invoke_rows) opcode 170 k e refl;
  no_look_up = is_not (tail_in invoke_rows) opcode 171 k e refl;
  no_wide = is_not (tail_in invoke_rows) opcode 196 k e refl;
}

known-plain : (opcode k : ℕ) → operands_in plain_opcodes opcode ≡ Some k → is_opcode opcode ≡ true
known-plain opcode k e = rw e refl

known-invocation : (opcode k : ℕ) → tail_in invoke_rows opcode ≡ Some k → is_opcode opcode ≡ true
known-invocation opcode k e = rw e (or_right (is_some (operands_in plain_opcodes opcode)) true refl)

pub unknown : (opcode : ℕ) → IsFixed opcode → operands_in plain_opcodes opcode ≡ None → tail_in invoke_rows opcode ≡ None → is_opcode opcode ≡ false
unknown opcode fixed operands tail = rw (operands, tail, fixed.no_table, fixed.no_look_up, fixed.no_wide) refl

-- an opcode that is known, and is no wide
begins_known : (opcode : ℕ) → is_opcode opcode ≡ true → eqb opcode 196 ≡ false → (more : List ℕ) → begins_opcode (opcode ∷ more) ≡ true
begins_known opcode known no_wide [] = known
begins_known opcode known no_wide (c ∷ more) = rw (known, no_wide) refl

pub begins_plain : (opcode k : ℕ) → operands_in plain_opcodes opcode ≡ Some k → (more : List ℕ) → begins_opcode (opcode ∷ more) ≡ true
begins_plain opcode k e = begins_known opcode (known-plain opcode k e) (is_not (operands_in plain_opcodes) opcode 196 k e refl)

pub begins_invocation : (opcode k : ℕ) → tail_in invoke_rows opcode ≡ Some k → (more : List ℕ) → begins_opcode (opcode ∷ more) ≡ true
begins_invocation opcode k e = begins_known opcode (known-invocation opcode k e) (is_not (tail_in invoke_rows) opcode 196 k e refl)

pub begins_wide : (opcode k : ℕ) → operands_in wide_opcodes opcode ≡ Some k → (more : List ℕ) → begins_opcode (196 ∷ opcode ∷ more) ≡ true
begins_wide opcode k e more = rw e refl

pub begins_table : (more : List ℕ) → begins_opcode (170 ∷ more) ≡ true
begins_table = begins_known 170 refl refl

pub begins_look_up : (more : List ℕ) → begins_opcode (171 ∷ more) ≡ true
begins_look_up = begins_known 171 refl refl

pub begins_unknown : (opcode : ℕ) → is_opcode opcode ≡ false → (more : List ℕ) → begins_opcode (opcode ∷ more) ≡ false
begins_unknown opcode e [] = e
begins_unknown opcode e (c ∷ more) = rw e refl
