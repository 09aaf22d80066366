-- What is read, or why nothing is.
use Rattle.std.proofs.Common.{◌≡◌, ◌≢◌, ℕ, Bool, true, false, cond, List, Option, Some, None, Result, Ok, Err, refl, sym}
use Rattle.jl_code.specs.declared.instruction.Instruction.{Instruction}
use Rattle.jl_code.specs.declared.instruction.Stop.{Stop}
use Rattle.jl_code.specs.declared.instruction.Stop.TheVariants.{Cut, Opcode, Switch}
use Rattle.jl_code.specs.Instructions.{instruction_text, MayStand}
use Rattle.jl_code.specs.ForProofs.Instructions.{or_cut, with_part}
use Rattle.jl_pool.proofs.Fields.{Takes}

-- an instruction and what comes after it
abbrev pub Read : Type 0
Read = Instruction × List ℕ

abbrev pub found : Read → Result Read Stop
found x = Ok x

abbrev pub stopped : Stop → Result Read Stop
stopped s = Err s

-- what was read stands there
pub record Spelled (pc : ℕ) (bytes : List ℕ) (i : Instruction) (rest : List ℕ) : Type 0 where
  pub taken : Takes bytes (instruction_text i) rest
  pub stands : MayStand pc i

-- ---- options and results

pub or_cut-ok : (o : Option Read) (x : Read) → or_cut o ≡ found x → o ≡ Some x
or_cut-ok None x e = absurd cc
or_cut-ok (Some y) x e = cc

-- there is no other error
pub or_cut-err : (o : Option Read) (s : Stop) → or_cut o ≡ stopped s → s ≡ Cut
or_cut-err None s e = cc
or_cut-err (Some y) s e = absurd cc

pub with_part-some : {X : Type 0} (o : Option X) (next : X → Result Read Stop) (r : Result Read Stop) → r ≢ stopped Cut → with_part o next ≡ r → (x : X)
    × (o ≡ Some x) × (next x ≡ r)
with_part-some None next r some e = absurd (some (sym e))
with_part-some (Some x) next r some e = (x, refl, e)

pub ok_some : (x : Read) → found x ≢ stopped Cut
ok_some x = λ e. absurd cc

pub other_some : (s : Stop) → s ≢ Cut → stopped s ≢ stopped Cut
other_some s other = λ e. other cc

pub guarded-ok : (bad : Bool) (o : Option Read) (x : Read) → cond bad (stopped Switch) (or_cut o) ≡ found x → (bad ≡ false) × (o ≡ Some x)
guarded-ok true o x e = absurd cc
guarded-ok false o x e = (refl, or_cut-ok o x e)

pub guarded-bad : (bad : Bool) (o : Option Read) → cond bad (stopped Switch) (or_cut o) ≡ stopped Switch → bad ≡ true
guarded-bad true o e = refl
guarded-bad false o e = let clash : Switch ≡ Cut = or_cut-err o Switch e in absurd cc

pub guarded-opcode : (bad : Bool) (o : Option Read) → cond bad (stopped Switch) (or_cut o) ≢ stopped Opcode
guarded-opcode true o = λ e. absurd cc
guarded-opcode false o = λ e. let clash : Opcode ≡ Cut = or_cut-err o Opcode e in absurd cc
