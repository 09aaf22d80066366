use Rattle.std.proofs.Common.{◌≡◌, List, ℕ, Option, Some, None, sym, arith}
use Rattle.std.specs.Prelude.{option_map, MatchOption}
use Rattle.std.specs.Borrow.{Bor}
use Rattle.jl_classfile.specs.CodeAttributes.{HoldsCode}
use Rattle.jl_pool.proofs.Fields.{IsBytes}
use Rattle.jl_classfile.specs.ForProofs.Bodies.{code_in}
use Rattle.jl_classfile.proofs.CodeAttributeLaws.{held_decides}
use Rattle.jl_classfile.proofs.body.code_in.Goals as goal

decided : (info : List ℕ) (r : Option (Bor (List ℕ))) → IsBytes info → option_map (λ code. code.now) r ≡ code_in info
    → MatchOption r ((code : List ℕ) → ¬ HoldsCode info code) (λ code. HoldsCode info code.now)
decided info None fits e = held_decides info None fits (sym e)
decided info (Some code) fits e = held_decides info (Some code.now) fits (sym e)

pub returns : goal.returns
returns c = decided c.args.info.now c.read_code.result (λ i. omega (arith, c.type_inv.info i)) c.read_code.ensures
