use Rattle.std.proofs.Common.{sym, ◌∙◌, ap, refl, List, ℕ}
use Rattle.jl_code.specs.ForProofs.Sites.{is_invoked}
use Rattle.jl_code.proofs.SiteLaws.{invoked-true, invoked-false}
use Rattle.jl_code.proofs.KeptLaws.{kept_one}
use Rattle.jl_code.proofs.code.site_of.Goals as goal

pub returns-then-not-is_invoked-clause-fault : goal.returns-then-not-is_invoked-clause-fault
returns-then-not-is_invoked-clause-fault c =
    let test = c.is_invoked.ensures ∙ ap (λ (t : List ℕ). is_invoked c.args.pool.now c.in-Invoke.opcode c.in-Invoke.number t) c.as_bytes.ensures in
    (refl, rw c.in-Invoke.is (invoked-false c.args.pool.now c.in-Invoke.opcode c.in-Invoke.number c.in-Invoke.tail (sym test ∙ c.if-not-is_invoked.true)))

pub returns-else-not-is_invoked-clause-ok : goal.returns-else-not-is_invoked-clause-ok
returns-else-not-is_invoked-clause-ok c =
    let test = c.is_invoked.ensures ∙ ap (λ (t : List ℕ). is_invoked c.args.pool.now c.in-Invoke.opcode c.in-Invoke.number t) c.as_bytes.ensures in
    let h = invoked-true c.args.pool.now c.in-Invoke.opcode c.in-Invoke.number c.in-Invoke.tail (sym test ∙ c.if-not-is_invoked.false) in
    rw (c.in-Invoke.is, c.kind_of-kind.ensures) (h, kept_one c.args.pool.now c.args.pc c.in-Invoke.opcode c.in-Invoke.number h.operand h.there)
