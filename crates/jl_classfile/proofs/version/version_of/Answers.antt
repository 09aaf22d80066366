use Rattle.std.proofs.Common.{arith}
use Rattle.jl_classfile.proofs.HeadLaws.{head_takes}
use Rattle.jl_classfile.proofs.version.version_of.Goals as goal

pub returns-clause-some : goal.returns-clause-some
returns-clause-some c =
    let h = head_takes c.args.bytes.now c.in_ok-magic.after.now c.in_ok-minor.after.now c.in_ok-major.field-0-1.now c.in_ok-magic.magic
    c.in_ok-minor.minor c.in_ok-major.major (λ i. omega (arith, c.type_inv.bytes i))
    c.in_ok-magic.ensures c.if-magic.false c.in_ok-minor.ensures c.in_ok-major.ensures in
    (c.in_ok-major.field-0-1.now, h.spelled)
