use Rattle.jl_classfile.proofs.HeadLaws.{head_takes}
use Rattle.std.proofs.Common.{arith}
use Rattle.jl_classfile.proofs.read.head_at.Goals as goal

pub returns-then-not-is_version-clause-fault : goal.returns-then-not-is_version-clause-fault
returns-then-not-is_version-clause-fault c =
    let h = head_takes c.args.bytes.now c.in-Some.after.now c.in-Some-u2_at.after.now c.in-Some-u2_at-2.rest.now c.in-Some.magic c.in-Some-u2_at.minor
    c.in-Some-u2_at-2.major (λ i. omega (arith, c.type_inv.bytes i))
    c.in-Some.ensures c.if-magic.false c.in-Some-u2_at.ensures c.in-Some-u2_at-2.ensures in
    (c.in-Some-u2_at.minor, c.in-Some-u2_at-2.major, c.in-Some-u2_at-2.rest.now, h.spelled, h.minor_size, h.major_size, c.if-not-is_version.ensures)

pub returns-clause-ok : goal.returns-clause-ok
returns-clause-ok c =
    let h = head_takes c.args.bytes.now c.in-Some.after.now c.in-Some-u2_at.after.now c.in-Some-u2_at-2.rest.now c.in-Some.magic c.in-Some-u2_at.minor
    c.in-Some-u2_at-2.major (λ i. omega (arith, c.type_inv.bytes i))
    c.in-Some.ensures c.if-magic.false c.in-Some-u2_at.ensures c.in-Some-u2_at-2.ensures in
    record { minor = c.in-Some-u2_at.minor; spelled = h.spelled; minor_size = h.minor_size; major_size = h.major_size; version = c.if-not-is_version.ensures }
