use Rattle.std.proofs.Common.{length, refl}
use Rattle.std.proofs.lemmas.Option.{slice_get_read}
use Rattle.std.proofs.lemmas.Result.{err_from_is_err_and}
use Rattle.jl_classfile.proofs.ShownLaws.{kept_step}
use Rattle.jl_classfile.proofs.read.methods_of.Goals as goal

pub loop-i-preserved : goal.loop-i-preserved
loop-i-preserved c =
    let method = rw c.index-members-i.is at c.in_ok-method_of.ensures.ok in
    rw c.in_ok-push.ensures.items
    (kept_step c.args.pool.now c.args.members.now c.loop-i.sites.items c.method_of.new.sites.items c.loop-i.methods.items c.loop-i.i c.index-members-i.result
    c.in_ok-method_of.field-0
    c.loop-i-test.true c.loop-i.invariant method)

pub returns-in_err-method_of-clause-fault : goal.returns-in_err-method_of-clause-fault
returns-in_err-method_of-clause-fault c =
    let p = err_from_is_err_and c.from_residual-in_err-method_of.result c.from_residual-in_err-method_of.ensures.1 in
    let there = slice_get_read c.args.members.now (length c.args.members.now) c.loop-i.i c.index-members-i.result refl c.loop-i-test.true c.index-members-i.is
    in
    rw (p.1, p.2) (λ other. (c.loop-i.i, c.index-members-i.result, there, c.in_err-method_of.ensures.fault))
