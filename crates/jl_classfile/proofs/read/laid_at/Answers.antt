use Rattle.std.proofs.lemmas.Result.{err_from_is_err_and}
use Rattle.jl_classfile.proofs.ReadLaws.{broken_first, trailing_first, lies, no_more, has_more}
use Rattle.jl_classfile.proofs.read.laid_at.Goals as goal

pub returns-in_err-body-clause-fault : goal.returns-in_err-body-clause-fault
returns-in_err-body-clause-fault c =
    let p = err_from_is_err_and c.from_residual-in_err-body.result c.from_residual-in_err-body.ensures.1 in
    rw (p.1, p.2) (broken_first c.args.newest c.args.bytes.now c.in_ok-major.major c.in_ok-major.pool c.in_ok-major.later.now c.in_err-body.field-0.0
    c.in_ok-major.ensures.ok c.in_err-body.ensures.read)

pub returns-then-not-is_empty-clause-fault : goal.returns-then-not-is_empty-clause-fault
returns-then-not-is_empty-clause-fault c = λ other.
    trailing_first c.args.newest c.args.bytes.now c.in_ok-major.major c.in_ok-major.pool c.in_ok-major.later.now c.in_ok-body.body c.in_ok-body.rest.now
    c.in_ok-major.ensures.ok c.in_ok-body.ensures.spelled
    (has_more c.in_ok-body.rest.now c.if-not-is_empty.ensures)

pub returns-clause-ok : goal.returns-clause-ok
returns-clause-ok c =
    lies c.args.newest c.args.bytes.now c.in_ok-major.major c.in_ok-major.pool c.in_ok-major.later.now c.in_ok-body.body
    c.in_ok-body.rest.now c.in_ok-major.ensures.ok
    c.in_ok-body.ensures.spelled (no_more c.in_ok-body.rest.now c.if-not-is_empty.ensures)
