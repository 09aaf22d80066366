use Rattle.std.proofs.lemmas.Result.{err_from_is_err_and}
use Rattle.jl_classfile.proofs.ReadLaws.{size_first, head_first, pool_first}
use Rattle.jl_classfile.proofs.read.pool_at.Goals as goal

pub returns-then-bytes-gt-MOST_BYTES-clause-fault : goal.returns-then-bytes-gt-MOST_BYTES-clause-fault
returns-then-bytes-gt-MOST_BYTES-clause-fault c = λ other. size_first c.args.newest c.args.bytes.now c.if-bytes-gt-MOST_BYTES.true

pub returns-in_err-major-clause-fault : goal.returns-in_err-major-clause-fault
returns-in_err-major-clause-fault c =
    let p = err_from_is_err_and c.from_residual.result c.from_residual.ensures.1 in
    rw (p.1, p.2) (λ other. head_first c.args.newest c.args.bytes.now c.in_err-major.field-0.0 c.if-bytes-gt-MOST_BYTES.false c.in_err-major.ensures.fault)

pub returns-in_err-pool-clause-fault : goal.returns-in_err-pool-clause-fault
returns-in_err-pool-clause-fault c =
    let p = err_from_is_err_and c.from_residual-in_err-pool.result c.from_residual-in_err-pool.ensures.1 in
    rw (p.1, p.2) (pool_first c.args.newest c.args.bytes.now c.in_ok-major.rest.now c.in_ok-major.major c.in_err-pool.field-0.0 c.if-bytes-gt-MOST_BYTES.false
    c.in_ok-major.ensures.ok c.in_err-pool.ensures.fault)
