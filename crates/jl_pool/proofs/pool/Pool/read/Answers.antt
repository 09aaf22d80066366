use Rattle.std.proofs.Common.{subst, sym}
use Rattle.std.proofs.lemmas.Result.{err_from_is_err_and}
use Rattle.jl_pool.specs.Faults.{AllAt}
use Rattle.jl_pool.specs.Pools.{HasText}
use Rattle.jl_pool.proofs.PoolFaultLaws.{All-numbers}
use Rattle.jl_pool.proofs.PoolLaws.{check_fault, sound}
use Rattle.jl_pool.proofs.pool.Pool.read.Goals as goal

pub check-requires : goal.check-requires
check-requires c = λ even.
    let o = c.in_ok-pool.ensures.ok in
    subst (AllAt HasText) (sym o.3) (λ j d. All-numbers HasText o.0 j d (o.5 even))

pub returns-in_err-check-clause-fault : goal.returns-in_err-check-clause-fault
returns-in_err-check-clause-fault c =
    let p = err_from_is_err_and c.from_residual-in_err-check.result c.from_residual-in_err-check.ensures.1 in
    let o = c.in_ok-pool.ensures.ok in
    rw (p.1, p.2) (check_fault c.args.bytes.now o.0 o.1 c.in_ok-pool.pool c.in_err-check.field-0.0 o.2 o.3 c.in_err-check.ensures.fault)

pub returns-clause-ok : goal.returns-clause-ok
returns-clause-ok c =
    let o = c.in_ok-pool.ensures.ok in
    (o.0, o.1, o.2, sound o.0 c.in_ok-pool.pool o.3 c.in_ok-check.ensures.texts c.in_ok-check.ensures.links c.in_ok-check.ensures.types, o.3, o.4)
