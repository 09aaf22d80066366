use Rattle.std.proofs.lemmas.Result.{err_from_is_err_and}
use Rattle.jl_renewal.specs.Renewal.{invalidation, invalid_points}
use Rattle.jl_renewal.proofs.StopLaws.{stopped_before}
use Rattle.jl_renewal.proofs.call_sites.add_invalidation.Goals as goal

pub returns-in_err-points-clause-stops : goal.returns-in_err-points-clause-stops
returns-in_err-points-clause-stops g c =
    let p = err_from_is_err_and c.from_residual.result c.from_residual.ensures.1 in
    rw (p.1)
    (stopped_before (invalidation (invalid_points c.args.old.now c.args.numbers.now)) _ _ p.2)
