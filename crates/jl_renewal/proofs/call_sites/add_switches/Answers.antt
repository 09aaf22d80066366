use Rattle.std.specs.Prelude.{None}
use Rattle.std.proofs.lemmas.Result.{err_from_is_err_and}
use Rattle.jl_renewal.proofs.AddLaws.{adds_turn}
use Rattle.jl_renewal.proofs.StopLaws.{stopped_turn}
use Rattle.jl_renewal.proofs.call_sites.add_switches.Goals as goal

pub loop-number-preserved : goal.loop-number-preserved
loop-number-preserved g c =
    adds_turn _ c.args.numbers.now c.loop-number.number-index None c.switch_event.result _ _ _ c.loop-number-test.true
    c.switch_event.ensures
    c.loop-number.invariant c.in_ok-add_if_any.ensures.adds

pub returns-in_err-add_if_any-clause-stops : goal.returns-in_err-add_if_any-clause-stops
returns-in_err-add_if_any-clause-stops g c =
    let p = err_from_is_err_and c.from_residual.result c.from_residual.ensures.1 in
    rw (p.1, p.2)
    (stopped_turn _ c.args.numbers.now c.loop-number.number-index None c.switch_event.result _ _ _ _ c.loop-number-test.true
    c.switch_event.ensures c.loop-number.invariant c.in_err-add_if_any.ensures.stops)
