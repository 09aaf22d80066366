use Rattle.std.specs.Prelude.{ℕ, None, List, Option, filter_map, option_map}
use Rattle.std.proofs.lemmas.Result.{err_from_is_err_and}
use Rattle.jl_types.specs.declared.event.EventOf.TheVariants as event
use Rattle.jl_renewal.proofs.AddLaws.{adds_turn}
use Rattle.jl_renewal.proofs.StopLaws.{stopped_as, stopped_turn}
use Rattle.jl_renewal.proofs.classes.add_loaders.Goals as goal

pub loop-number-preserved : goal.loop-number-preserved
loop-number-preserved g c =
    adds_turn _ c.others-others.result.now c.loop-number.number-index None c.loader_event.result _ _ _ c.loop-number-test.true c.loader_event.ensures
    c.loop-number.invariant c.in_ok-add_if_any.ensures.adds

pub returns-in_err-add_if_any-clause-stops : goal.returns-in_err-add_if_any-clause-stops
returns-in_err-add_if_any-clause-stops g c =
    let p = err_from_is_err_and c.from_residual.result c.from_residual.ensures.1 in
    rw (p.1, p.2)
    (stopped_as (λ (numbers : List (Option ℕ)). filter_map (option_map (λ number. event.NewLoader)) numbers) c.others-others.ensures
    (stopped_turn _ c.others-others.result.now c.loop-number.number-index None c.loader_event.result _ _ _ _ c.loop-number-test.true
    c.loader_event.ensures c.loop-number.invariant c.in_err-add_if_any.ensures.stops))
