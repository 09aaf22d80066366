use Rattle.std.proofs.Common.{ap, ◌∙◌}
use Rattle.std.proofs.lemmas.Result.{err_from_is_err_and}
use Rattle.jl_renewal.specs.Renewal.{binding}
use Rattle.jl_renewal.proofs.AddLaws.{adds_turn}
use Rattle.jl_renewal.proofs.StopLaws.{stopped_turn}
use Rattle.jl_renewal.proofs.places.add_each.Goals as goal

pub loop-one-preserved : goal.loop-one-preserved
loop-one-preserved g c =
    adds_turn _ c.args.bound.now c.loop-one.one-index c.one-item.result c.binding.result _ _ _ c.loop-one-test.true
    (c.binding.ensures ∙ ap (binding c.args.numbers.now) c.one-item.is)
    c.loop-one.invariant c.in_ok-add_if_any.ensures.adds

pub returns-in_err-add_if_any-clause-stops : goal.returns-in_err-add_if_any-clause-stops
returns-in_err-add_if_any-clause-stops g c =
    let p = err_from_is_err_and c.from_residual.result c.from_residual.ensures.1 in
    rw (p.1, p.2)
    (stopped_turn _ c.args.bound.now c.loop-one.one-index c.one-item.result c.binding.result _ _ _ _ c.loop-one-test.true
    (c.binding.ensures ∙ ap (binding c.args.numbers.now) c.one-item.is)
    c.loop-one.invariant c.in_err-add_if_any.ensures.stops)
