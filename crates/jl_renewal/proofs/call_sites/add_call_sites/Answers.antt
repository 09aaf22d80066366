use Rattle.std.proofs.Common.{ap, subst, ◌∙◌}
use Rattle.std.proofs.lemmas.Result.{err_from_is_err_and}
use Rattle.std.specs.Prelude.{ℕ, ◌<◌}
use Rattle.jl_renewal.specs.Renewal.{new_call_site}
use Rattle.jl_renewal.proofs.AddLaws.{adds_turn_number}
use Rattle.jl_renewal.proofs.StopLaws.{stopped_turn_number, stopped_at_number}
use Rattle.jl_renewal.proofs.call_sites.add_call_sites.Goals as goal

pub loop-number-preserved : goal.loop-number-preserved
loop-number-preserved g c =
    adds_turn_number (new_call_site c.args.old.now c.args.numbers.now) c.loop-number.number c.in_ok-event.event _ _ _
    (c.in_ok-event.ensures ∙ ap (new_call_site c.args.old.now c.args.numbers.now) c.new.ensures)
    c.loop-number.invariant c.in_ok-add_if_any.ensures.adds

pub returns-in_err-event-clause-stops : goal.returns-in_err-event-clause-stops
returns-in_err-event-clause-stops g c =
    let p = err_from_is_err_and c.from_residual.result c.from_residual.ensures.1 in
    rw (p.1)
    (stopped_at_number (new_call_site c.args.old.now c.args.numbers.now) _ c.loop-number.number _ _ _
    (subst (λ (n : ℕ). c.loop-number.number < n) c.few_call_sites-number-end.ensures.count c.loop-number-test.true) c.loop-number.invariant p.2)

pub returns-in_err-add_if_any-clause-stops : goal.returns-in_err-add_if_any-clause-stops
returns-in_err-add_if_any-clause-stops g c =
    let p = err_from_is_err_and c.from_residual-in_err-add_if_any.result c.from_residual-in_err-add_if_any.ensures.1 in
    rw (p.1, p.2)
    (stopped_turn_number (new_call_site c.args.old.now c.args.numbers.now) _ c.loop-number.number c.in_ok-event.event _ _ _ _
    (subst (λ (n : ℕ). c.loop-number.number < n) c.few_call_sites-number-end.ensures.count c.loop-number-test.true)
    (c.in_ok-event.ensures ∙ ap (new_call_site c.args.old.now c.args.numbers.now) c.new.ensures)
    c.loop-number.invariant c.in_err-add_if_any.ensures.stops)
