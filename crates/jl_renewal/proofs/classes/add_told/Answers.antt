use Rattle.std.proofs.Common.{ap, ◌∙◌}
use Rattle.std.proofs.lemmas.Result.{err_from_is_err_and}
use Rattle.jl_core.specs.Logs.{Entry}
use Rattle.jl_events.specs.Accepted.{Accepted}
use Rattle.jl_renewal.specs.Told.{accepted_event}
use Rattle.jl_renewal.proofs.AddLaws.{adds_turn}
use Rattle.jl_renewal.proofs.StopLaws.{stopped_turn, stopped_at}
use Rattle.jl_renewal.proofs.classes.add_told.Goals as goal

pub loop-entry-preserved : goal.loop-entry-preserved
loop-entry-preserved g c =
    adds_turn _ c.args.entries.now c.loop-entry.entry-index c.entry-item.result c.in_ok-event.event _ _ _ c.loop-entry-test.true
    (c.in_ok-event.ensures
    ∙ ap (λ (told : Accepted). accepted_event c.args.old.now c.args.numbers.now told)
    (c.get.ensures ∙ c.event-told.ensures ∙ ap (λ (entry : Entry). entry.event) c.entry-item.is))
    c.loop-entry.invariant c.in_ok-add_if_any.ensures.adds

pub returns-in_err-event-clause-stops : goal.returns-in_err-event-clause-stops
returns-in_err-event-clause-stops g c =
    let p = err_from_is_err_and c.from_residual.result c.from_residual.ensures.1 in
    rw (p.1)
    (stopped_at _ c.args.entries.now c.loop-entry.entry-index c.entry-item.result _ _ _ c.loop-entry-test.true c.loop-entry.invariant p.2)

pub returns-in_err-add_if_any-clause-stops : goal.returns-in_err-add_if_any-clause-stops
returns-in_err-add_if_any-clause-stops g c =
    let p = err_from_is_err_and c.from_residual-in_err-add_if_any.result c.from_residual-in_err-add_if_any.ensures.1 in
    rw (p.1, p.2)
    (stopped_turn _ c.args.entries.now c.loop-entry.entry-index c.entry-item.result c.in_ok-event.event _ _ _ _ c.loop-entry-test.true
    (c.in_ok-event.ensures
    ∙ ap (λ (told : Accepted). accepted_event c.args.old.now c.args.numbers.now told)
    (c.get.ensures ∙ c.event-told.ensures ∙ ap (λ (entry : Entry). entry.event) c.entry-item.is))
    c.loop-entry.invariant c.in_err-add_if_any.ensures.stops)
