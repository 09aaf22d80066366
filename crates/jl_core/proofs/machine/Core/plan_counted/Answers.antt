use Rattle.std.specs.Prelude.{◌≤◌, Result, Ok, Err, IfErr}
use Rattle.std.proofs.Common.{subst, arith, inr}
use Rattle.jl_types.specs.Events.Event.{Event}
use Rattle.jl_events.specs.Judging.{most_to_judge}
use Rattle.jl_core.specs.State.{State, events, world_of}
use Rattle.jl_core.specs.Plans.{IsPlanned}
use Rattle.jl_core.proofs.WorkLaws.{judged_in_bound}
use Rattle.jl_core.proofs.machine.Core.plan_counted.Goals as goal

for_any : {X E : Type 0} {P : E → Type 0} → ((e : E) → P e) → (r : Result X E) → IfErr r P
for_any f (Ok x) = tt
for_any f (Err e) = f e

pub returns-clause-planned : goal.returns-clause-planned
returns-clause-planned c =
    subst (λ (e : Event). IsPlanned c.args.self.now e c.in_ok-planned.planned) c.in_ok-event.ensures.judged.0 c.in_ok-planned.ensures.planned

pub returns-in_err-event-clause-refused_ticks : goal.returns-in_err-event-clause-refused_ticks
returns-in_err-event-clause-refused_ticks c =
    let ticks = subst (λ (core : State). c.judged.new.work ≤ most_to_judge (world_of core) c.args.event) c.self.view_is c.in_err-event.ensures.ticks in
    let most = judged_in_bound (events c.args.self.now) c.args.event in
    for_any (λ refusal. inr (omega (arith, ticks, most))) c.from_residual.result
