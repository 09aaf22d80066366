use Rattle.std.proofs.Common.{sym, subst, Result}
use Rattle.serde_json.specs.View.{view}
use Rattle.jl_types.specs.declared.event.Reply.{Reply}
use Rattle.jl_types.specs.declared.refusal.Refusal.{Refusal}
use Rattle.jl_session.specs.Obeying.{IsEventData}
use Rattle.jl_session.proofs.ScanLaws.{for_ok}
use Rattle.jl_session.proofs.session.event_value.Goals as goal

pub returns-in-Err : goal.returns-in-Err
returns-in-Err c =
    for_ok (λ v e. subst (λ (outcome : Result Reply Refusal). IsEventData outcome (view v)) (sym c.in-Err.is) e) c.event_refusal_value.result
    c.event_refusal_value.ensures
