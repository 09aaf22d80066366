use Rattle.std.specs.Prelude.{Result, Ok, Err, IfOk, IfErr}
use Rattle.std.proofs.Common.{subst}
use Rattle.jl_types.specs.Events.Verdict.{verdict}
use Rattle.jl_core.specs.State.{State, world_of, IsRefused}
use Rattle.jl_core.specs.Plans.{IsPlanned}
use Rattle.jl_server.proofs.Logs.{refused_logged}
use Rattle.jl_server.proofs.book.plan_new.Goals as goal

for_err : {X E : Type 0} {P Q : E → Type 0} → ((e : E) → P e → Q e) → (r : Result X E) → IfErr r P → IfErr r Q
for_err f (Ok x) h = tt
for_err f (Err e) h = f e h

pub returns-clause-planned : goal.returns-clause-planned
returns-clause-planned g c =
    subst (λ (s : State). IfOk c.plan.result (IsPlanned s c.args.event)) c.requires c.plan.ensures.planned

pub returns-clause-refused : goal.returns-clause-refused
returns-clause-refused g c =
    for_err
    (λ refusal said.
    refused_logged g.K.Name.limits c.args.list.now c.args.event refusal
    (subst (λ (s : State). IsRefused (verdict s.limits (world_of s) c.args.event) refusal) c.requires said))
    c.plan.result c.plan.ensures.refused
