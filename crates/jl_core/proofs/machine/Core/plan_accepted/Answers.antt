use Rattle.std.specs.Prelude.{◌≡◌, Result, Ok, Err, IfOk}
use Rattle.std.proofs.Common.{sym, subst, ◌∙◌}
use Rattle.jl_core.specs.State.{State, IsAccepted}
use Rattle.jl_core.specs.Plans.{IsPlanned}
use Rattle.jl_core.proofs.machine.Core.plan_accepted.Goals as goal

for_ok : {X E : Type 0} {P Q : X → Type 0} → ((x : X) → P x → Q x) → (r : Result X E) → IfOk r P → IfOk r Q
for_ok f (Ok x) h = f x h
for_ok f (Err e) h = tt

pub returns-clause-planned : goal.returns-clause-planned
returns-clause-planned c =
    let present : c.self.inside.present ≡ c.args.self.now = c.self.view_is ∙ c.in_ok-next.ensures.unchanged in
    for_ok
    (λ planned is.
    subst (λ (core : State). IsPlanned core c.args.event planned) present
    (is c.args.event
    (subst (λ (core : State). IsAccepted core c.in_ok-next.next c.args.event c.in_ok-next.reply) (sym present) c.in_ok-next.ensures.accepted)))
    c.new.result c.new.ensures
