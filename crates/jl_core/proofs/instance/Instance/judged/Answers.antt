use Rattle.std.proofs.Common.{ap, subst, ◌∙◌}
use Rattle.jl_types.specs.Events.Verdict.{verdict}
use Rattle.jl_types.specs.Values.World.{World}
use Rattle.jl_events.specs.Judging.{IsJudged}
use Rattle.jl_core.specs.State.{State, world_of}
use Rattle.jl_core.proofs.instance.Instance.judged.Goals as goal

pub returns-clause-judged : goal.returns-clause-judged
returns-clause-judged c =
    subst (λ v. IsJudged v c.args.event c.judged.result)
    (ap (λ (w : World). verdict c.self.inside.limits w c.args.event) (c.deref.ensures ∙ c.self.invariant.0)
    ∙ ap (λ (core : State). verdict core.limits (world_of core) c.args.event) c.self.view_is)
    c.judged.ensures.judged
