use Rattle.std.proofs.Common.{ap, sym, ◌∙◌}
use Rattle.jl_types.specs.Values.World.{World}
use Rattle.jl_types.specs.Linkage.Stages.{stage}
use Rattle.jl_types.specs.Linkage.Links.{runs}
use Rattle.jl_relink.specs.ForProofs.Rows.{outcome_of}
use Rattle.jl_relink.proofs.StageLaws.{selects_outcome}
use Rattle.jl_relink.proofs.receiver.runs_at.Goals as goal

pub returns-in-Some-clause-runs : goal.returns-in-Some-clause-runs
returns-in-Some-clause-runs c = λ i is other.
    let w = c.args.world.now in
    let selection = c.in-Some.selection in
    c.receiver_runs.ensures.runs
    ∙ ap (runs c.args.method.now)
    (ap (λ (w : World). outcome_of w.classes selection c.args.receiver) c.world.view_is
    ∙ sym (selects_outcome w.classes (stage w c.args.site) selection c.args.receiver c.in-Some.ensures i is))
