use Rattle.std.proofs.Common.{◌∙◌, ap, take}
use Rattle.jl_report.specs.Methods.{run_by}
use Rattle.jl_report.specs.ForProofs.Found.{with_run}
use Rattle.jl_report.proofs.MethodLaws.{one_alone}
use Rattle.jl_report.proofs.methods.own_methods.Goals as goal

pub returns : goal.returns
returns c =
    let run = run_by c.args.finding.now in
    c.truncate.ensures.items
    ∙ ap (take c.args.most) (c.in_ok-add_run.ensures ∙ (λ i. with_run (c.new-found.ensures.items i) (c.run_by.ensures i)) ∙ one_alone run)
