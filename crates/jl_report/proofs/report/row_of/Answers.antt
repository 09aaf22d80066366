use Rattle.std.proofs.Common.{sym, ◌∙◌}
use Rattle.jl_relink.specs.Placed.{asking}
use Rattle.jl_report.proofs.FindingLaws.{in_world}
use Rattle.jl_report.proofs.report.row_of.Goals as goal

pub rests_on-requires : goal.rests_on-requires
rests_on-requires c = λ l e.
    in_world (asking c.args.classes.now c.args.invocation.now.place) c.args.invocation.now.never l (sym c.finding_in-finding.ensures ∙ e)
