use Rattle.std.proofs.Common.{sym, ◌∙◌}
use Rattle.jl_report.proofs.FindingLaws.{found_linked}
use Rattle.jl_report.proofs.breaking.without.Goals as goal

pub rests_on-requires : goal.rests_on-requires
rests_on-requires c = λ l e. sym c.link_at-found.ensures ∙ found_linked c.link_at-found.result l (sym c.of-finding.ensures ∙ e)
