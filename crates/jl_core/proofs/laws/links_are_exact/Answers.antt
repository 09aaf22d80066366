use Rattle.jl_core.proofs.HeadlineLaws.{links_exact, log_answered}
use Rattle.jl_core.proofs.laws.links_are_exact.Goals as goal

pub returns-clause-links : goal.returns-clause-links
returns-clause-links c = links_exact

pub returns-clause-log : goal.returns-clause-log
returns-clause-log c = log_answered
