use Rattle.jl_report.proofs.AskingLaws.{same_scratch, same_footprint}
use Rattle.jl_report.proofs.laws.reported_links_are_from_scratch.Goals as goal

pub returns-clause-links : goal.returns-clause-links
returns-clause-links c = same_scratch

pub returns-clause-rests_on : goal.returns-clause-rests_on
returns-clause-rests_on c = same_footprint
