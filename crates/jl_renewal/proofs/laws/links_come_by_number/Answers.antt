use Rattle.jl_renewal.proofs.NumberedLinks.{links_few, rows_come}
use Rattle.jl_renewal.proofs.laws.links_come_by_number.Goals as goal

pub returns-clause-rows : goal.returns-clause-rows
returns-clause-rows c old before fresh entries released n accepted refilled = rows_come old released accepted before fresh entries n refilled

pub returns-clause-few : goal.returns-clause-few
returns-clause-few c core = links_few core
