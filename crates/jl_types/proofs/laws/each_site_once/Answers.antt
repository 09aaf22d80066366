use Rattle.jl_types.proofs.InstalledLinks.{links_rise, links_are}
use Rattle.jl_types.proofs.laws.each_site_once.Goals as goal

pub returns-clause-rising : goal.returns-clause-rising
returns-clause-rising c = links_rise

pub returns-clause-each : goal.returns-clause-each
returns-clause-each c = links_are
