use Rattle.jl_renewal.proofs.MovedLaw.{entries_lead}
use Rattle.jl_renewal.proofs.laws.entries_come_over.Goals as goal

pub returns-clause-accepted : goal.returns-clause-accepted
returns-clause-accepted c old released es fs limits accepted few there = (entries_lead old released es fs limits accepted few there).follow

pub returns-clause-world : goal.returns-clause-world
returns-clause-world c old released es fs limits accepted few there = (entries_lead old released es fs limits accepted few there).after
