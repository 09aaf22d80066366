use Rattle.jl_renewal.proofs.ComeOver.{renewal_accepted, renewal_world}
use Rattle.jl_renewal.proofs.laws.renewals_are_accepted.Goals as goal

pub returns-clause-accepted : goal.returns-clause-accepted
returns-clause-accepted c old released limits accepted fits = renewal_accepted old released accepted limits fits

pub returns-clause-world : goal.returns-clause-world
returns-clause-world c old released accepted = renewal_world old released accepted
