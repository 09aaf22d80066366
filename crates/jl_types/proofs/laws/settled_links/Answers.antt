use Rattle.jl_types.proofs.Installed.{installed_from, installed_to}
use Rattle.jl_types.proofs.InstalledLinks.{installed_requested}
use Rattle.jl_types.proofs.laws.settled_links.Goals as goal

pub returns-clause-settled : goal.returns-clause-settled
returns-clause-settled c = λ h s l. (installed_to h s l, installed_from h s l)

pub returns-clause-stayed : goal.returns-clause-stayed
returns-clause-stayed c = λ h s l e. let r = installed_to h s l e in (r.since, r.installed, r.stayed)

pub returns-clause-requested : goal.returns-clause-requested
returns-clause-requested c = installed_requested
