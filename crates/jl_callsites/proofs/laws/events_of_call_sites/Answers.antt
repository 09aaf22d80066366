use Rattle.jl_callsites.proofs.Worlds.{new_site_comes_to, set_target_comes_to, new_switch_comes_to, invalidate_comes_to, release_comes_to}
use Rattle.jl_callsites.proofs.laws.events_of_call_sites.Goals as goal

pub returns-clause-new_site : goal.returns-clause-new_site
returns-clause-new_site c = new_site_comes_to

pub returns-clause-set_target : goal.returns-clause-set_target
returns-clause-set_target c = set_target_comes_to

pub returns-clause-new_switch : goal.returns-clause-new_switch
returns-clause-new_switch c = new_switch_comes_to

pub returns-clause-invalidate : goal.returns-clause-invalidate
returns-clause-invalidate c = invalidate_comes_to

pub returns-clause-release : goal.returns-clause-release
returns-clause-release c = release_comes_to
