use Rattle.jl_types.proofs.Releasing.{unreleased_without, length_without, gone_after_release, none_targeted}
use Rattle.jl_types.proofs.laws.fewer_call_sites.Goals as goal

pub returns-clause-call_sites : goal.returns-clause-call_sites
returns-clause-call_sites c = λ sites call_sites points. unreleased_without call_sites sites.call_sites

pub returns-clause-switches : goal.returns-clause-switches
returns-clause-switches c = λ sites call_sites points. unreleased_without points sites.switches

pub returns-clause-numbers : goal.returns-clause-numbers
returns-clause-numbers c = λ sites call_sites points. (length_without call_sites sites.call_sites, length_without points sites.switches)

pub returns-clause-gone : goal.returns-clause-gone
returns-clause-gone c = gone_after_release

pub returns-clause-targets : goal.returns-clause-targets
returns-clause-targets c = none_targeted
