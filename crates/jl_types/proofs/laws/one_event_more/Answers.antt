use Rattle.jl_types.proofs.OneMore.{installed_step}
use Rattle.jl_types.proofs.laws.one_event_more.Goals as goal

pub returns : goal.returns
returns c = installed_step
