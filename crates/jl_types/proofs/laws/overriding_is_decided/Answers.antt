use Rattle.jl_types.proofs.Overrides.{can_override_decides}
use Rattle.jl_types.proofs.laws.overriding_is_decided.Goals as goal

pub returns : goal.returns
returns c = can_override_decides
