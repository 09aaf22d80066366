use Rattle.jl_types.proofs.Ancestors.{superclasses_is}
use Rattle.jl_types.proofs.laws.superclasses_upward.Goals as goal

pub returns : goal.returns
returns c = superclasses_is
