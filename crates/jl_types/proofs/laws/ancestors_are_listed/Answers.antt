use Rattle.jl_types.proofs.Grown.{among_ancestors}
use Rattle.jl_types.proofs.laws.ancestors_are_listed.Goals as goal

pub returns : goal.returns
returns c = among_ancestors
