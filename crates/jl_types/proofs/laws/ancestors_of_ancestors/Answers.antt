use Rattle.jl_types.proofs.Ancestors.{among_itself, of_ancestors, ancestor_decides}
use Rattle.jl_types.proofs.laws.ancestors_of_ancestors.Goals as goal

pub returns-clause-itself : goal.returns-clause-itself
returns-clause-itself c = among_itself

pub returns-clause-onward : goal.returns-clause-onward
returns-clause-onward c = of_ancestors

pub returns-clause-decided : goal.returns-clause-decided
returns-clause-decided c = ancestor_decides
