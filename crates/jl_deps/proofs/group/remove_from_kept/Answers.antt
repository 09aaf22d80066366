use Rattle.std.proofs.Common.{◌∙◌}
use Rattle.jl_deps.proofs.GroupLaws.{same_has}
use Rattle.jl_deps.proofs.group.remove_from_kept.Goals as goal

pub returns-in-Many-clause-last : goal.returns-in-Many-clause-last
returns-in-Many-clause-last c = λ last s. same_has s c.remove.new.sites.keys ∙ c.remove.ensures.last last s
