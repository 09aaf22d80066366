use Rattle.jl_types.specs.Linkage.Overriding.{directly}
use Rattle.jl_types.proofs.Overrides.{alike_of}
use Rattle.jl_types.proofs.Walks.{by_one_walk}
use Rattle.jl_types.proofs.laws.overriding_in_one_walk.Goals as goal

pub returns-clause-alike : goal.returns-clause-alike
returns-clause-alike _ = λ cs c a r. alike_of cs r

pub returns-clause-visible : goal.returns-clause-visible
returns-clause-visible _ = λ cs c a alike visible. directly alike visible

pub returns-clause-bridged : goal.returns-clause-bridged
returns-clause-bridged _ = by_one_walk
