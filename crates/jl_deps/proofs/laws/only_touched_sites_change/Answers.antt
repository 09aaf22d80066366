use Rattle.jl_deps.proofs.BoundLaws.{touched_are_bounded}
use Rattle.jl_deps.proofs.IndexLaws.{touched_of, others_stay}
use Rattle.jl_deps.proofs.laws.only_touched_sites_change.Goals as goal

pub returns-clause-touched : goal.returns-clause-touched
returns-clause-touched c = touched_of

pub returns-clause-others : goal.returns-clause-others
returns-clause-others c = λ limits w e links index order accepted rising is_index linked left s none. others_stay w e links index rising is_index limits
    order accepted linked left s none

pub returns-clause-counted : goal.returns-clause-counted
returns-clause-counted c = touched_are_bounded
