use Rattle.std.proofs.Common.{refl}
use Rattle.jl_types.proofs.Retiring.{receivers_left, present_after, found_after, gone_after, one_may_go}
use Rattle.jl_types.proofs.laws.fewer_loaders.Goals as goal

pub returns-clause-receivers : goal.returns-clause-receivers
returns-clause-receivers c = receivers_left

pub returns-clause-present : goal.returns-clause-present
returns-clause-present c = present_after

pub returns-clause-lookups : goal.returns-clause-lookups
returns-clause-lookups c = found_after

pub returns-clause-gone : goal.returns-clause-gone
returns-clause-gone c = gone_after

pub returns-clause-one : goal.returns-clause-one
returns-clause-one c = λ w loader. refl

pub returns-clause-one_may : goal.returns-clause-one_may
returns-clause-one_may c = one_may_go
