use Rattle.std.proofs.Common.{refl}
use Rattle.jl_farm.proofs.Shifts.{works_none}
use Rattle.jl_farm.proofs.shared.Shared.one.Goals as goal

pub returns-in_err-reserve-clause-works : goal.returns-in_err-reserve-clause-works
returns-in_err-reserve-clause-works g c = works_none _ _ _ _ c.reserve.ensures.items refl refl

pub returns-in_default-clause-works : goal.returns-in_default-clause-works
returns-in_default-clause-works g c = works_none _ _ _ _ c.reserve.ensures.items c.in_default.ensures.next.0 refl
