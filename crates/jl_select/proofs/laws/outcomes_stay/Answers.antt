use Rattle.jl_types.proofs.Orders.{world_good}
use Rattle.jl_resolve.proofs.Later.{later_stays}
use Rattle.jl_select.proofs.Constancy.{outcomes_stay}
use Rattle.jl_select.proofs.laws.outcomes_stay.Goals as goal

pub returns : goal.returns
returns c = λ h e recorded closed. outcomes_stay _ _ (later_stays h e) (world_good h) closed.first recorded
