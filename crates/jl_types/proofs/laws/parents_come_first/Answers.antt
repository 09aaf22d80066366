use Rattle.jl_types.proofs.Orders.{world_good}
use Rattle.jl_types.proofs.laws.parents_come_first.Goals as goal

pub returns : goal.returns
returns c = λ h. (world_good h).ordered
