use Rattle.jl_types.proofs.Orders.{world_good}
use Rattle.jl_resolve.proofs.Later.{later_stays}
use Rattle.jl_select.proofs.Constancy.{selected_stays}
use Rattle.jl_select.proofs.laws.what_was_selected_stays.Goals as goal

pub returns : goal.returns
returns c = λ h e. selected_stays _ _ (later_stays h e) (world_good h)
