use Rattle.jl_relink.proofs.InOrder.{accepted_in_order}
use Rattle.jl_relink.proofs.laws.accepted_events_are_in_order.Goals as goal

pub returns : goal.returns
returns c = accepted_in_order
