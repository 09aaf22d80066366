use Rattle.jl_types.proofs.Emptied.{dropped_are_emptied}
use Rattle.jl_types.proofs.laws.dropped_are_the_empty_slots.Goals as goal

pub returns : goal.returns
returns c = dropped_are_emptied
