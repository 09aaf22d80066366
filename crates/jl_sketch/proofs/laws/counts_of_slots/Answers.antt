use Rattle.jl_sketch.proofs.CountLaws.{count_is, no_count}
use Rattle.jl_sketch.proofs.laws.counts_of_slots.Goals as goal

pub returns-clause-counted : goal.returns-clause-counted
returns-clause-counted c = count_is

pub returns-clause-none : goal.returns-clause-none
returns-clause-none c = no_count
