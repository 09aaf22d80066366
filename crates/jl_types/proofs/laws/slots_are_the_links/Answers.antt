use Rattle.jl_types.proofs.Places.{legal_limit}
use Rattle.jl_types.proofs.Within.{legal_within}
use Rattle.jl_types.proofs.Written.{length_table, legal_slots, beyond}
use Rattle.jl_types.proofs.laws.slots_are_the_links.Goals as goal

pub returns-clause-size : goal.returns-clause-size
returns-clause-size c = length_table

pub returns-clause-links : goal.returns-clause-links
returns-clause-links c = legal_slots

pub returns-clause-requested : goal.returns-clause-requested
returns-clause-requested c = legal_limit

pub returns-clause-within : goal.returns-clause-within
returns-clause-within c = λ limits entries allowed legal. legal_within limits allowed.some_loaders entries legal

pub returns-clause-beyond : goal.returns-clause-beyond
returns-clause-beyond c = beyond
