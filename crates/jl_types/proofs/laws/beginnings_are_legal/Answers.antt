use Rattle.jl_types.proofs.Legal.{legal_beginning}
use Rattle.jl_types.proofs.laws.beginnings_are_legal.Goals as goal

pub returns : goal.returns
returns c = legal_beginning
