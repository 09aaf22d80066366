use Rattle.jl_relink.proofs.Costs.{takes_one_evaluation}
use Rattle.jl_relink.proofs.laws.touched_sites_take_one_evaluation.Goals as goal

pub returns : goal.returns
returns c = takes_one_evaluation
