use Rattle.jl_relink.proofs.KeyLaws.{untouched_stays}
use Rattle.jl_relink.proofs.InOrder.{settled_stays}
use Rattle.jl_relink.proofs.laws.untouched_links_stay.Goals as goal

pub returns-clause-settled : goal.returns-clause-settled
returns-clause-settled c = settled_stays

pub returns-clause-linked : goal.returns-clause-linked
returns-clause-linked c = λ limits w e s l order accepted left none is. untouched_stays limits w order e s l accepted left none is
