use Rattle.jl_renewal.proofs.ComeOver.{links_are_these}
use Rattle.jl_renewal.proofs.laws.links_come_over.Goals as goal

pub returns : goal.returns
returns c old fresh released limits numbers accepted is k l = links_are_these old released accepted fresh limits numbers is k l
