use Rattle.jl_host.proofs.SelectionLaws.{call_stays}
use Rattle.jl_host.proofs.laws.selections_stay.Goals as goal

pub returns : goal.returns
returns c = call_stays
