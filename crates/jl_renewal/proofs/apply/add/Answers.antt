use Rattle.jl_renewal.proofs.StopLaws.{stopped_one}
use Rattle.jl_renewal.proofs.apply.add.Goals as goal

pub returns-clause-stops : goal.returns-clause-stops
returns-clause-stops g c = stopped_one c.args.event _ _ c.in-Err.refusal c.in-Err.ensures.unchanged c.in-Err.ensures.refused
