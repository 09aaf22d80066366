use Rattle.jl_host.proofs.BitLaws.{of_calls}
use Rattle.jl_host.proofs.laws.seats_answer_what_calls_write.Goals as goal

pub returns : goal.returns
returns _ = of_calls
