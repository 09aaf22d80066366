use Rattle.jl_farm.proofs.Queue.{begins}
use Rattle.jl_farm.proofs.job_queue.queue_of.Goals as goal

pub ruled-requires-clause-rule : goal.ruled-requires-clause-rule
ruled-requires-clause-rule g c = begins
