use Rattle.jl_farm.proofs.Queue.{takes, learns}
use Rattle.jl_farm.proofs.job_queue.next_job.Goals as goal

pub pop_as-requires-clause-rule : goal.pop_as-requires-clause-rule
pop_as-requires-clause-rule g c = (takes _ _ c.requires.part, learns _ _)
