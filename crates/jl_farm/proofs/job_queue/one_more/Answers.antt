use Rattle.jl_farm.proofs.Queue.{forks}
use Rattle.jl_farm.proofs.job_queue.one_more.Goals as goal

pub another-requires-clause-rule : goal.another-requires-clause-rule
another-requires-clause-rule c = forks _ _ c.requires.parts
