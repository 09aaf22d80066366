use Rattle.jl_farm.proofs.Queue.{merges}
use Rattle.jl_farm.proofs.job_queue.take_over.Goals as goal

pub absorb-requires-clause-rule : goal.absorb-requires-clause-rule
absorb-requires-clause-rule c = merges _ _ _ _
