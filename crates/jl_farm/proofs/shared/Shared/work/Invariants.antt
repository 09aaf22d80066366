use Rattle.std.proofs.Common.{◌<◌}
use Rattle.crossbeam_queue.specs.Passes.{view, IsPassOf}
use Rattle.jl_farm.specs.ForProofs.Work.{Works}
use Rattle.jl_farm.proofs.shared.Shared.work.Given as goal

-- the jobs so far were reported
abbrev pub invariant-loop : goal.invariant-loop
invariant-loop g l = record {
  pass : IsPassOf l.self.queue.now l.worker.pass;
  part : 0 < (view l.worker.pass).parts;
  works : Works g.K.Name.limits l.self.jobs.now l.fn.worker l.worker;
}
