use Rattle.std.proofs.Common.{◌≡◌, []}
use Rattle.std.specs.List.{range_with_len}
use Rattle.crossbeam_queue.specs.Passes.{view, IsPassOf}
use Rattle.jl_farm.specs.ForProofs.Queued.{pass_view}
use Rattle.jl_farm.proofs.job_queue.put_all.Given as goal

-- the jobs so far were put
abbrev pub invariant-loop-job : goal.invariant-loop-job
invariant-loop-job g l = IsPassOf l.queue l.pass × (view l.pass ≡ pass_view 1024 (range_with_len 0 l.job) [])
