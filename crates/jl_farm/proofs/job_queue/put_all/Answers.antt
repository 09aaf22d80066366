use Rattle.std.proofs.Common.{ℕ, ◌<◌, [], ◌∷◌, ◌++◌, ap, ◌∙◌, subst, sym, arith}
use Rattle.std.specs.List.{range_with_len}
use Rattle.std.proofs.lemmas.List.FromFn.{length-range_with_len}
use Rattle.crossbeam_queue.specs.Passes.{view}
use Rattle.jl_farm.specs.declared.job_queue.PassView.{PassView}
use Rattle.jl_farm.specs.ForProofs.Queued.{pass_view}
use Rattle.jl_types.proofs.Lists.{range_end}
use Rattle.jl_farm.proofs.Queue.{puts, learns, waiting}
use Rattle.jl_farm.proofs.job_queue.put_all.Goals as goal

pub push_as-requires-clause-rule : goal.push_as-requires-clause-rule
push_as-requires-clause-rule g c =
    let parts : 0 < (view c.loop-job.pass).parts = subst (λ (v : PassView). 0 < v.parts) (sym c.loop-job.invariant.1) (omega arith) in
    (puts _ _ _ _ parts, learns _ _)

-- a full queue would hold more jobs than were put
pub unreachable-requires : goal.unreachable-requires
unreachable-requires g c =
    let held = c.in-Err.ensures.rule.2 in
    omega (arith, waiting _ _ held.0 c.loop-job.invariant.1 held.2, held.1, length-range_with_len 0 c.loop-job.job)

pub loop-job-preserved : goal.loop-job-preserved
loop-job-preserved g c =
    let same = c.in-Ok.ensures.queue in (
      (same.0 ∙ c.loop-job.invariant.0.0, same.2 ∙ c.loop-job.invariant.0.1),
      c.in-Ok.ensures.rule
          ∙ ap (λ (v : PassView). pass_view v.parts (v.put ++ c.loop-job.job ∷ []) v.taken) c.loop-job.invariant.1
          ∙ ap (λ xs. pass_view 1024 xs []) (sym (range_end 0 c.loop-job.job ∙ ap (λ (k : ℕ). range_with_len 0 c.loop-job.job ++ k ∷ []) (omega arith))),
    )
