use Rattle.std.proofs.Common.{◌≡◌, ◌+◌, ℕ, All, vec_len}
use Rattle.crossbeam_queue.specs.Passes.{view, IsPassOf}
use Rattle.jl_farm.specs.ForProofs.Work.{HasReported, HasOne, HasTaken}
use Rattle.jl_farm.proofs.crew.gather.Given as goal

-- the workers so far were taken in
abbrev pub invariant-loop-other : goal.invariant-loop-other
invariant-loop-other g l = record {
  pass : IsPassOf l.queue l.lead.pass;
  lead : HasReported g.K.Name.limits l.callers.value.items l.jobs l.lead;
  crew : All (λ worker. IsPassOf l.queue worker.pass × HasOne worker × HasReported g.K.Name.limits l.callers.value.items l.jobs worker) l.crew.items;
  put : (view l.lead.pass).put ≡ (view l.fn.lead.pass).put;
  parts : (view l.lead.pass).parts + vec_len l.crew ≡ (view l.fn.lead.pass).parts + vec_len l.fn.crew;
  taken : (others : ℕ) × (others + vec_len l.crew ≡ vec_len l.fn.crew) × HasTaken others l.fn.lead l.lead;
}

abbrev pub decreases-loop-other : goal.decreases-loop-other
decreases-loop-other g l = vec_len l.crew
