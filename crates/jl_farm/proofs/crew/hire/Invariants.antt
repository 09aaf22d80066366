use Rattle.std.proofs.Common.{◌≡◌, ◌+◌, All, Contains, vec_len}
use Rattle.crossbeam_queue.specs.Passes.{view, IsPassOf}
use Rattle.jl_farm.specs.ForProofs.Work.{IsHired}
use Rattle.jl_farm.proofs.crew.hire.Given as goal

-- each worker so far has one of the callers, and a part of the turn
abbrev pub invariant-loop-caller : goal.invariant-loop-caller
invariant-loop-caller g l = record {
  pass : IsPassOf l.queue l.pass;
  parts : (view l.pass).parts + vec_len l.crew ≡ (view l.fn.pass).parts;
  put : (view l.pass).put ≡ (view l.fn.pass).put;
  taken : (view l.pass).taken ≡ (view l.fn.pass).taken;
  count : vec_len l.crew + vec_len l.callers ≡ vec_len l.fn.callers;
  left : All (Contains l.fn.callers.items) l.callers.items;
  hired : All (λ worker. IsHired l.fn.callers.items worker × IsPassOf l.queue worker.pass) l.crew.items;
}

abbrev pub decreases-loop-caller : goal.decreases-loop-caller
decreases-loop-caller g l = vec_len l.callers
