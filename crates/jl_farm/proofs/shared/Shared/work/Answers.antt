use Rattle.std.proofs.Common.{ap, refl, arith}
use Rattle.jl_farm.specs.declared.job_queue.PassView.{PassView}
use Rattle.jl_farm.proofs.Shifts.{works_none, works_more}
use Rattle.jl_farm.proofs.shared.Shared.work.Goals as goal

pub loop-init : goal.loop-init
loop-init g c = record {
  pass = c.requires.pass;
  part = c.requires.part;
  works = works_none _ _ _ _ refl refl refl;
}

pub returns-in_err-one-clause-works : goal.returns-in_err-one-clause-works
returns-in_err-one-clause-works g c = works_more _ _ _ _ _ c.loop.invariant.works c.one.ensures.works

pub returns-then-not-branch-clause-works : goal.returns-then-not-branch-clause-works
returns-then-not-branch-clause-works g c = works_more _ _ _ _ _ c.loop.invariant.works c.one.ensures.works

pub loop-preserved : goal.loop-preserved
loop-preserved g c = record {
  pass = c.one.ensures.pass;
  part = omega (arith, ap (λ (v : PassView). v.parts) c.one.ensures.works.pass, c.loop.invariant.part);
  works = works_more _ _ _ _ _ c.loop.invariant.works c.one.ensures.works;
}
