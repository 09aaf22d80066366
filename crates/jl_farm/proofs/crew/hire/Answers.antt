use Rattle.std.proofs.Common.{◌∙◌, Contains, ap, refl, arith, length}
use Rattle.std.proofs.lemmas.List.Elements.{Contains-get_or}
use Rattle.crossbeam_queue.specs.Passes.{IsPassOf}
use Rattle.jl_farm.specs.declared.job_queue.PassView.{PassView}
use Rattle.jl_farm.specs.declared.worker.Worker.{Worker}
use Rattle.jl_farm.specs.ForProofs.Work.{IsHired}
use Rattle.jl_farm.proofs.Shifts.{all_popped, all_pushed}
use Rattle.jl_farm.proofs.crew.hire.Goals as goal

pub loop-caller-init : goal.loop-caller-init
loop-caller-init g c = record {
  pass = c.requires.pass;
  parts = omega (arith, c.in_ok-crew.ensures.len);
  put = refl;
  taken = refl;
  count = omega (arith, c.in_ok-crew.ensures.len);
  left = λ k d lt. Contains-get_or c.args.callers.items k d lt;
  hired = λ k d lt. absurd (omega (arith, ap length c.in_ok-crew.ensures.items, lt));
}

pub loop-caller-preserved : goal.loop-caller-preserved
loop-caller-preserved g c =
    let before = c.loop-caller.invariant in
    let left = c.one_more.ensures.left in
    let P : Worker g.row.K.Denot → Type 0 = λ worker. IsHired c.args.callers.items worker × IsPassOf c.args.queue.now worker.pass in
    let popped = all_popped (Contains c.args.callers.items) _ _ _ c.in-Some.ensures.items before.left in
    record {
      pass = c.one_more.ensures.turns.0;
      parts = omega (
        arith,
        ap (λ (v : PassView). v.parts) left,
        c.in_ok-push.ensures.len,
        c.in-Some.ensures.cases,
        before.parts,
        before.count,
        c.requires.parts,
      );
      put = ap (λ (v : PassView). v.put) left ∙ before.put;
      taken = ap (λ (v : PassView). v.taken) left ∙ before.taken;
      count = omega (arith, c.in_ok-push.ensures.len, c.in-Some.ensures.cases, before.count);
      left = popped.0;
      hired = all_pushed P c.loop-caller.crew.items c.push.new.self.items _ c.in_ok-push.ensures.items before.hired
          (record { own = popped.1; pass = c.one_more.ensures.new; none = c.new.ensures.items }, c.one_more.ensures.turns.1);
    }
