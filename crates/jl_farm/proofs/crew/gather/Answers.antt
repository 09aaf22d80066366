use Rattle.std.proofs.Common.{◌∙◌, ◌+◌, refl, arith, vec_len}
use Rattle.crossbeam_queue.specs.Passes.{IsPassOf}
use Rattle.jl_farm.proofs.Installs.{taken_none, taken_more, taken_most}
use Rattle.jl_farm.proofs.Shifts.{crew_popped}
use Rattle.jl_farm.proofs.crew.gather.Goals as goal

pub take_in-requires-clause-turns : goal.take_in-requires-clause-turns
take_in-requires-clause-turns g c = (
  c.loop-other.invariant.pass,
  (crew_popped _ _ _ (λ worker. IsPassOf c.args.queue.now worker.pass) _ _ _ c.in-Some.ensures.items c.loop-other.invariant.crew).1.0,
)

pub take_in-requires-clause-one : goal.take_in-requires-clause-one
take_in-requires-clause-one g c =
    (crew_popped _ _ _ (λ worker. IsPassOf c.args.queue.now worker.pass) _ _ _ c.in-Some.ensures.items c.loop-other.invariant.crew).1.1

pub take_in-requires-clause-other : goal.take_in-requires-clause-other
take_in-requires-clause-other g c =
    (crew_popped _ _ _ (λ worker. IsPassOf c.args.queue.now worker.pass) _ _ _ c.in-Some.ensures.items c.loop-other.invariant.crew).1.2

pub loop-other-init : goal.loop-other-init
loop-other-init g c = record {
  pass = c.requires.pass;
  lead = c.requires.lead;
  crew = c.requires.crew;
  put = refl;
  parts = refl;
  taken = (0, omega (arith), taken_none c.args.lead.now);
}

pub loop-other-preserved : goal.loop-other-preserved
loop-other-preserved g c =
    record {
      pass = c.in_ok-take_in.ensures.pass;
      lead = c.in_ok-take_in.ensures.lead;
      crew = (crew_popped _ _ _ (λ worker. IsPassOf c.args.queue.now worker.pass) _ _ _ c.in-Some.ensures.items c.loop-other.invariant.crew).0;
      put = c.in_ok-take_in.ensures.put ∙ c.loop-other.invariant.put;
      parts = omega (arith, c.in_ok-take_in.ensures.parts, c.in-Some.ensures.cases, c.loop-other.invariant.parts);
      taken = (
        c.loop-other.invariant.taken.0 + 1,
        omega (arith, c.in-Some.ensures.cases, c.loop-other.invariant.taken.1),
        taken_more _ _ _ _ c.loop-other.invariant.taken.2 c.in_ok-take_in.ensures.taken,
      );
    }

pub returns-clause-taken : goal.returns-clause-taken
returns-clause-taken g c =
    let taken = c.loop-other.invariant.taken in
    taken_most taken.0 (vec_len c.args.crew) _ _ (omega (arith, taken.1)) taken.2
