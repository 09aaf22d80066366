use Rattle.std.proofs.Common.{◌≡◌, ◌∙◌, ◌++◌, ap, refl, subst, arith}
use Rattle.std.proofs.lemmas.List.{append-nil}
use Rattle.crossbeam_queue.specs.Passes.{view, IsPassOf}
use Rattle.jl_farm.specs.declared.job_queue.PassView.{PassView}
use Rattle.jl_farm.specs.Reports.{AreOfOneHistory}
use Rattle.jl_server.proofs.Beginnings.{prefix_length}
use Rattle.jl_farm.proofs.Installs.{installs_at_most}
use Rattle.jl_farm.proofs.Shifts.{crew_popped, reported_turn, reported_more, all_taken}
use Rattle.jl_farm.proofs.farm.finish.Goals as goal

pub gather-requires-clause-lead : goal.gather-requires-clause-lead
gather-requires-clause-lead g c =
    let popped = crew_popped _ _ _ (λ worker. IsPassOf c.args.floor.now.queue.now worker.pass) _ _ _ c.in-Some.ensures.items c.requires.crew in
    let mine = (view c.in-Some.lead.pass).taken in
    reported_turn _ _ _ _ _ popped.1.2 refl (ap (λ (v : PassView). v.taken) c.take_over.ensures.both ∙ ap (λ js. mine ++ js) c.requires.pass.1
    ∙ append-nil mine) refl

pub gather-requires-clause-crew : goal.gather-requires-clause-crew
gather-requires-clause-crew g c =
    (crew_popped _ _ _ (λ worker. IsPassOf c.args.floor.now.queue.now worker.pass) _ _ _ c.in-Some.ensures.items c.requires.crew).0

pub returns-clause-weighs : goal.returns-clause-weighs
returns-clause-weighs g c =
    let one = (crew_popped _ _ _ (λ worker. IsPassOf c.args.floor.now.queue.now worker.pass) _ _ _ c.in-Some.ensures.items c.requires.crew).1.1 in
    let works = c.work.ensures.works in
    let parts : (view c.work.new.worker.pass).parts ≡ 1024 =
    omega (
      arith,
      ap (λ (v : PassView). v.parts) works.pass,
      c.in_ok-gather.ensures.parts,
      ap (λ (v : PassView). v.parts) c.take_over.ensures.both,
      one.0,
      c.requires.parts.0,
      c.in-Some.ensures.cases,
    ) in
    let put = ap (λ (v : PassView). v.put) works.pass ∙ c.in_ok-gather.ensures.put ∙ ap (λ (v : PassView). v.put) c.take_over.ensures.both
    ∙ ap (λ js. js ++ (view c.args.pass).put) one.1 in
    λ weight. all_taken (view c.work.new.worker.pass) _ _ weight c.in_ok-work.ensures.done parts put
    (reported_more _ _ _ _ _ c.in_ok-gather.ensures.lead works).taken

pub returns-clause-shown : goal.returns-clause-shown
returns-clause-shown g c = (reported_more _ _ _ _ _ c.in_ok-gather.ensures.lead c.work.ensures.works).shown

pub returns-clause-history : goal.returns-clause-history
returns-clause-history g c = subst (AreOfOneHistory {K = g.row.K.Denot}) c.as_slice.ensures.value c.learn_all.ensures

pub returns-clause-installs : goal.returns-clause-installs
returns-clause-installs g c =
    let one = (crew_popped _ _ _ (λ worker. IsPassOf c.args.floor.now.queue.now worker.pass) _ _ _ c.in-Some.ensures.items c.requires.crew).1.1 in
    let works = c.work.ensures.works in
    λ serial. omega (
      arith,
      c.in-Some.ensures.cases,
      installs_at_most _ _ _ _ _ _ serial (one.2 serial) c.in_ok-gather.ensures.taken works
          (prefix_length _ _ works.own),
    )
