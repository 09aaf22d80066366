use Rattle.std.proofs.Common.{◌≡◌, ◌∙◌, List, All, ap, sym, subst, arith}
use Rattle.std.proofs.lemmas.List.Elements.{length_all_zip}
use Rattle.std.proofs.lemmas.List.Sorted.{All-permutation}
use Rattle.crossbeam_queue.specs.Passes.{IsPassOf}
use Rattle.jl_types.specs.Events.Entries.{Entry}
use Rattle.jl_farm.specs.declared.job_queue.PassView.{PassView}
use Rattle.jl_farm.specs.declared.worker.Worker.{Worker}
use Rattle.jl_farm.specs.Reports.{IsReport}
use Rattle.jl_farm.specs.ForProofs.Work.{IsHired, Works}
use Rattle.jl_farm.proofs.Installs.{history_in_order, installs_in_order, same_sites}
use Rattle.jl_farm.proofs.Shifts.{crew_reported, in_order}
use Rattle.jl_farm.proofs.farm.run_queued.Goals as goal

pub finish-requires-clause-crew : goal.finish-requires-clause-crew
finish-requires-clause-crew g c =
    let Pass : Worker g.row.K.Denot → Type 0 = λ worker. IsPassOf c.args.queue.now worker.pass in
    let callers : c.of-callers.result.value.items ≡ c.args.workers.items = ap (λ v. v.items) c.of-callers.ensures in
    let hired = subst (λ (cs : List (List Entry)). All (λ (worker : Worker g.row.K.Denot). IsHired cs worker × Pass worker) c.in_ok-crew.crew.items)
    (sym callers) c.in_ok-crew.ensures.crew in
    crew_reported g.K.Name.limits c.args.jobs.now c.of-callers.result.value.items Pass c.in_ok-crew.crew.items c.serve_all.new.crew.items hired
    c.serve_all.ensures

pub returns-clause-jobs : goal.returns-clause-jobs
returns-clause-jobs g c =
    in_order _ _ _ _ c.in_ok-reports.ensures.weighs
    (ap (λ (v : PassView). v.put) c.in_ok-crew.ensures.left ∙ ap (λ (v : PassView). v.put) c.requires.pass.1)
    c.in_order.ensures.all c.in_order.ensures.rising

pub returns-clause-shown : goal.returns-clause-shown
returns-clause-shown g c =
    let n = g.K.Name.limits in
    let callers : c.of-callers.result.value.items ≡ c.args.workers.items = ap (λ v. v.items) c.of-callers.ensures in
    let by_callers = subst (λ (cs : List (List Entry)). All (IsReport {K = g.row.K.Denot} n cs c.args.jobs.now) c.in_ok-reports.reports.items) callers
    c.in_ok-reports.ensures.shown in
    All-permutation (IsReport n c.args.workers.items c.args.jobs.now) c.in_ok-reports.reports.items c.in_order.result.items c.in_order.ensures.all by_callers

pub returns-clause-history : goal.returns-clause-history
returns-clause-history g c = history_in_order _ _ c.in_order.ensures.all c.in_ok-reports.ensures.history

pub returns-clause-sites : goal.returns-clause-sites
returns-clause-sites g c = same_sites g.K.Name.limits c.args.workers.items c.args.jobs.now _ (returns-clause-history g c) (returns-clause-shown g c)

pub returns-clause-installs : goal.returns-clause-installs
returns-clause-installs g c =
    let R : Worker g.row.K.Denot → Worker g.row.K.Denot → Type 0 = λ old new. IsPassOf c.args.queue.now new.pass
    × Works g.K.Name.limits c.args.jobs.now old new in
    let same = length_all_zip R c.in_ok-crew.crew.items c.serve_all.new.crew.items c.serve_all.ensures in
    λ serial.
    omega (
      arith,
      installs_in_order serial _ _ c.in_order.ensures.all,
      c.in_ok-reports.ensures.installs serial,
      c.in_ok-crew.ensures.count,
      same,
      c.in_ok-crew.crew.ok.0,
      c.serve_all.new.crew.ok.0,
    )
