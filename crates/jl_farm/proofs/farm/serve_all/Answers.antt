use Rattle.std.proofs.Common.{◌<◌, length, get_or, ap, sym, subst, List, ◌∙◌}
use mir.Syntax.{named}
use denote.Param.{param}
use Rattle.crossbeam_queue.specs.Passes.{IsPassOf}
use Rattle.jl_farm.specs.declared.worker.Worker.{Worker}
use Rattle.jl_farm.specs.ForProofs.Work.{Works}
use Rattle.jl_farm.proofs.Crossing.{floor_sync}
use Rattle.jl_farm.proofs.Shifts.{zip_served}
use Rattle.jl_farm.proofs.farm.serve_all.Goals as goal

pub at_once-requires-sync-T : goal.at_once-requires-sync-T
at_once-requires-sync-T g c κs = λ _. record {
  shared = (floor_sync (record { mir = named 3; lft = _ }) (param 0 g.row.K) (param 1 g.row.G) (param 2 g.row.R)
      (param 3 g.row.S) g.K.Name c.type_bounds.sync-G c.type_bounds.sync-R c.type_bounds.send-S).shared;
}

pub returns : goal.returns
returns g c =
    let R : Worker g.row.K.Denot → Worker g.row.K.Denot → Type 0 = λ old new. IsPassOf c.args.floor.now.queue.now new.pass
    × Works g.K.Name.limits c.args.floor.now.jobs.now old new in
    let items = c.as_mut_slice.ensures.value in
    zip_served R c.args.crew.now.items c.at_once.new.workers c.args.crew.now.len (ap length (sym items) ∙ c.as_mut_slice.ensures.len) (c.at_once.auto.workers
    ∙ ap length items)
    (λ k d lt. subst (λ (xs : List (Worker g.row.K.Denot)). R (get_or xs k d) (get_or c.at_once.new.workers k d)) items
    (c.at_once.ensures k d (subst (λ (xs : List (Worker g.row.K.Denot)). k < length xs) (sym items) lt)))
