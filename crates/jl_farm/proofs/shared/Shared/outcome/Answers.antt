use Rattle.std.proofs.Common.{ℕ, List, subst}
use Rattle.jl_farm.specs.Reports.{IsShown}
use Rattle.jl_farm.proofs.Outcomes.{unprepared, unprepared_seen, shown_before}
use Rattle.jl_farm.proofs.shared.Shared.outcome.Goals as goal

pub returns-in-Ok-prepare-clause-shown : goal.returns-in-Ok-prepare-clause-shown
returns-in-Ok-prepare-clause-shown g c =
    subst (λ (sites : List ℕ). IsShown g.K.Name.limits c.args.caller.now sites c.install.result) c.sites_at-sites.ensures
    (shown_before _ _ _ _ _ c.in-Ok.ensures.own c.install.ensures.shown)

pub returns-clause-shown : goal.returns-clause-shown
returns-clause-shown g c =
    subst (λ (sites : List ℕ). IsShown g.K.Name.limits c.args.caller.now sites c.unprepared.result) c.sites_at-sites.ensures
    (unprepared _ _ _ _ _ _ _ _ c.unprepared.ensures c.in-Ok.ensures.own c.in-Ok.ensures.legal c.in-Ok.ensures.seen c.in-Ok.ensures.world
    c.in-Err.ensures)

pub returns-clause-seen : goal.returns-clause-seen
returns-clause-seen g c = unprepared_seen _ _ _ _ c.unprepared.ensures c.in-Ok.ensures.seen
