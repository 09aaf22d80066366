use Rattle.std.specs.Prelude.{drop, Some, None}
use Rattle.std.proofs.Common.{subst}
use Rattle.std.proofs.lemmas.Result.{err_from_is_err_and}
use Rattle.jl_host.specs.Renewing.{Renewing, IsReady, IsUnready}
use Rattle.jl_host.proofs.RenewingLaws.{ready_from}
use Rattle.jl_host.proofs.begun.Begun.make.Goals as goal

pub returns-in_err-fresh-clause-unready : goal.returns-in_err-fresh-clause-unready
returns-in_err-fresh-clause-unready c =
    let r = c.in_err-fresh.field-0.0 in
    let p = err_from_is_err_and c.from_residual.result c.from_residual.ensures.1 in
    rw (p.1, p.2)
    (subst (λ (old : Renewing). IsUnready old r) c.self.view_is (c.in-Some.start, c.in-Some.is, c.in_err-fresh.ensures.refused))

pub returns-clause-ready : goal.returns-clause-ready
returns-clause-ready c =
    let inside = c.self.inside in
    let made = c.in_ok-fresh.fresh in
    let old : Renewing = record {
      start = inside.start;
      fresh = inside.fresh;
      limits = inside.limits;
      taken = inside.taken;
      waiting = drop inside.carried inside.waiting.items;
      defined = inside.defined;
    }
    in
    let new : Renewing = record old { start = None; fresh = Some made } in
    subst (λ (before : Renewing). IsReady before new) c.self.view_is
    (ready_from old c.in-Some.start made c.in-Some.is c.in_ok-fresh.ensures.made)
