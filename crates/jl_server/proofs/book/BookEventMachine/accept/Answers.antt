use Rattle.std.specs.Prelude.{IfErr}
use Rattle.std.proofs.Common.{List, sym, subst}
use Rattle.jl_types.specs.Events.Event.{Event}
use Rattle.jl_types.specs.Events.Entries.{Entry, events_of}
use Rattle.jl_types.specs.Events.Verdict.{verdict}
use Rattle.jl_types.specs.Events.History.{world_after}
use Rattle.jl_core.specs.State.{IsRefused}
use Rattle.jl_server.proofs.Logs.{events_logged}
use Rattle.jl_server.proofs.book.BookEventMachine.accept.Goals as goal

pub returns-clause-refused : goal.returns-clause-refused
returns-clause-refused g c =
    let n = g.K.Name.limits in
    subst (λ (h : List Event). IfErr c.step_on.result (IsRefused (verdict n (world_after h) c.args.event))) (sym (events_logged n c.args.self.now))
    (subst (λ (xs : List Entry). IfErr c.step_on.result (IsRefused (verdict n (world_after (events_of xs)) c.args.event))) c.self.view_is
    c.step_on.ensures.refused)
