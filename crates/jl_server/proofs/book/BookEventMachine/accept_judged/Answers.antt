use Rattle.std.specs.Prelude.{IsOk}
use Rattle.std.proofs.Common.{List, sym, subst, ◌∙◌}
use Rattle.jl_types.specs.Events.Event.{Event}
use Rattle.jl_types.specs.Events.Entries.{Entry, events_of}
use Rattle.jl_types.specs.Events.Verdict.{verdict}
use Rattle.jl_types.specs.Events.History.{world_after}
use Rattle.jl_server.proofs.Logs.{events_logged}
use Rattle.jl_server.proofs.book.BookEventMachine.accept_judged.Goals as goal

pub step_on-stepped-requires-clause-judged : goal.step_on-stepped-requires-clause-judged
step_on-stepped-requires-clause-judged g c =
    let n = g.K.Name.limits in
    subst (λ (xs : List Entry). IsOk (verdict n (world_after (events_of xs)) c.args.event)) (sym (c.again-judged.ensures ∙ c.self.view_is))
    (subst (λ (h : List Event). IsOk (verdict n (world_after h) c.args.event)) (events_logged n c.args.self.now) c.requires)
