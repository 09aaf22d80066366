use Rattle.std.proofs.Common.{◌∙◌, ap, sym, subst}
use Rattle.std.specs.List.{list_all}
use Rattle.jl_types.specs.Events.Entries.{events_of}
use Rattle.jl_relink.specs.Laws.{has_read_file}
use Rattle.jl_core.specs.State.{State, events, AreAnswered}
use Rattle.jl_server.specs.History.{core_of}
use Rattle.jl_server.proofs.Logs.{events_logged}
use Rattle.jl_server.proofs.PastLaws.{told_behind, shown_behind}
use Rattle.jl_server.proofs.book.Book.past.Goals as goal

pub returns-clause-told : goal.returns-clause-told
returns-clause-told g c =
    let n = g.K.Name.limits in
    told_behind n c.args.self.now c.self.inside.core (c.self.invariant.0 ∙ ap (core_of n) c.self.view_is) c.in_ok-world.world.world
    (ap (λ s. s.world) c.in_ok-world.ensures.world) c.log-whole.result.now c.in_ok-log.log 0 c.in_ok-log.ensures
    c.log-whole.ensures.told

pub returns-clause-entries : goal.returns-clause-entries
returns-clause-entries g c =
    let n = g.K.Name.limits in
    shown_behind n c.args.self.now c.self.inside.core (c.self.invariant.0 ∙ ap (core_of n) c.self.view_is) c.in_ok-world.world.world
    (ap (λ s. s.world) c.in_ok-world.ensures.world) c.log-whole.result.now c.in_ok-log.log 0 c.in_ok-log.ensures
    c.log-whole.ensures.told c.log-whole.ensures.events

pub returns-clause-answered : goal.returns-clause-answered
returns-clause-answered g c =
    let n = g.K.Name.limits in
    subst (λ (s : State). AreAnswered s) (c.self.invariant.0 ∙ ap (core_of n) (c.self.view_is ∙ sym c.in_ok-world.ensures.seen))
    c.log-whole.ensures.answered

pub returns-clause-files : goal.returns-clause-files
returns-clause-files g c =
    let n = g.K.Name.limits in
    let list = c.self.view_is ∙ sym c.in_ok-world.ensures.seen in
    ap (λ entries. list_all has_read_file (events_of entries)) (sym list)
    ∙ (ap (list_all has_read_file) (sym (events_logged n c.self.inside.list))
    ∙ (ap (λ (s : State). list_all has_read_file (events s)) (sym c.self.invariant.0)
    ∙ c.log-whole.ensures.files))
