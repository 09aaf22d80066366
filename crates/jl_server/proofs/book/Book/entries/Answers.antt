use Rattle.std.specs.Prelude.{ℕ, ◌≤◌, ◌+◌}
use Rattle.std.proofs.Common.{◌∙◌, ap, sym, subst}
use Rattle.std.proofs.lemmas.Result.{err_from_is_err_and}
use Rattle.std.specs.List.{list_all}
use Rattle.jl_types.specs.Events.Entries.{events_of}
use Rattle.jl_relink.specs.Laws.{has_read_file}
use Rattle.jl_core.specs.State.{State, events, AreAnswered}
use Rattle.jl_server.specs.History.{core_of}
use Rattle.jl_server.proofs.Logs.{events_logged}
use Rattle.jl_server.proofs.PastLaws.{told_behind, shown_behind, as_long}
use Rattle.jl_server.proofs.book.Book.entries.Goals as goal

pub returns-clause-told : goal.returns-clause-told
returns-clause-told g c =
    let n = g.K.Name.limits in
    told_behind n c.args.self.now c.self.inside.core (c.self.invariant.0 ∙ ap (core_of n) c.self.view_is) c.in_ok-world.world.world
    (ap (λ s. s.world) c.in_ok-world.ensures.world) c.log-log.result.now c.in_ok-entries.entries.items c.args.from c.in_ok-entries.ensures.copy
    c.log-log.ensures.told

pub returns-clause-entries : goal.returns-clause-entries
returns-clause-entries g c =
    let n = g.K.Name.limits in
    shown_behind n c.args.self.now c.self.inside.core (c.self.invariant.0 ∙ ap (core_of n) c.self.view_is) c.in_ok-world.world.world
    (ap (λ s. s.world) c.in_ok-world.ensures.world) c.log-log.result.now c.in_ok-entries.entries.items c.args.from c.in_ok-entries.ensures.copy
    c.log-log.ensures.told c.log-log.ensures.events

pub returns-clause-answered : goal.returns-clause-answered
returns-clause-answered g c =
    let n = g.K.Name.limits in
    subst (λ (s : State). AreAnswered s) (c.self.invariant.0 ∙ ap (core_of n) (c.self.view_is ∙ sym c.in_ok-world.ensures.seen))
    c.log-log.ensures.answered

pub returns-clause-files : goal.returns-clause-files
returns-clause-files g c =
    let n = g.K.Name.limits in
    let list = c.self.view_is ∙ sym c.in_ok-world.ensures.seen in
    ap (λ entries. list_all has_read_file (events_of entries)) (sym list)
    ∙ (ap (list_all has_read_file) (sym (events_logged n c.self.inside.list))
    ∙ (ap (λ (s : State). list_all has_read_file (events s)) (sym c.self.invariant.0)
    ∙ c.log-log.ensures.files))

pub returns-in_err-entries-clause-last : goal.returns-in_err-entries-clause-last
returns-in_err-entries-clause-last g c = λ few.
    let n = g.K.Name.limits in
    let same =
    as_long n c.args.self.now c.self.inside.core (c.self.invariant.0 ∙ ap (core_of n) c.self.view_is) c.log-log.result.now c.log-log.ensures.told
    c.log-log.ensures.events
    in
    let p = err_from_is_err_and c.from_residual.result c.from_residual.ensures.1 in
    rw (p.1, p.2) (c.in_err-entries.ensures.last (subst (λ (k : ℕ). k ≤ c.args.from + 1) (sym same) few))
