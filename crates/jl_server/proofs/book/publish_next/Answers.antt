use Rattle.std.proofs.Common.{List, [], ◌∷◌, ◌++◌, ap, subst, sym, ◌∙◌}
use Rattle.jl_types.specs.Events.Entries.{Entry, IsLegal}
use Rattle.jl_server.specs.History.{core_of, planned_entry}
use Rattle.jl_server.specs.ForProofs.Shown.{content}
use Rattle.jl_server.proofs.Logs.{core_next, classes_logged}
use Rattle.jl_server.proofs.Alone.{alone_next}
use Rattle.jl_server.proofs.Next.{shown_next}
use Rattle.jl_server.proofs.book.publish_next.Goals as goal

pub commit_shown-requires-clause-shown : goal.commit_shown-requires-clause-shown
commit_shown-requires-clause-shown g c =
    let n = g.K.Name.limits in
    let xs : List Entry = c.args.list.now in
    let e : Entry = planned_entry c.args.planned in
    let p = c.requires.planned in
    let change = c.requires.change in
    shown_next n (content c.args.writer.now.desk.shown.value) c.args.next.change xs e
    c.requires.shown.2 c.requires.shown.0 (change.log ∙ c.requires.list) change.slots
    (change.classes ∙ classes_logged n (xs ++ e ∷ []) c.args.planned.after (core_next n xs p.0 c.args.planned p.1))
    (subst (λ (l : List Entry). IsLegal n l) c.requires.list c.requires.legal)

pub returns-in-Some-clause-so_far : goal.returns-in-Some-clause-so_far
returns-in-Some-clause-so_far g c =
    let n = g.K.Name.limits in
    let p = c.requires.planned in (
      c.in-Some.ensures.core.0 ∙ (core_next n c.args.list.now p.0 c.args.planned p.1 ∙ ap (core_of n) (sym c.requires.list)),
      alone_next c.args.next.installs c.args.since.now c.since_after.result c.args.list.now c.args.next.list
          (planned_entry c.args.planned) c.requires.list c.requires.installs c.since_after.ensures c.requires.so_far.1,
    )

pub returns-in-Some-clause-shown : goal.returns-in-Some-clause-shown
returns-in-Some-clause-shown g c =
    let change = c.requires.change in
    let shown = c.in-Some.ensures.shown in (
      ap (λ t. t.list.reached.log) shown ∙ change.log,
      ap (λ t. t.list.reached.book) shown ∙ change.book,
      ap (λ t. t.limits) shown ∙ c.requires.shown.2,
    )
