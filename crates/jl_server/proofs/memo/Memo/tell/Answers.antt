use Rattle.std.specs.Prelude.{List}
use Rattle.std.proofs.Common.{ap, sym, subst, ◌∙◌}
use Rattle.jl_types.specs.Events.History.{world_after}
use Rattle.jl_types.specs.Events.Entries.{Entry, events_of}
use Rattle.jl_memo.specs.declared.set.Set.{Set}
use Rattle.jl_memo.specs.Answers.{AreRight, told}
use Rattle.jl_server.specs.Remembering.{Remembering}
use Rattle.jl_server.proofs.MemoLaws.{told_after}
use Rattle.jl_server.proofs.memo.Memo.tell.Goals as goal

pub invariant_of-self : goal.invariant_of-self
invariant_of-self g c =
    let old = c.args.self.now in
    let seen = c.args.seen.now in
    let right = subst (λ (r : Remembering). AreRight (world_after (events_of r.seen)) r.sets) c.self.view_is c.self.invariant in
    let next = told_after old.seen seen c.requires.later old.sets right c.args.call.now.0 c.args.link.now c.args.call.now.1 c.args.answer.now
    c.requires.order c.requires.link c.requires.answer in
    let sets = c.told.ensures ∙ ap (λ (r : Remembering). told r.sets c.args.link.now c.args.call.now.0 c.args.call.now.1 c.args.answer.now) c.self.view_is in
    subst (λ (zs : List Entry). AreRight (world_after (events_of zs)) c.told.new.memo) (sym c.again.ensures)
    (subst (λ (ss : List Set). AreRight (world_after (events_of seen)) ss) (sym sets) next)
