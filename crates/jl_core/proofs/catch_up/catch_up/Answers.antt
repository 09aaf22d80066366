use Rattle.std.proofs.Common.{sym, subst, ◌∙◌}
use Rattle.jl_types.specs.Values.World.{World}
use Rattle.jl_events.specs.Accepted.{Accepted}
use Rattle.jl_events.specs.Changes.{IsNext}
use Rattle.jl_core.specs.ForProofs.Replays.{IsFurther}
use Rattle.jl_core.proofs.catch_up.catch_up.Goals as goal

pub catch_up_links-requires-clause-further : goal.catch_up_links-requires-clause-further
catch_up_links-requires-clause-further c =
    subst (λ (w : World). IsFurther w c.deref-2.result.now c.args.entry.now.event
    c.args.links.now c.args.links_ahead.now c.args.index.now c.args.index_ahead.now) (sym c.deref.ensures)
    (subst (λ (w : World). IsFurther c.args.world.now.value w c.args.entry.now.event
    c.args.links.now c.args.links_ahead.now c.args.index.now c.args.index_ahead.now) (sym c.deref-2.ensures) c.requires.further)

pub catch_up_world-requires-clause-next : goal.catch_up_world-requires-clause-next
catch_up_world-requires-clause-next c =
    subst (λ (told : Accepted). IsNext c.args.world.now.value c.args.world_ahead.now.value told) (sym (c.get.ensures ∙ c.event-event.ensures))
    c.requires.further.next
