use Rattle.std.specs.Prelude.{◌≤◌}
use Rattle.std.proofs.Common.{ap, sym, subst, ◌∙◌, arith}
use Rattle.jl_types.specs.Events.Footprints.{bound}
use Rattle.jl_types.specs.Values.World.{World}
use Rattle.jl_relink.specs.Laws.{IsInOrder}
use Rattle.jl_cache.specs.Links.{link_at}
use Rattle.jl_events.specs.Judging.{most_to_judge}
use Rattle.jl_core.specs.State.{State, events, world_of, IsAccepted}
use Rattle.jl_core.proofs.HistoryLaws.{core_of, exact_inside, exact_links, kept_after, accepted_after, accepted_inside}
use Rattle.jl_core.proofs.WorkLaws.{are_bounded}
use Rattle.jl_core.proofs.instance.Instance.perform.Goals as goal

pub perform-requires-clause-accepted : goal.perform-requires-clause-accepted
perform-requires-clause-accepted c = record {
  limits = c.self.inside.limits;
  allowed = c.self.invariant.9;
  accepted = accepted_inside c.self.inside.limits c.self.inside.world.value c.self.inside.log c.args.self c.args.event c.self.invariant.0 c.self.view_is
      c.requires.accepted;
}

pub perform-requires-clause-sound : goal.perform-requires-clause-sound
perform-requires-clause-sound c = record {
  scratch = exact_links c.self.inside.limits c.self.inside.world.value c.self.inside.links c.self.inside.log
      (exact_inside _ _ _ _ _ c.self.invariant);
  indexed = c.self.invariant.6;
  rising = c.len-sites.ensures.rising;
  order = subst IsInOrder c.deref.ensures c.note_order.ensures;
}

pub invariant_of-next : goal.invariant_of-next
invariant_of-next c =
    let next = kept_after c.self.inside.limits c.self.inside.world.value c.perform.new.world.value
    c.self.inside.links c.perform.new.links c.self.inside.log c.perform.new.log c.args.event c.in_ok-reply.reply
    (exact_inside _ _ _ _ _ c.self.invariant)
    (accepted_inside c.self.inside.limits c.self.inside.world.value c.self.inside.log c.args.self c.args.event c.self.invariant.0 c.self.view_is
    c.requires.accepted) c.in_ok-reply.ensures.done c.note_file.ensures c.self.invariant.3 in (
      next.0.world,
      next.0.links,
      next.0.told,
      next.1,
      c.self.invariant.4,
      next.0.answered,
      c.in_ok-reply.ensures.indexed,
      next.0.told_then,
      next.0.files,
      c.self.invariant.9,
    )

pub returns-clause-accepted : goal.returns-clause-accepted
returns-clause-accepted c =
    subst (λ (core : State). IsAccepted core (core_of c.self.inside.limits c.perform.new.world.value c.perform.new.log) c.args.event
    c.in_ok-reply.reply) c.self.view_is
    (accepted_after c.self.inside.limits c.self.inside.world.value c.perform.new.world.value
    c.self.inside.links c.perform.new.links c.self.inside.log c.perform.new.log c.args.event c.in_ok-reply.reply
    (exact_inside _ _ _ _ _ c.self.invariant)
    (accepted_inside c.self.inside.limits c.self.inside.world.value c.self.inside.log c.args.self c.args.event c.self.invariant.0 c.self.view_is
    c.requires.accepted) c.in_ok-reply.ensures.done)

pub returns-clause-bounded : goal.returns-clause-bounded
returns-clause-bounded c =
    let core = core_of c.self.inside.limits c.self.inside.world.value c.self.inside.log in
    let judged : c.args.work.now ≤ most_to_judge c.self.inside.world.value c.args.event =
    subst (λ (w : World). c.args.work.now ≤ most_to_judge w c.args.event) (sym (c.self.invariant.0 ∙ ap world_of c.self.view_is)) c.requires.judged in
    let most = are_bounded (events core) c.self.inside.world.value (link_at c.self.inside.links) c.self.inside.index
    c.len-sites.ensures.rising c.self.invariant.0 c.self.invariant.1 c.self.invariant.6 c.args.event in
    let ticks = c.in_ok-reply.ensures.ticks in
    let le : c.perform.new.work ≤ bound (events core) c.args.event = omega arith in
    subst (λ (s : State). c.perform.new.work ≤ bound (events s) c.args.event) c.self.view_is le
