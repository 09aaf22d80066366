use Rattle.std.specs.Prelude.{◌≡◌, ℕ, ◌+◌, ◌≤◌}
use Rattle.std.proofs.Common.{rules, ap, sym, subst, ◌∙◌}
use Rattle.jl_types.specs.declared.event.Made.{Made}
use Rattle.jl_types.specs.Values.World.{World}
use Rattle.jl_types.specs.Linkage.Links.{scratch}
use Rattle.jl_types.specs.Events.History.{kept}
use Rattle.jl_types.specs.Events.Footprints.{keys}
use Rattle.jl_cache.specs.Links.{link_at}
use Rattle.jl_deps.specs.Indexes.{IsIndex}
use Rattle.jl_events.specs.Changes.{IsMoved}
use Rattle.jl_core.specs.ForProofs.Steps.{AreGone, AreRetired, most_told}
use Rattle.jl_core.proofs.StepLaws.{lost_are, most_by_told}
use Rattle.jl_core.proofs.RetireSteps.{are_gone}
use Rattle.jl_core.proofs.ToldLaws.{installs_so}
use Rattle.jl_core.proofs.perform.perform.Goals as goal

pub relink-requires-clause-gone : goal.relink-requires-clause-gone
relink-requires-clause-gone c =
    subst (λ (w : World). AreGone w c.in_ok-event.event c.args.links.now c.as_slice-2.result.now) (sym c.deref-3.ensures)
    (subst (AreGone c.step_world.new.world.value c.in_ok-event.event c.args.links.now) (sym c.as_slice-2.ensures.value)
    (are_gone c.args.world.now.value c.step_world.new.world.value c.args.event c.in_ok-event.event c.args.links.now c.in_ok-retired.retired.items
    c.in_ok-event.ensures.moved.step c.in_ok-event.ensures.tells c.requires.sound.scratch
    (subst (λ (w : World). AreRetired w c.args.event c.in_ok-retired.retired.items) c.deref-2.ensures c.in_ok-retired.ensures)))

pub returns : goal.returns
returns c =
    let same : c.as_slice.result.now ≡ keys c.args.world.now.value c.args.event = search rules in
    record {
      done = record {
        moved = subst (λ (made : Made). IsMoved c.args.world.now.value c.step_world.new.world.value c.args.event made) (sym c.in_ok-reply.ensures.made)
            c.in_ok-event.ensures.moved;
        dropped = lost_are c.args.world.now.value c.args.links.now c.args.index.now c.requires.sound c.relink.new.links c.in_ok-lost.lost.items
            c.in_ok-reply.reply.dropped c.in_ok-lost.ensures.up_to_date.lost c.in_ok-reply.ensures.dropped;
        links = λ s.
            c.in_ok-lost.ensures.up_to_date.links s
            ∙ (λ i. kept (sym (installs_so c.step_world.new.world.value.classes.rows c.args.event s c.in_ok-event.event c.in_ok-event.ensures.tells) i)
            (link_at c.args.links.now s) (scratch (c.deref-3.ensures i) s));
        logged = record { accepted = c.in_ok-event.event; is = c.in_ok-event.ensures.tells; last = c.in_ok-reply.ensures.last };
      };
      indexed = subst (λ (w : World). IsIndex w (link_at c.relink.new.links) c.relink.new.index) c.deref-3.ensures c.in_ok-lost.ensures.up_to_date.index;
      ticks = subst (λ (n : ℕ). c.relink.new.work ≤ c.args.work.now + n)
          (ap (λ (w : World). most_told w c.in_ok-event.event c.args.index.now c.as_slice.result.now) c.deref-3.ensures
          ∙ most_by_told c.args.world.now.value c.step_world.new.world.value c.args.index.now c.args.event c.as_slice.result.now
          c.in_ok-event.ensures.moved.step same c.in_ok-event.event c.in_ok-event.ensures.tells)
          c.in_ok-lost.ensures.ticks;
    }
