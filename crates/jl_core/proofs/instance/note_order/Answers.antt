use Rattle.std.proofs.Common.{ap, sym, subst, ◌∙◌}
use Rattle.jl_types.specs.Values.World.{World}
use Rattle.jl_hierarchy.specs.Constancy.{AreInOrder}
use Rattle.jl_callsites.specs.Known.{are_known}
use Rattle.jl_core.proofs.instance.note_order.Goals as goal

pub returns : goal.returns
returns c = record {
  classes = subst (λ (w : World). AreInOrder w.classes) c.world.view_is c.count_in_order-classes.ensures.order;
  points = ap (λ (w : World). are_known w.sites) (sym c.world.view_is) ∙ c.known_switches-switches.ensures.known;
}
