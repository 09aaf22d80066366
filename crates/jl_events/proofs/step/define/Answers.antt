use Rattle.std.specs.Prelude.{Some}
use Rattle.std.proofs.Common.{ap, ◌∙◌}
use Rattle.jl_types.specs.declared.event.EventOf.TheVariants as event
use Rattle.jl_events.specs.Accepted.{event_of}
use Rattle.jl_events.proofs.AcceptedLaws.{defines}
use Rattle.jl_events.proofs.step.define.Goals as goal

pub returns : goal.returns
returns c = record {
  moved = c.in_ok-class.ensures.moved;
  tells =
      (λ i. event_of (c.in_ok-class.ensures.moved.step i).classes.rows (event.Define c.args.loader (c.in_ok-class.ensures.number i)))
      ∙ defines c.args.world.now.classes c.args.loader c.args.file;
  class_is = ap Some c.in_ok-class.ensures.number;
}
