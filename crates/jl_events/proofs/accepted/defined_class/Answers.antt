use Rattle.std.proofs.Common.{sym}
use Rattle.jl_events.proofs.AcceptedLaws.{no_class}
use Rattle.jl_events.proofs.accepted.defined_class.Goals as goal

pub returns-in_default : goal.returns-in_default
returns-in_default c = sym (no_class c.args.event.now c.in_default.not-Define)
