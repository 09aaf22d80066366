use Rattle.std.proofs.Common.{refl}
use Rattle.jl_events.proofs.step.set_target.Goals as goal

pub returns : goal.returns
returns c = record { moved = c.in_ok-put_target.ensures; tells = refl; class_is = refl }
