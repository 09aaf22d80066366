use Rattle.std.proofs.Common.{refl}
use Rattle.jl_events.proofs.step.retire.Goals as goal

pub returns : goal.returns
returns c = record { moved = c.in_ok-retire_loader.ensures; tells = refl; class_is = refl }
