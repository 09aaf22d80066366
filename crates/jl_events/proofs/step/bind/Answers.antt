use Rattle.std.proofs.Common.{refl}
use Rattle.jl_events.proofs.step.bind.Goals as goal

pub returns : goal.returns
returns c = record { moved = c.in_ok-add_binding.ensures; tells = refl; class_is = refl }
