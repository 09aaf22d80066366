use Rattle.std.proofs.Common.{refl}
use Rattle.jl_events.proofs.step.new_call_site.Goals as goal

pub returns : goal.returns
returns c = record { moved = c.in_ok-site.ensures; tells = refl; class_is = refl }
