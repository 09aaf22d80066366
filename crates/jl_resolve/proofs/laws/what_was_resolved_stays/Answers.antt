use Rattle.std.specs.Prelude.{[], ◌∷◌, ◌++◌}
use Rattle.jl_types.proofs.Orders.{world_good}
use Rattle.jl_resolve.proofs.Constancy.{settled_stays}
use Rattle.jl_resolve.proofs.Later.{later_stays}
use Rattle.jl_resolve.proofs.laws.what_was_resolved_stays.Goals as goal

pub returns : goal.returns
returns c = λ h e recorded closed. settled_stays _ _ (later_stays h e) (world_good h) (world_good (h ++ e ∷ [])).ordered closed recorded
