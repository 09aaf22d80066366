use Rattle.std.specs.Prelude.{◌≤◌, ◌^◌, length}
use Rattle.std.proofs.Common.{subst}
use Rattle.jl_types.specs.Values.World.{Sites}
use Rattle.jl_callsites.proofs.sites.Sites.few_switches.Goals as goal

pub returns-clause-few : goal.returns-clause-few
returns-clause-few c = subst (λ (sites : Sites). length sites.switches ≤ 2 ^ 20) c.self.view_is c.self.invariant.2
