use Rattle.std.specs.Prelude.{◌≡◌, true}
use Rattle.std.proofs.Common.{subst}
use Rattle.jl_types.specs.Values.World.{Sites}
use Rattle.jl_callsites.specs.Known.{are_known}
use Rattle.jl_callsites.proofs.sites.Sites.known_switches.Goals as goal

pub returns-clause-known : goal.returns-clause-known
returns-clause-known c = subst (λ (sites : Sites). are_known sites ≡ true) c.self.view_is c.self.invariant.0
