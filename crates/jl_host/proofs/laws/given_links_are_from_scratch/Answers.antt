use Rattle.std.specs.Prelude.{◌≡◌, Ok}
use Rattle.std.proofs.Common.{subst}
use Rattle.jl_types.specs.Linkage.Links.{scratch}
use Rattle.jl_types.specs.Values.World.{World}
use Rattle.jl_core.specs.State.{events}
use Rattle.jl_host.proofs.DeclarableLaws.{declarable_from_scratch}
use Rattle.jl_host.proofs.GivenLaws.{prepared_installed, installed_present}
use Rattle.jl_host.proofs.laws.given_links_are_from_scratch.Goals as goal

pub returns-clause-declarable : goal.returns-clause-declarable
returns-clause-declarable c = declarable_from_scratch

pub returns-clause-prepared : goal.returns-clause-prepared
returns-clause-prepared c seen old sites before links told view is now accepted =
    prepared_installed seen old sites before links told view is now
    (λ s link at. declarable_from_scratch old.session.core.limits (events old.session.core) accepted s link
    (subst (λ (w : World). scratch w s ≡ Ok link) now at))

pub returns-clause-installed : goal.returns-clause-installed
returns-clause-installed c = installed_present
