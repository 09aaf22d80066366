use Rattle.std.proofs.Common.{refl}
use Rattle.jl_callsites.proofs.laws.bound_sites_run.Goals as goal

pub returns : goal.returns
returns c = λ w s d kind specifier. refl
