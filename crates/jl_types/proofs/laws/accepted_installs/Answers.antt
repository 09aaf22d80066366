use Rattle.jl_types.proofs.Accepting.{accepted_installs}
use Rattle.jl_types.proofs.laws.accepted_installs.Goals as goal

pub returns : goal.returns
returns _ = λ limits w rows. accepted_installs w limits rows
