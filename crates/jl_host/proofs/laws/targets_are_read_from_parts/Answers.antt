use Rattle.jl_host.proofs.TargetLaws.{parts_are_read}
use Rattle.jl_host.proofs.laws.targets_are_read_from_parts.Goals as goal

pub returns : goal.returns
returns _ = parts_are_read
