use Rattle.jl_host.proofs.AwaitedLaws.{awaited_named}
use Rattle.jl_host.proofs.laws.awaited_classes_are_named.Goals as goal

pub returns : goal.returns
returns _ = awaited_named
