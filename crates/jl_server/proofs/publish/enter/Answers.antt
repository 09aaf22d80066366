use Rattle.jl_server.proofs.Rules.{enters}
use Rattle.jl_server.proofs.publish.enter.Goals as goal

pub enter_as-requires : goal.enter_as-requires
enter_as-requires c = enters _ _
