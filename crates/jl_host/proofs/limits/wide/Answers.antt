use Rattle.jl_host.proofs.LimitLaws.{wide_allowed}
use Rattle.jl_host.proofs.limits.wide.Goals as goal

pub returns-clause-allowed : goal.returns-clause-allowed
returns-clause-allowed c = wide_allowed c.args.max_sites c.requires
