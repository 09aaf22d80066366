use Rattle.std.proofs.Common.{sym, subst}
use Rattle.jl_types.specs.declared.limits.Limits.{Limits}
use Rattle.jl_types.specs.Events.Limits.{AreAllowed}
use Rattle.jl_host.proofs.LimitLaws.{allowed_for}
use Rattle.jl_host.proofs.limits.limits_for.Goals as goal

pub returns-clause-allowed : goal.returns-clause-allowed
returns-clause-allowed c =
    subst (λ (l : Limits). AreAllowed (record l { sites = c.args.max_sites })) (sym c.limits-limits.ensures.limits)
    (allowed_for c.args.core.now c.args.max_sites c.limits-limits.ensures.allowed c.requires)
