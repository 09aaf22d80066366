use Rattle.std.proofs.Common.{sym, subst}
use Rattle.jl_types.specs.declared.limits.Limits.{Limits}
use Rattle.jl_types.specs.Events.Limits.{AreAllowed}
use Rattle.jl_host.proofs.LimitLaws.{asked_allowed}
use Rattle.jl_host.proofs.limits.limits_asked.Goals as goal

pub returns-clause-allowed : goal.returns-clause-allowed
returns-clause-allowed c =
    subst (λ (l : Limits). AreAllowed l) (λ i. record {
      sites = c.args.asked.now.sites;
      loaders = sym c.limit_asked.ensures i;
      classes = sym c.limit_asked-2.ensures i;
      call_sites = sym c.limit_asked-3.ensures i;
      switches = sym c.limit_asked-4.ensures i;
    }) (asked_allowed c.args.asked.now c.requires)
