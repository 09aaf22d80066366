use Rattle.std.proofs.Common.{rules}
use Rattle.jl_types.specs.declared.event.EventOf.TheVariants as event
use Rattle.jl_host.proofs.CaughtUp.{applied_behind}
use Rattle.jl_host.proofs.opened.Opened.install_links.Goals as goal

pub invariant_of-self : goal.invariant_of-self
invariant_of-self c =
    applied_behind c.self.inside.links.value c.self.inside.reached c.self.inside.session.core c.submit-outcome.new.self.core (event.Install c.of.result)
    c.submit-outcome.result c.self.invariant c.submit-outcome.ensures.applied

pub returns : goal.returns
returns c = (
  record {
    outcome = c.submit-outcome.result;
    applied = search rules;
    batches = search rules;
    said = search rules;
    named = search rules;
    status_is = search rules;
    told_is = search rules;
  },
  search rules,
)
