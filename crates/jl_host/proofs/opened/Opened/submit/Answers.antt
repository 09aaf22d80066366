use Rattle.jl_host.proofs.CaughtUp.{applied_behind}
use Rattle.jl_host.proofs.opened.Opened.submit.Goals as goal

pub invariant_of-self : goal.invariant_of-self
invariant_of-self c =
    applied_behind c.self.inside.links.value c.self.inside.reached c.self.inside.session.core c.submit-outcome.new.self.core c.args.event
    c.submit-outcome.result c.self.invariant c.submit-outcome.ensures.applied
