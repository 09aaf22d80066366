use Rattle.jl_host.proofs.RenewingLaws.{carried_behind}
use Rattle.jl_host.proofs.fresh.Fresh.carry.Goals as goal

pub invariant_of-self : goal.invariant_of-self
invariant_of-self c =
    carried_behind c.self.inside.links.value c.self.inside.reached c.self.inside.core c.carry.new.fresh c.args.defined.now c.args.entry.now
    c.self.inside.numbers c.carry.new.numbers c.carry.result c.self.invariant c.carry.ensures.carried c.carry.ensures.unchanged
