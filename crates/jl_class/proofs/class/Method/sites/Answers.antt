use Rattle.jl_class.proofs.KeptLaws.{named_range}
use Rattle.jl_class.proofs.class.Method.sites.Goals as goal

pub of-requires : goal.of-requires
of-requires c = named_range c.self.inside.pool.now c.self.inside.sites.now c.self.inside.kept.from c.self.inside.kept.to c.self.invariant.named
