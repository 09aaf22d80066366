use Rattle.jl_pool.specs.Pools.{named_descriptor}
use Rattle.jl_pool.proofs.LookUpLaws.{slots_told}
use Rattle.jl_pool.proofs.pool.Pool.slots.Goals as goal

pub returns : goal.returns
returns c = rw (c.slots_of.ensures, c.named_form.ensures) (slots_told (named_descriptor c.args.self.now c.args.number))
