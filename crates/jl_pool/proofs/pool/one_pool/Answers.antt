use Rattle.jl_pool.proofs.PoolLaws.{one_pool}
use Rattle.jl_pool.proofs.pool.one_pool.Goals as goal

pub returns : goal.returns
returns c = one_pool
