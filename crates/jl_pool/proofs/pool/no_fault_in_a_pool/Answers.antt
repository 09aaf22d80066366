use Rattle.jl_pool.proofs.PoolFaultLaws.{no_pool_fault}
use Rattle.jl_pool.proofs.pool.no_fault_in_a_pool.Goals as goal

pub returns : goal.returns
returns c = no_pool_fault
