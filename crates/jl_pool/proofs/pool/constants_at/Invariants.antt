use Rattle.std.proofs.Common.{◌-◌}
use Rattle.jl_pool.proofs.PoolLaws.{SoFar}
use Rattle.jl_pool.proofs.pool.constants_at.Given as goal

abbrev pub invariant-loop-place : goal.invariant-loop-place
invariant-loop-place l = SoFar l.bytes l.entries.items l.bad l.rest l.count l.place

abbrev pub decreases-loop-place : goal.decreases-loop-place
decreases-loop-place l = l.count - l.place
