use Rattle.std.proofs.Common.{◌≡◌, ℕ, ◌<◌, Some}
use Rattle.jl_pool.specs.declared.constant.Constant.{Constant}
use Rattle.jl_pool.specs.Pools.{constant_at, HasText}
use Rattle.jl_pool.proofs.pool.Pool.check_texts.Given as goal

abbrev pub invariant-loop-number : goal.invariant-loop-number
invariant-loop-number l = (j : ℕ) (c : Constant) → j < l.number → constant_at l.self j ≡ Some c → HasText c
