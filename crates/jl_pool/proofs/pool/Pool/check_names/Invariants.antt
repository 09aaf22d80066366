use Rattle.std.proofs.Common.{◌≡◌, true}
use Rattle.jl_pool.specs.Pools.{is_linked}
use Rattle.jl_pool.proofs.NameLaws.{AllBelow, TypedBelow}
use Rattle.jl_pool.proofs.pool.Pool.check_names.Given as goal

abbrev pub invariant-loop-number : goal.invariant-loop-number
invariant-loop-number l = AllBelow (λ c. is_linked l.self c ≡ true) l.self l.number × TypedBelow l.self l.number l.untyped
