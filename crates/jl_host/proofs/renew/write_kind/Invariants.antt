use Rattle.std.proofs.Common.{◌≡◌, ◌++◌, take, drop, map}
use Rattle.jl_host.specs.Renewals.{number_shown}
use Rattle.jl_host.proofs.renew.write_kind.Given as goal

-- the first ones stand at the front
abbrev pub invariant-loop-place : goal.invariant-loop-place
invariant-loop-place l = l.out ≡ map number_shown (take l.place l.numbers) ++ drop l.place l.fn.out
