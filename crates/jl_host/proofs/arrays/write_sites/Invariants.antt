use Rattle.std.proofs.Common.{◌≡◌, ◌++◌, take, drop}
use Rattle.jl_host.proofs.arrays.write_sites.Given as goal

-- the first ones stand at the front
abbrev pub invariant-loop-place : goal.invariant-loop-place
invariant-loop-place l = l.out ≡ take l.place l.sites ++ drop l.place l.fn.out
