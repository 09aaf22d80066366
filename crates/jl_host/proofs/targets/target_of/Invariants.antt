use Rattle.std.proofs.Common.{◌≡◌, drop, reverse, Some}
use Rattle.jl_host.specs.Targets.{targets_of}
use Rattle.jl_host.proofs.targets.target_of.Given as goal

-- what is left to read stands before the targets that were read
abbrev pub invariant-loop-place : goal.invariant-loop-place
invariant-loop-place l = targets_of (drop l.place l.parts) ≡ Some (reverse l.read.items)
