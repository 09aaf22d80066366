use Rattle.std.proofs.Common.{◌≡◌, take}
use Rattle.jl_host.proofs.arrays.loaders_from.Given as goal

abbrev pub invariant-loop-number : goal.invariant-loop-number
invariant-loop-number l = l.loaders.items ≡ take l.number-index l.numbers
