use Rattle.std.proofs.Common.{◌≡◌, take}
use Rattle.jl_host.proofs.arrays.sites_from.Given as goal

abbrev pub invariant-loop-number : goal.invariant-loop-number
invariant-loop-number l = l.sites.items ≡ take l.number-index l.numbers
