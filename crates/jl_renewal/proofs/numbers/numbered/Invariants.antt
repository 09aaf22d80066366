use Rattle.std.proofs.Common.{◌≡◌, ◌+◌, ◌++◌, drop}
use Rattle.jl_renewal.specs.Numbers.{numbered, numbered_from, how_many}
use Rattle.jl_renewal.proofs.numbers.numbered.Given as goal

-- what is left is numbered from here on, and as many numbers were given as stay so far
abbrev pub invariant-loop-one : goal.invariant-loop-one
invariant-loop-one l = record {
  few : l.next + how_many (drop l.one-index l.stays) ≡ how_many l.stays;
  rest : l.numbers.items ++ numbered_from l.next (drop l.one-index l.stays) ≡ numbered l.stays;
}
