use Rattle.std.proofs.Common.{◌≡◌, ◌≤◌, ◌+◌, drop}
use Rattle.jl_renewal.specs.Numbers.{how_many}
use Rattle.jl_renewal.proofs.numbers.how_many.Given as goal

-- so many stay so far
abbrev pub invariant-loop-one : goal.invariant-loop-one
invariant-loop-one l = record {
  few : l.count ≤ l.one-index;
  so_far : l.count + how_many (drop l.one-index l.stays) ≡ how_many l.stays;
}
