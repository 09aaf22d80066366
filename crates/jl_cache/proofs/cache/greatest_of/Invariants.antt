use Rattle.std.proofs.Common.{◌≤◌, ◌<◌, ◌^◌, take}
use Rattle.std.specs.List.{AllByRecursion}
use Rattle.jl_cache.proofs.cache.greatest_of.Given as goal

-- that of the rows so far
abbrev pub invariant-loop-row : goal.invariant-loop-row
invariant-loop-row l = record {
  small : l.greatest < 2 ^ 32;
  greatest : AllByRecursion (λ row. row.0 ≤ l.greatest) (take l.row-index l.rows);
}
