use Rattle.std.proofs.Common.{◌≡◌, ◌≤◌, ◌++◌, ◌^◌, length}
use Rattle.jl_numbered.specs.Numbers.{entries_from}
use Rattle.jl_cache.proofs.cache.rows_of.Given as goal

-- the rows below the number are there
abbrev pub invariant-loop-place : goal.invariant-loop-place
invariant-loop-place l = record {
  rows : l.rows.items ++ entries_from l.from l.links.entries ≡ l.links.entries;
  within : l.from ≤ 2 ^ 32;
}

abbrev pub decreases-loop-place : goal.decreases-loop-place
decreases-loop-place l = length (entries_from l.from l.links.entries)
