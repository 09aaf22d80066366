use Rattle.std.proofs.Common.{◌≡◌, take}
use Rattle.jl_cache.proofs.cache.kept_rows.Given as goal

-- the rows so far are kept
abbrev pub invariant-loop-row : goal.invariant-loop-row
invariant-loop-row l = l.kept.items ≡ take l.row-index l.rows
