use Rattle.std.proofs.Common.{◌≡◌, take}
use Rattle.jl_relink.proofs.by_rows.table_of_rows.Given as goal

-- the table has the rows so far
abbrev pub invariant-loop-row : goal.invariant-loop-row
invariant-loop-row l = l.table ≡ take l.row-index l.rows
