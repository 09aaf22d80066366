use Rattle.std.proofs.Common.{◌≡◌, ◌+◌, ◌≤◌, drop}
use Rattle.jl_types.specs.Linkage.Resolution.{first_of}
use Rattle.jl_events.specs.Judging.{row_faults, most_of_rows}
use Rattle.jl_events.proofs.install.row_refusal.Given as goal

-- the refusal is that of the rows that are left, and what they take still fits
abbrev pub invariant-loop-row : goal.invariant-loop-row
invariant-loop-row l = record {
  left : first_of (row_faults l.world (drop l.row-index l.rows)) ≡ first_of (row_faults l.world l.rows);
  ticks : l.work + most_of_rows l.world (drop l.row-index l.rows) ≤ l.fn.work + most_of_rows l.world l.rows;
}
