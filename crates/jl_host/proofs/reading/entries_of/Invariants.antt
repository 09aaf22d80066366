use Rattle.std.proofs.Common.{◌≤◌, length}
use Rattle.jl_host.specs.Reading.{entry_of}
use Rattle.jl_host.proofs.ReadingLaws.{AreSoFar}
use Rattle.jl_host.proofs.reading.entries_of.Given as goal

abbrev pub invariant-loop-row : goal.invariant-loop-row
invariant-loop-row l = record {
  read : AreSoFar entry_of l.rows l.row-index l.table;
  few : length l.table ≤ l.row-index;
}
