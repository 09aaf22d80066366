use Rattle.std.proofs.Common.{◌≡◌, ◌+◌, ◌≤◌, ◌++◌, length, drop}
use Rattle.jl_relink.specs.ForProofs.Rows.{rows_of}
use Rattle.jl_relink.proofs.receivers.table_of.Given as goal

-- the table has the receivers so far, with one tick at most for each
abbrev pub invariant-loop-receiver : goal.invariant-loop-receiver
invariant-loop-receiver l = record {
  count : length l.table ≡ l.receiver-index;
  ticks : l.work ≤ l.fn.work + l.receiver-index;
  rows : l.table ++ rows_of l.classes l.selection (drop l.receiver-index l.receivers) ≡ rows_of l.classes l.selection l.receivers;
}
