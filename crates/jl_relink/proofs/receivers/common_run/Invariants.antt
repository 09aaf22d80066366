use Rattle.std.proofs.Common.{◌≡◌, ◌+◌, ◌≤◌, None, drop}
use Rattle.jl_relink.specs.ForProofs.Rows.{run_on, rows_of}
use Rattle.jl_relink.proofs.receivers.common_run.Given as goal

-- what the receivers so far and the others run is what all of them run, with one tick at most for each so far
abbrev pub invariant-loop-receiver : goal.invariant-loop-receiver
invariant-loop-receiver l = record {
  ticks : l.work ≤ l.fn.work + l.receiver-index;
  run : run_on l.common (rows_of l.classes l.selection (drop l.receiver-index l.receivers)) ≡ run_on None (rows_of l.classes l.selection l.receivers);
}
