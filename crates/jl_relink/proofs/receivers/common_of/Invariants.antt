use Rattle.std.proofs.Common.{◌≡◌, None, drop}
use Rattle.jl_relink.specs.ForProofs.Rows.{run_on}
use Rattle.jl_relink.proofs.receivers.common_of.Given as goal

-- what the rows so far and the others run is what all of them run
abbrev pub invariant-loop-row : goal.invariant-loop-row
invariant-loop-row l = run_on l.common (drop l.row-index l.rows) ≡ run_on None l.rows
