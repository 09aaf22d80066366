use Rattle.std.proofs.Common.{◌≡◌, take}
use Rattle.jl_host.proofs.fresh.given.Given as goal

abbrev pub invariant-loop-row : goal.invariant-loop-row
invariant-loop-row l = l.given.items ≡ take l.row-index l.rows
