use Rattle.std.proofs.Common.{◌≡◌, length}
use Rattle.bench.proofs.call.calls_together.Given as goal

-- there is a place for each answer
abbrev pub invariant-loop : goal.invariant-loop
invariant-loop g l = length l.rows ≡ length l.found
