use Rattle.std.proofs.Common.{◌≤◌, ◌-◌, drop, length}
use Rattle.jl_host.specs.Renewing.{HasCarried}
use Rattle.jl_host.proofs.fresh.Fresh.carry_all.Given as goal

-- those before are carried over
abbrev pub invariant-loop-entry : goal.invariant-loop-entry
invariant-loop-entry l = record {
  few : l.carried ≤ length l.entries;
  so_far : HasCarried l.defined (drop l.fn.carried l.entries) (drop l.carried l.entries) l.fn.self l.self;
}

abbrev pub decreases-loop-entry : goal.decreases-loop-entry
decreases-loop-entry l = length l.entries - l.carried
