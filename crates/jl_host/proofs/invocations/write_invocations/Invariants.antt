use Rattle.std.proofs.Common.{◌≡◌, ◌≤◌, ◌++◌, ◌-◌, map, take, drop, length}
use Rattle.jl_host.specs.Asking.{invocation_shown}
use Rattle.jl_host.proofs.invocations.write_invocations.Given as goal

-- the first ones stand at the front
abbrev pub invariant-loop-site : goal.invariant-loop-site
invariant-loop-site l = record {
  few : l.place ≤ length l.sites;
  written : l.out ≡ map invocation_shown (take l.place l.sites) ++ drop l.place l.fn.out;
}

abbrev pub decreases-loop-site : goal.decreases-loop-site
decreases-loop-site l = length l.sites - l.place
