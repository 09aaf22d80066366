use Rattle.std.proofs.Common.{◌≡◌, ◌-◌, ◌++◌, map, drop, length}
use Rattle.jl_report.specs.Reports.{invocation_of}
use Rattle.jl_report.proofs.invocation.push_invocations.Given as goal

-- those so far and those from here on are those of all
abbrev pub invariant-loop-site : goal.invariant-loop-site
invariant-loop-site l =
    l.all.items ++ map (invocation_of l.class l.method) (drop l.place l.sites)
    ≡ l.initial.all.items ++ map (invocation_of l.class l.method) l.sites

abbrev pub decreases-loop-site : goal.decreases-loop-site
decreases-loop-site l = length l.sites - l.place
