use Rattle.std.proofs.Common.{◌≡◌, ◌-◌, ◌++◌, drop, length}
use Rattle.jl_report.specs.Reports.{invocations_from}
use Rattle.jl_report.proofs.invocation.invocations_of.Given as goal

-- those so far and those of the methods from here on are those of all
abbrev pub invariant-loop-method : goal.invariant-loop-method
invariant-loop-method l = l.all.items ++ invocations_from l.class l.index (drop l.index l.methods) ≡ invocations_from l.class 0 l.methods

abbrev pub decreases-loop-method : goal.decreases-loop-method
decreases-loop-method l = length l.methods - l.index
