use Rattle.std.proofs.Common.{◌-◌, ◌≤◌, length}
use Rattle.jl_report.proofs.OverrideWalks.{NoneOf}
use Rattle.jl_report.proofs.finals.some_overrides.Given as goal

-- none of those so far
abbrev pub invariant-loop-method : goal.invariant-loop-method
invariant-loop-method l = NoneOf l.classes l.class l.index × (l.index ≤ length l.methods)

abbrev pub decreases-loop-method : goal.decreases-loop-method
decreases-loop-method l = length l.methods - l.index
