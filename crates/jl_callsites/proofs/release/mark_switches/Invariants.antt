use Rattle.std.proofs.Common.{◌≡◌, false, drop, length, nat_le}
use Rattle.std.specs.List.{list_any}
use Rattle.jl_callsites.specs.Marks.{with_marks}
use Rattle.jl_callsites.proofs.release.mark_switches.Given as goal

-- what is left of the numbers makes of these marks what all make of the first ones
abbrev pub invariant-loop-point : goal.invariant-loop-point
invariant-loop-point l = record {
  there : list_any (nat_le (length l.marks)) l.listed ≡ false;
  same : with_marks l.marks (drop l.point-index l.listed) ≡ with_marks l.fn.marks l.fn.listed;
}
