use Rattle.std.proofs.Common.{◌≡◌, false, drop, length, nat_le}
use Rattle.std.specs.List.{list_any}
use Rattle.jl_types.specs.Events.Verdict as events
use Rattle.jl_callsites.proofs.changes.invalidate.Given as goal

-- what is left of the points makes of these what all make of the first ones
abbrev pub invariant-loop-point : goal.invariant-loop-point
invariant-loop-point l = record {
  there : list_any (nat_le (length l.switches)) l.points ≡ false;
  same : events.invalidated l.switches (drop l.point-index l.points) ≡ events.invalidated l.fn.switches l.fn.points;
}
