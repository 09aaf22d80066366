use Rattle.std.proofs.Common.{◌≡◌, drop}
use Rattle.jl_renewal.specs.Staying.{is_among}
use Rattle.jl_renewal.specs.Marks.{cleared}
use Rattle.jl_renewal.proofs.marks.clear_switches.Given as goal

-- what is left takes back of these what all takes back of the first ones
abbrev pub invariant-loop-point : goal.invariant-loop-point
invariant-loop-point l = cleared (is_among (drop l.point-index l.switches)) l.flags ≡ cleared (is_among l.switches) l.fn.flags
