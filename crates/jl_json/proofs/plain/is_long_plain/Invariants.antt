use Rattle.std.proofs.Common.{◌≡◌, ◌≤◌, ◌-◌, length, take}
use Rattle.jl_json.specs.ForProofs.NameReading.{is_plain}
use Rattle.jl_json.proofs.plain.is_long_plain.Given as goal

abbrev pub invariant-loop-at : goal.invariant-loop-at
invariant-loop-at l = (l.at ≤ length l.name) × (l.plain ≡ is_plain (take l.at l.name))

abbrev pub decreases-loop-at : goal.decreases-loop-at
decreases-loop-at l = length l.name - l.at
