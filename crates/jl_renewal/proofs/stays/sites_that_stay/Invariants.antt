use Rattle.std.proofs.Common.{◌≡◌, ◌≤◌, ◌-◌, length, take}
use Rattle.jl_renewal.specs.Staying.{staying_sites}
use Rattle.jl_renewal.proofs.stays.sites_that_stay.Given as goal

abbrev pub invariant-loop-place : goal.invariant-loop-place
invariant-loop-place l = record {
  within : l.number ≤ length l.places;
  stays : l.stays.items ≡ staying_sites l.classes (take l.number l.places);
}

abbrev pub decreases-loop-place : goal.decreases-loop-place
decreases-loop-place l = length l.places - l.number
