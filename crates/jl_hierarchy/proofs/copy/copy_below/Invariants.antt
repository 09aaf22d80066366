use Rattle.std.proofs.Common.{◌≡◌, take}
use Rattle.jl_hierarchy.specs.ForProofs.Kept.{lists}
use Rattle.jl_hierarchy.proofs.copy.copy_below.Given as goal

-- those so far are made
abbrev pub invariant-loop-receivers : goal.invariant-loop-receivers
invariant-loop-receivers l = lists l.made.items ≡ lists (take l.receivers-index l.below)
