use Rattle.std.specs.Prelude.{ℕ, ◌≤◌, ◌<◌, get_or, length, take}
use Rattle.jl_hierarchy.specs.ForProofs.Kept.{HasRoom, IsAppended, lists}
use Rattle.jl_hierarchy.proofs.receiving.append_to_each.Given as goal

abbrev pub invariant-loop-to : goal.invariant-loop-to
invariant-loop-to l =
    IsAppended (take l.to-index l.fn.classes) l.fn.class (lists l.fn.below) (lists l.below)
    × ((k d : ℕ) → l.to-index ≤ k → k < length l.fn.classes → HasRoom l.below (get_or l.fn.classes k d))
