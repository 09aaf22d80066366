use Rattle.std.specs.Prelude.{◌≡◌, ℕ, ◌<◌, get_or}
use Rattle.jl_hierarchy.specs.ForProofs.Kept.{HasRoom, lists}
use Rattle.jl_hierarchy.proofs.receiving.reserve_each.Given as goal

abbrev pub invariant-loop-class : goal.invariant-loop-class
invariant-loop-class l =
    (lists l.below ≡ lists l.fn.below) × ((k d : ℕ) → k < l.class-index → HasRoom l.below (get_or l.fn.classes k d))
