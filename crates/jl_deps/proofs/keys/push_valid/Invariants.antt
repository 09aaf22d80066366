use Rattle.std.proofs.Common.{◌≡◌, ◌==◌, ◌||◌, ◌&&◌, ℕ, take}
use Rattle.std.specs.List.{list_any}
use Rattle.jl_types.specs.Linkage.Targets.{is_valid}
use Rattle.jl_deps.proofs.keys.push_valid.Given as goal

-- those of the points so far are added
abbrev pub invariant-loop-point : goal.invariant-loop-point
invariant-loop-point l =
    (p : ℕ) → list_any (λ q. q == p) l.valid.items
    ≡ (list_any (λ q. q == p) l.fn.valid.items || (list_any (λ q. q == p) (take l.point-index l.points) && is_valid l.sites p))
