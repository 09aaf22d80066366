use Rattle.std.specs.Prelude.{◌≡◌, ℕ, ◌+◌, ◌-◌, length, true}
use Rattle.jl_hierarchy.specs.Redeclared.{is_every}
use Rattle.jl_hierarchy.proofs.marks.set_every.Given as goal

-- those that were set are
abbrev pub invariant-loop-every : goal.invariant-loop-every
invariant-loop-every l = (s : ℕ) → is_every l.fn.every.items s ≡ true → is_every l.every.items s ≡ true

abbrev pub decreases-loop-every : goal.decreases-loop-every
decreases-loop-every l = l.number + 1 - length l.every.items
