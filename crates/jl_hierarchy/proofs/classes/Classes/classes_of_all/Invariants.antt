use Rattle.std.specs.Prelude.{◌≡◌, ◌==◌, ◌&&◌, ℕ, take}
use Rattle.std.specs.List.{list_any}
use Rattle.jl_types.specs.Values.Members.{is_present}
use Rattle.jl_types.specs.Events.Retirement.{is_of_any}
use Rattle.jl_hierarchy.proofs.classes.Classes.classes_of_all.Given as goal

-- those of the loaders so far
abbrev pub invariant-loop-loader : goal.invariant-loop-loader
invariant-loop-loader l = (c : ℕ) → list_any (λ k. k == c) l.all.items ≡ (is_present l.fn.self c && is_of_any l.fn.self (take l.loader-index l.fn.loaders) c)
