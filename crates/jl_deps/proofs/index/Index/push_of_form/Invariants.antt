use Rattle.std.proofs.Common.{◌≡◌, ◌||◌, ℕ, take}
use Rattle.jl_deps.specs.Ways.{has}
use Rattle.jl_deps.specs.ForProofs.Lists.{is_of_form}
use Rattle.jl_deps.proofs.index.Index.push_of_form.Given as goal

-- those of the keys so far are added
abbrev pub invariant-loop-key : goal.invariant-loop-key
invariant-loop-key l = (s : ℕ) → has s l.all.items ≡ (has s l.fn.all.items || is_of_form l.self (take l.key-index l.keys) l.form s)
