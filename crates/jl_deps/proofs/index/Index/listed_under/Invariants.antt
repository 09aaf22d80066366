use Rattle.std.proofs.Common.{◌≡◌, ℕ, take}
use Rattle.jl_deps.specs.Indexes.{touched_by}
use Rattle.jl_deps.specs.Ways.{has}
use Rattle.jl_deps.proofs.index.Index.listed_under.Given as goal

-- those of the keys so far are added
abbrev pub invariant-loop-key : goal.invariant-loop-key
invariant-loop-key l = (s : ℕ) → has s l.sites.items ≡ has s (touched_by l.self (take l.key-index l.keys))
