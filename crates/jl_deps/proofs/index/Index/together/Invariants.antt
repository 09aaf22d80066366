use Rattle.std.proofs.Common.{◌≡◌, ℕ, take}
use Rattle.jl_deps.specs.Indexes.{is_asked}
use Rattle.jl_deps.specs.Ways.{has}
use Rattle.jl_deps.proofs.index.Index.together.Given as goal

-- those of the sites so far are there
abbrev pub invariant-loop-site : goal.invariant-loop-site
invariant-loop-site l = (s : ℕ) → has s l.all.items ≡ is_asked l.self (take l.site-index l.sites) s
