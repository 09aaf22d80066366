use Rattle.std.proofs.Common.{◌≡◌, ℕ, true, take}
use Rattle.jl_deps.specs.Indexes.{touched_by, is_asked}
use Rattle.jl_deps.specs.Ways.{has}
use Rattle.jl_deps.proofs.index.Index.asked_under.Given as goal

-- of the keys so far each is asked
abbrev pub invariant-loop-key : goal.invariant-loop-key
invariant-loop-key l = record {
  touched : (s : ℕ) → has s l.sites.items ≡ true → has s (touched_by l.self (take l.key-index l.keys)) ≡ true;
  all : (s : ℕ) → has s (touched_by l.self (take l.key-index l.keys)) ≡ true → is_asked l.self l.sites.items s ≡ true;
}
