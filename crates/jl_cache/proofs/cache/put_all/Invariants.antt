use Rattle.std.proofs.Common.{◌≡◌, ℕ}
use Rattle.jl_cache.specs.Links.{link_at, link_with}
use Rattle.jl_cache.proofs.cache.put_all.Given as goal

-- the rows so far are put, and there is as much room
abbrev pub invariant-loop-row : goal.invariant-loop-row
invariant-loop-row l = record {
  room : l.links.room ≡ l.fn.links.room;
  links : (s : ℕ) → link_at l.links.entries s ≡ link_with l.yielded (link_at l.fn.links.entries s) s;
}
