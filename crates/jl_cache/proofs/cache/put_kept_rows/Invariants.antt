use Rattle.std.proofs.Common.{◌≡◌, ℕ, take}
use Rattle.jl_cache.specs.Links.{link_at, link_with}
use Rattle.jl_cache.specs.ForProofs.Sites.{HaveSites}
use Rattle.jl_cache.proofs.cache.put_kept_rows.Given as goal

-- the rows so far are put
abbrev pub invariant-loop-row : goal.invariant-loop-row
invariant-loop-row l = record {
  sites : HaveSites l.links.entries;
  links : (s : ℕ) → link_at l.links.entries s ≡ link_with (take l.row-index l.rows) (link_at l.fn.links.entries s) s;
}
