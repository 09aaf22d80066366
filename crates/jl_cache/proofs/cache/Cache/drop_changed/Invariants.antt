use Rattle.std.proofs.Common.{◌≡◌, ◌≤◌, ◌==◌, ℕ, None, take, length, if◌then◌else◌}
use Rattle.std.specs.List.{list_any}
use Rattle.jl_cache.specs.Links.{link_at}
use Rattle.jl_cache.proofs.cache.Cache.drop_changed.Given as goal

-- the links of the sites so far are gone, and no others
abbrev pub invariant-loop-site : goal.invariant-loop-site
invariant-loop-site l = record {
  links : (s : ℕ) → link_at l.self-inside.links.entries s ≡ (if list_any (λ n. n == s) (take l.site-index l.sites) then None else link_at l.fn.self s);
  few : length l.self-inside.links.entries ≤ length l.fn.self;
}
