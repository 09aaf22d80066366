use Rattle.std.proofs.Common.{◌≡◌, ◌==◌, ℕ, take, if◌then◌else◌}
use Rattle.std.specs.List.{list_any}
use Rattle.jl_cache.specs.Links.{link_at}
use Rattle.jl_deps.specs.Indexes.{rests_at}
use Rattle.jl_settle.proofs.catch_up.take_over.Given as goal

-- those so far are as they are ahead
abbrev pub invariant-loop-site : goal.invariant-loop-site
invariant-loop-site l = record {
  links : (s : ℕ) → link_at l.links s ≡ (if list_any (λ t. t == s) (take l.site-index l.sites) then link_at l.links_ahead s else link_at l.fn.links s);
  index : (s : ℕ) → rests_at l.index s
      ≡ (if list_any (λ t. t == s) (take l.site-index l.sites) then rests_at l.index_ahead s else rests_at l.fn.index s);
}
