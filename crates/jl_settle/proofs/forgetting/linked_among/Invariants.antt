use Rattle.std.proofs.Common.{◌≡◌, ◌==◌, ◌&&◌, ℕ, take, is_some}
use Rattle.std.specs.List.{list_any}
use Rattle.jl_cache.specs.Links.{link_at}
use Rattle.jl_settle.proofs.forgetting.linked_among.Given as goal

-- those of the sites so far are listed that have a link
abbrev pub invariant-loop-site : goal.invariant-loop-site
invariant-loop-site l =
    (s : ℕ) → list_any (λ t. t == s) l.linked.items ≡ (list_any (λ t. t == s) (take l.site-index l.sites) && is_some (link_at l.links s))
