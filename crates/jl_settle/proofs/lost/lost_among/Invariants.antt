use Rattle.std.proofs.Common.{◌≡◌, ◌==◌, ◌&&◌, ℕ, ◌+◌, ◌≤◌, drop, take, sum_by}
use Rattle.std.specs.List.{AllByRecursion, list_any}
use Rattle.jl_cache.specs.Links.{link_at}
use Rattle.jl_settle.specs.Settling.{goes, MayBeAsked, most_asked}
use Rattle.jl_settle.proofs.lost.lost_among.Given as goal

-- those of the sites so far are listed whose links go, and each of the others may be asked
abbrev pub invariant-loop-site : goal.invariant-loop-site
invariant-loop-site l = record {
  ticks : l.work ≤ l.fn.work + sum_by (most_asked l.world l.defined) (take l.site-index l.sites);
  left : AllByRecursion (MayBeAsked l.world l.defined (link_at l.links) l.index) (drop l.site-index l.sites);
  lost : (s : ℕ) → list_any (λ t. t == s) l.lost.items
      ≡ (list_any (λ t. t == s) (take l.site-index l.sites) && goes l.world (link_at l.links) s);
}
