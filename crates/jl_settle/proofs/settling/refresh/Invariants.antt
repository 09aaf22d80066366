use Rattle.std.proofs.Common.{◌≡◌, ◌==◌, ℕ, take, if◌then◌else◌}
use Rattle.std.specs.List.{list_any}
use Rattle.jl_cache.specs.Links.{link_at}
use Rattle.jl_deps.specs.Indexes.{rests_at, rests_if}
use Rattle.jl_settle.proofs.settling.refresh.Given as goal

-- those so far are looked up
abbrev pub invariant-loop-site : goal.invariant-loop-site
invariant-loop-site l =
    (s : ℕ) → rests_at l.index s ≡ (if list_any (λ t. t == s) (take l.site-index l.sites)
    then rests_if l.world s (link_at l.links s) else rests_at l.fn.index s)
