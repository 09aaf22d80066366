use Rattle.std.proofs.Common.{◌≡◌, ◌==◌, ℕ, take, None, if◌then◌else◌}
use Rattle.std.specs.List.{list_any}
use Rattle.jl_deps.specs.Indexes.{rests_at}
use Rattle.jl_settle.proofs.settling.remove_all.Given as goal

-- those so far are taken out
abbrev pub invariant-loop-site : goal.invariant-loop-site
invariant-loop-site l =
    (s : ℕ) → rests_at l.index s ≡ (if list_any (λ t. t == s) (take l.site-index l.sites) then None else rests_at l.fn.index s)
