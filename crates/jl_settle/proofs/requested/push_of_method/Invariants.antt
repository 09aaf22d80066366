use Rattle.std.proofs.Common.{◌≡◌, ◌||◌, ℕ, ◌-◌, length, take}
use Rattle.jl_hierarchy.proofs.Rising.{has}
use Rattle.jl_settle.specs.ForProofs.Requested.{is_in_method, requested_where}
use Rattle.jl_settle.proofs.requested.push_of_method.Given as goal

-- the sites of the invocations so far are there
abbrev pub invariant-loop-at : goal.invariant-loop-at
invariant-loop-at l =
    (s : ℕ) → has s l.sites.items ≡ (has s l.fn.sites.items || requested_where (is_in_method l.class l.number (take l.at l.invocations)) l.places s)

abbrev pub decreases-loop-at : goal.decreases-loop-at
decreases-loop-at l = length l.invocations - l.at
