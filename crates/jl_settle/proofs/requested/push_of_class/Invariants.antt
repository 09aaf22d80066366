use Rattle.std.proofs.Common.{◌≡◌, ◌||◌, ℕ, ◌-◌, length}
use Rattle.jl_hierarchy.proofs.Rising.{has}
use Rattle.jl_settle.specs.ForProofs.Requested.{requested_where}
use Rattle.jl_settle.proofs.RequestedLaws.{is_before}
use Rattle.jl_settle.proofs.requested.push_of_class.Given as goal

-- the sites in the methods so far are there
abbrev pub invariant-loop-method : goal.invariant-loop-method
invariant-loop-method l =
    (s : ℕ) → has s l.sites.items ≡ (has s l.fn.sites.items || requested_where (is_before l.classes l.class l.number) l.places s)

abbrev pub decreases-loop-method : goal.decreases-loop-method
decreases-loop-method l = length l.methods - l.number
