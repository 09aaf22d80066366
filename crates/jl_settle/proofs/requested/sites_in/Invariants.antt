use Rattle.std.proofs.Common.{◌≡◌, ℕ, take}
use Rattle.jl_hierarchy.proofs.Rising.{has}
use Rattle.jl_settle.specs.ForProofs.Requested.{is_among, requested_where}
use Rattle.jl_settle.proofs.requested.sites_in.Given as goal

-- the sites in the classes so far are there
abbrev pub invariant-loop-class : goal.invariant-loop-class
invariant-loop-class l = (s : ℕ) → has s l.sites.items ≡ requested_where (is_among l.world.classes (take l.class-index l.classes)) l.world.places s
