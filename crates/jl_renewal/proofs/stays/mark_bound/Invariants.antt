use Rattle.std.proofs.Common.{◌≡◌, ◌≤◌, ◌-◌, drop, length}
use Rattle.std.specs.List.{list_any}
use Rattle.jl_renewal.specs.Marks.{marked, binds_staying}
use Rattle.jl_renewal.proofs.stays.mark_bound.Given as goal

-- what is left sets of these what all sets of the first ones
abbrev pub invariant-loop-site : goal.invariant-loop-site
invariant-loop-site l = record {
  within : l.place ≤ length l.old-inside.bindings.entries;
  rest : marked (λ c. list_any (binds_staying l.old c) (drop l.place l.old-inside.bindings.entries)) l.held
      ≡ marked (λ c. list_any (binds_staying l.old c) l.old-inside.bindings.entries) l.fn.held;
}

abbrev pub decreases-loop-site : goal.decreases-loop-site
decreases-loop-site l = length l.old-inside.bindings.entries - l.place
