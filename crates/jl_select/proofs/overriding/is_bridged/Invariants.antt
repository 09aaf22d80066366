use Rattle.std.proofs.Common.{◌≡◌, false}
use Rattle.jl_select.specs.ForProofs.Walks.{has_bridge, bridged_before, above}
use Rattle.jl_select.proofs.overriding.is_bridged.Given as goal

-- what is found from here is what is found from the lower class
abbrev pub invariant-loop-superclass : goal.invariant-loop-superclass
invariant-loop-superclass l =
    bridged_before l.upper (has_bridge l.classes l.upper l.overridden) l.found (above l.classes l.at)
    ≡ bridged_before l.fn.upper (has_bridge l.fn.classes l.fn.upper l.fn.overridden) false (above l.fn.classes l.fn.lower)

abbrev pub decreases-loop-superclass : goal.decreases-loop-superclass
decreases-loop-superclass l = l.at
