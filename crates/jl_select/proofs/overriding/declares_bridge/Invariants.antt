use Rattle.std.specs.Prelude.{◌≡◌, ◌-◌, drop, length}
use Rattle.std.specs.List.{list_any}
use Rattle.jl_select.specs.ForProofs.Walks.{is_bridge}
use Rattle.jl_select.proofs.overriding.declares_bridge.Given as goal

-- what is told from here on is what is told of all
abbrev pub invariant-loop-method : goal.invariant-loop-method
invariant-loop-method l = list_any (is_bridge l.overridden) (drop l.place l.methods) ≡ list_any (is_bridge l.overridden) l.methods

abbrev pub decreases-loop-method : goal.decreases-loop-method
decreases-loop-method l = length l.methods - l.place
