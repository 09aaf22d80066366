use Rattle.std.specs.Prelude.{◌≡◌, ◌-◌, ◌++◌, drop, length}
use Rattle.jl_hierarchy.specs.Prints.{printed_from}
use Rattle.jl_hierarchy.proofs.row.prints_of.Given as goal

-- those so far and those of the methods from here on are those of all
abbrev pub invariant-loop-method : goal.invariant-loop-method
invariant-loop-method l = l.prints.items ++ printed_from l.place (drop l.place l.methods) ≡ printed_from 0 l.methods

abbrev pub decreases-loop-method : goal.decreases-loop-method
decreases-loop-method l = length l.methods - l.place
