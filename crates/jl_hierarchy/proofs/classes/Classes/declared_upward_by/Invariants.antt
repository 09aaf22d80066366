use Rattle.std.proofs.Common.{◌≡◌}
use Rattle.jl_types.specs.Linkage.Resolution as resolution
use Rattle.jl_hierarchy.proofs.classes.Classes.declared_upward_by.Given as goal

-- what is found from here is what is found from the class
abbrev pub invariant-loop-method : goal.invariant-loop-method
invariant-loop-method l = resolution.declared_upward l.self l.sought.name l.sought.ty l.at ≡ resolution.declared_upward l.fn.self l.fn.sought.name
    l.fn.sought.ty l.fn.class

abbrev pub decreases-loop-method : goal.decreases-loop-method
decreases-loop-method l = l.at
