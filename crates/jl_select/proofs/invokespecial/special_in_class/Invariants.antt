use Rattle.std.proofs.Common.{◌≡◌}
use Rattle.jl_types.specs.Linkage.Selection as selection
use Rattle.jl_select.proofs.invokespecial.special_in_class.Given as goal

-- what is found from here is what is found from the class
abbrev pub invariant-loop-method : goal.invariant-loop-method
invariant-loop-method l = selection.special_in_class l.classes l.sought.name l.sought.ty l.at ≡ selection.special_in_class l.fn.classes l.fn.sought.name
    l.fn.sought.ty l.fn.class

abbrev pub decreases-loop-method : goal.decreases-loop-method
decreases-loop-method l = l.at
