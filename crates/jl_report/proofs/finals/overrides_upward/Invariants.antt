use Rattle.std.proofs.Common.{◌≡◌}
use Rattle.std.specs.List.{list_any}
use Rattle.jl_report.specs.Finals.{superclasses_above, overrides_in}
use Rattle.jl_report.proofs.finals.overrides_upward.Given as goal

-- what is told from here is what is told from the method's class
abbrev pub invariant-loop-superclass : goal.invariant-loop-superclass
invariant-loop-superclass l =
    list_any (overrides_in l.classes l.lower l.sought.name l.sought.ty) (superclasses_above l.classes l.at)
    ≡ list_any (overrides_in l.fn.classes l.fn.lower l.fn.sought.name l.fn.sought.ty) (superclasses_above l.fn.classes l.fn.lower.class)

abbrev pub decreases-loop-superclass : goal.decreases-loop-superclass
decreases-loop-superclass l = l.at
