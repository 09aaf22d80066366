use Rattle.std.specs.Prelude.{◌-◌, length, take}
use Rattle.jl_hierarchy.proofs.Lines.{AreTold}
use Rattle.jl_hierarchy.proofs.classes.Classes.marks_of_each.Given as goal

-- the methods so far are told
abbrev pub invariant-loop-method : goal.invariant-loop-method
invariant-loop-method l = AreTold l.self l.superclass l.marks.items (take l.place l.methods)

abbrev pub decreases-loop-method : goal.decreases-loop-method
decreases-loop-method l = length l.methods - l.place
