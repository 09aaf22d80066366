use Rattle.std.specs.Prelude.{◌≡◌, filter, take}
use Rattle.jl_types.specs.Values.Members as members
use Rattle.jl_hierarchy.proofs.classes.Classes.concrete_among.Given as goal

abbrev pub invariant-loop-class : goal.invariant-loop-class
invariant-loop-class l = l.concrete.items ≡ filter (members.is_concrete l.fn.self) (take l.class-index l.fn.classes)
