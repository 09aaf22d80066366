use Rattle.std.specs.Prelude.{◌≡◌, take}
use Rattle.std.specs.List.{flat_map}
use Rattle.jl_types.specs.Values.Ancestry as ancestry
use Rattle.jl_hierarchy.proofs.classes.Classes.ancestors_of_all.Given as goal

abbrev pub invariant-loop-class : goal.invariant-loop-class
invariant-loop-class l = l.all.items ≡ flat_map (ancestry.ancestors l.fn.self.rows) (take l.class-index l.fn.classes)
