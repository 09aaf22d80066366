use Rattle.std.proofs.Common.{◌≡◌, ◌++◌, take}
use Rattle.std.specs.Prelude.{map}
use Rattle.std.specs.List.{flat_map}
use Rattle.jl_pool.specs.Numbers.{u2}
use Rattle.jl_sketch.specs.Constants.{class_number}
use Rattle.jl_sketch.proofs.write.push_classes.Given as goal

abbrev pub invariant-loop-name : goal.invariant-loop-name
invariant-loop-name l = l.out.items ≡ l.initial.out.items ++ flat_map u2 (map (class_number l.constants) (take l.name-index l.names))
