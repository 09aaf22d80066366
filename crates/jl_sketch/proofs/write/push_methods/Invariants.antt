use Rattle.std.proofs.Common.{◌≡◌, ◌++◌, ◌<◌, ◌^◌, take}
use Rattle.std.specs.Prelude.{map}
use Rattle.std.specs.List.{flat_map, AllByRecursion}
use Rattle.jl_classfile.specs.Layouts.{member_text}
use Rattle.jl_sketch.specs.Layouts.{method_of}
use Rattle.jl_sketch.proofs.write.push_methods.Given as goal

abbrev pub invariant-loop-method : goal.invariant-loop-method
invariant-loop-method l = record {
  written : l.out.items ≡ l.initial.out.items ++ flat_map member_text (map (method_of l.constants) (take l.method-index l.methods));
  flags : AllByRecursion (λ m. m.flags < 2 ^ 16) (take l.method-index l.methods);
}
