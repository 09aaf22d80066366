use Rattle.std.proofs.Common.{◌≡◌, ◌++◌, take}
use Rattle.std.specs.Prelude.{map}
use Rattle.std.specs.List.{flat_map}
use Rattle.jl_pool.specs.Constants.{constant_text}
use Rattle.jl_sketch.specs.ForProofs.Entries.{constant_of}
use Rattle.jl_sketch.proofs.write.push_pool.Given as goal

abbrev pub invariant-loop-entry : goal.invariant-loop-entry
invariant-loop-entry l = l.out.items ≡ l.initial.out.items ++ flat_map constant_text (map constant_of (take l.entry-index l.entries))
