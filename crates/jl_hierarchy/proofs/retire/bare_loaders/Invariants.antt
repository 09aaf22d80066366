use Rattle.std.specs.Prelude.{◌≡◌, [], replicate}
use Rattle.jl_hierarchy.proofs.retire.bare_loaders.Given as goal

abbrev pub invariant-loop : goal.invariant-loop
invariant-loop l = l.bare.items ≡ replicate l.counter []
