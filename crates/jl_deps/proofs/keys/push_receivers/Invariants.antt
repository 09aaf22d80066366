use Rattle.std.proofs.Common.{◌≡◌, ◌++◌, map, take}
use Rattle.jl_types.specs.declared.key.Key.TheVariants as key
use Rattle.jl_deps.proofs.keys.push_receivers.Given as goal

-- those so far are added
abbrev pub invariant-loop-class : goal.invariant-loop-class
invariant-loop-class l = l.keys.items ≡ l.fn.keys.items ++ map key.Receivers (take l.class-index l.classes)
