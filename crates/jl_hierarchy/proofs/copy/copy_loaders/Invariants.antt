use Rattle.std.proofs.Common.{◌≡◌, take}
use Rattle.jl_hierarchy.proofs.copy.copy_loaders.Given as goal

-- those so far are made
abbrev pub invariant-loop-loader : goal.invariant-loop-loader
invariant-loop-loader l = l.made.items ≡ take l.loader-index l.loaders
