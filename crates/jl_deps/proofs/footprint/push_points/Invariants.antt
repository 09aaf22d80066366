use Rattle.std.proofs.Common.{◌≡◌, ◌++◌, map, take}
use Rattle.jl_types.specs.declared.key.Key.TheVariants as key
use Rattle.jl_deps.proofs.footprint.push_points.Given as goal

abbrev pub invariant-loop-point : goal.invariant-loop-point
invariant-loop-point l = l.keys.items ≡ l.fn.keys.items ++ map key.Valid (take l.point-index l.points)
