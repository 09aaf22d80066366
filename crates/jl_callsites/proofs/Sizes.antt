-- No target is of no depth or without parts.
use Rattle.std.specs.Prelude.{◌<◌}
use Rattle.std.proofs.Common.{arith}
use Rattle.jl_types.specs.Values.Target.{Target, Method, Guard, Invoker, depth}
use Rattle.jl_types.specs.Linkage.Targets.{parts}

pub depth_some : (t : Target) → 0 < depth t
depth_some (Method m) = omega arith
depth_some (Guard p first fallback) = omega arith
depth_some (Invoker c) = omega arith

pub parts_some : (t : Target) → 0 < parts t
parts_some (Method m) = omega arith
parts_some (Guard p first fallback) = omega arith
parts_some (Invoker c) = omega arith
