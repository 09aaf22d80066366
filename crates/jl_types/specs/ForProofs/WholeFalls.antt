-- The parts of a target are less deep than it.
use Rattle.std.specs.Prelude.{◌≤◌, max}
use Rattle.std.proofs.Common.{arith}
use Rattle.jl_types.specs.declared.target.Part.{Part}
use Rattle.jl_types.specs.declared.target.Part.TheVariants as part
use Rattle.jl_types.specs.declared.target.Target.TheDeep.{deep-Part}
use Rattle.jl_types.specs.Values.Target.{depth}
use Rattle.jl_types.specs.ForProofs.Whole.{whole}

pub part_le_depth : (p : Part) → max (deep-Part p) 0 ≤ depth (whole p)
part_le_depth (part.Method m) = omega arith
part_le_depth (part.Guard p first fallback) = omega arith
part_le_depth (part.Invoker c) = omega arith
