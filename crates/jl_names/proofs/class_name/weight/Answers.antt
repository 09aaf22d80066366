use Rattle.std.proofs.Common.{arith}
use Rattle.jl_names.proofs.StopLaws.{weight_of}
use Rattle.jl_names.proofs.class_name.weight.Goals as goal

pub returns : goal.returns
returns c = rw c.from.ensures (weight_of c.args.byte (omega arith))
