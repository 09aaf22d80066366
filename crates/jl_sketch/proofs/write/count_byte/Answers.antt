use Rattle.std.proofs.Common.{Some, None}
use Rattle.jl_sketch.proofs.CountLaws.{counted_byte}
use Rattle.jl_sketch.proofs.write.count_byte.Goals as goal

pub returns-in-Some : goal.returns-in-Some
returns-in-Some c = counted_byte c.args.ty.now (Some c.in-Some.slots) c.in-Some.ensures

pub returns-in-None : goal.returns-in-None
returns-in-None c = counted_byte c.args.ty.now None c.in-None.ensures
