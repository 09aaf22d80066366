use Rattle.std.proofs.Common.{arith}
use Rattle.jl_code.proofs.PlainLaws.{entry_of}
use Rattle.jl_code.proofs.plain.plain_length.Goals as goal

pub returns : goal.returns
returns c = rw c.from.ensures (entry_of c.args.opcode (omega arith))
