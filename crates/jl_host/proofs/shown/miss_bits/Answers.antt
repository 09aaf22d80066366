use Rattle.std.proofs.Common.{arith}
use Rattle.jl_host.proofs.BitLaws.{had_back}
use Rattle.jl_host.proofs.shown.miss_bits.Goals as goal

pub returns : goal.returns
returns c = had_back 0 0 4 _ (omega arith) (omega arith) (omega arith) (omega arith)
