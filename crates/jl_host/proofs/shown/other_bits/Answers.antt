use Rattle.std.proofs.Common.{arith}
use Rattle.jl_host.proofs.BitLaws.{had_back}
use Rattle.jl_host.proofs.shown.other_bits.Goals as goal

pub returns : goal.returns
returns c = had_back 0 _ _ _ (omega arith) c.requires (omega arith) (omega arith)
