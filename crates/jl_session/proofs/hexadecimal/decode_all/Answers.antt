use Rattle.std.proofs.Common.{arith}
use Rattle.jl_session.proofs.HexLaws.{decoded_more, all_decoded}
use Rattle.jl_session.proofs.hexadecimal.decode_all.Goals as goal

pub loop-index-preserved : goal.loop-index-preserved
loop-index-preserved c =
    decoded_more c.args.digits.now c.loop-index.bytes c.loop-index.index c.loop-index.seen _ _ (omega arith) (omega arith)
    c.loop-index.invariant c.digit-high.ensures c.digit-low.ensures

pub returns : goal.returns
returns c =
    all_decoded c.args.digits.now c.loop-index.bytes c.loop-index.index c.loop-index.seen (omega arith) (omega arith)
    c.loop-index.invariant
