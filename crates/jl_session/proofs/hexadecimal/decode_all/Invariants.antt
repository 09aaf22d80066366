use Rattle.jl_session.proofs.HexLaws.{AreDecoded}
use Rattle.jl_session.proofs.hexadecimal.decode_all.Given as goal

abbrev pub invariant-loop-index : goal.invariant-loop-index
invariant-loop-index l = AreDecoded l.digits l.bytes l.index l.seen
