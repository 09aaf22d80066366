use Rattle.std.proofs.Common.{length}
use Rattle.jl_code.proofs.KeptLaws.{KeptSoFar}
use Rattle.jl_code.proofs.code.scan_onto.Given as goal

abbrev pub invariant-loop-rest : goal.invariant-loop-rest
invariant-loop-rest l = KeptSoFar l.pool l.code l.rest l.fn.sites.items l.sites.items

abbrev pub decreases-loop-rest : goal.decreases-loop-rest
decreases-loop-rest l = length l.rest
