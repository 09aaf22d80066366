use Rattle.std.proofs.Common.{length}
use Rattle.jl_code.specs.ForProofs.Plain.{IsAfterPlain}
use Rattle.jl_code.proofs.plain.after_plain.Given as goal

abbrev pub invariant-loop-later : goal.invariant-loop-later
invariant-loop-later l = IsAfterPlain l.fn.bytes l.rest

abbrev pub decreases-loop-later : goal.decreases-loop-later
decreases-loop-later l = length l.rest
