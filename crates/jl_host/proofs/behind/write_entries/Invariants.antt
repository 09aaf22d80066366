use Rattle.std.proofs.Common.{take}
use Rattle.jl_host.specs.ForProofs.Behind.{touched_by}
use Rattle.jl_host.proofs.BehindLaws.{IsWritten}
use Rattle.jl_host.proofs.behind.write_entries.Given as goal

abbrev pub invariant-loop-entry : goal.invariant-loop-entry
invariant-loop-entry l = IsWritten l.core touched_by (take l.entry-index l.entries) l.fn.links.value l.links.value
