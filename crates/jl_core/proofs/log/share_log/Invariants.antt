use Rattle.std.proofs.Common.{◌≡◌, take}
use Rattle.jl_core.proofs.log.share_log.Given as goal

-- those so far are made
abbrev pub invariant-loop-entry : goal.invariant-loop-entry
invariant-loop-entry l = l.copy.items ≡ take l.entry-index l.log
