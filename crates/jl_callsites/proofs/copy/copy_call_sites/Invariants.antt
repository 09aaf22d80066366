use Rattle.std.proofs.Common.{◌≡◌, take}
use Rattle.jl_callsites.proofs.copy.copy_call_sites.Given as goal

-- those so far are made
abbrev pub invariant-loop-row : goal.invariant-loop-row
invariant-loop-row l = l.made.items ≡ take l.row-index l.call_sites
