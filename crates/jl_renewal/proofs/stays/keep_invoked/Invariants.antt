use Rattle.std.proofs.Common.{◌≡◌, false, get_or}
use Rattle.jl_renewal.proofs.HeldLaws.{stays_after}
use Rattle.jl_renewal.proofs.stays.keep_invoked.Given as goal

-- from here on it is known which stay
abbrev pub invariant-loop-number : goal.invariant-loop-number
invariant-loop-number l = l.stays ≡ stays_after (λ c. get_or l.fn.stays c false) l.sites.call_sites l.number
