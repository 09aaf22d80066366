use Rattle.std.proofs.Common.{◌≡◌}
use Rattle.jl_renewal.proofs.HeldLaws.{guarded_from}
use Rattle.jl_renewal.proofs.stays.keep_guards.Given as goal

-- what is left sets of these what all sets of the first ones
abbrev pub invariant-loop-number : goal.invariant-loop-number
invariant-loop-number l = guarded_from l.stays l.sites.call_sites l.number l.kept ≡ guarded_from l.stays l.sites.call_sites 0 l.fn.kept
