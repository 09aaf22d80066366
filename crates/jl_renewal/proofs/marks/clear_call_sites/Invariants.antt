use Rattle.std.proofs.Common.{◌≡◌, drop}
use Rattle.jl_renewal.specs.Staying.{is_among}
use Rattle.jl_renewal.specs.Marks.{cleared}
use Rattle.jl_renewal.proofs.marks.clear_call_sites.Given as goal

-- what is left takes back of these what all takes back of the first ones
abbrev pub invariant-loop-site : goal.invariant-loop-site
invariant-loop-site l = cleared (is_among (drop l.site-index l.call_sites)) l.flags ≡ cleared (is_among l.call_sites) l.fn.flags
