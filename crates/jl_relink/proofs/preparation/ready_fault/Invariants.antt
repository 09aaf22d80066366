use Rattle.std.proofs.Common.{◌≡◌, drop}
use Rattle.jl_types.specs.Events.Preparation.{ready_fault}
use Rattle.jl_relink.proofs.preparation.ready_fault.Given as goal

-- the sites so far have links
abbrev pub invariant-loop-site : goal.invariant-loop-site
invariant-loop-site l = ready_fault l.world (drop l.site-index l.sites) ≡ ready_fault l.world l.sites
