use Rattle.std.proofs.Common.{take, ◌==◌}
use Rattle.jl_host.proofs.BehindLaws.{IsWritten}
use Rattle.jl_host.proofs.behind.write_sites.Given as goal

abbrev pub invariant-loop-site : goal.invariant-loop-site
invariant-loop-site l = IsWritten l.core (λ s k. k == s) (take l.site-index l.sites) l.fn.links.value l.links.value
