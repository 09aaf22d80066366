use Rattle.std.proofs.Common.{◌≡◌, ◌++◌, take, drop, map}
use Rattle.jl_types.specs.Events.History.{installed}
use Rattle.jl_core.specs.State.{events}
use Rattle.jl_host.specs.Showing.{link_shown}
use Rattle.jl_host.proofs.ready.show_links.Given as goal

-- the first ones stand at the front
abbrev pub invariant-loop-place : goal.invariant-loop-place
invariant-loop-place l = l.links ≡ map (λ s. link_shown (installed (events l.core) s)) (take l.place l.sites) ++ drop l.place l.fn.links
