use Rattle.std.proofs.Common.{◌≡◌, ◌++◌, take, drop, map}
use Rattle.jl_host.specs.Showing.{shown}
use Rattle.jl_host.proofs.view.write_links.Given as goal

-- the first ones stand at the front
abbrev pub invariant-loop-place : goal.invariant-loop-place
invariant-loop-place l = l.links ≡ map (λ row. shown row.1) (take l.place l.rows) ++ drop l.place l.fn.links
