use Rattle.std.proofs.Common.{◌≡◌, take}
use Rattle.jl_renewal.specs.Renewed.{renumbered_links}
use Rattle.jl_renewal.proofs.links.renumbered_links.Given as goal

abbrev pub invariant-loop-one : goal.invariant-loop-one
invariant-loop-one l = l.rows.items ≡ renumbered_links l.numbers (take l.one-index l.linked)
