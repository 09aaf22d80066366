use Rattle.std.proofs.Common.{◌≡◌, take}
use Rattle.jl_renewal.specs.Renewal.{fresh_rows}
use Rattle.jl_renewal.proofs.links.fresh_links.Given as goal

abbrev pub invariant-loop-one : goal.invariant-loop-one
invariant-loop-one l = l.rows.items ≡ fresh_rows l.fresh l.numbers (take l.one-index l.linked)
