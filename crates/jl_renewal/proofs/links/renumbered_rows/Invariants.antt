use Rattle.std.proofs.Common.{◌≡◌, map, take}
use Rattle.jl_renewal.specs.Renewed.{renumbered_row}
use Rattle.jl_renewal.proofs.links.renumbered_rows.Given as goal

abbrev pub invariant-loop-row : goal.invariant-loop-row
invariant-loop-row l = l.table ≡ map (renumbered_row l.numbers) (take l.row-index l.rows)
