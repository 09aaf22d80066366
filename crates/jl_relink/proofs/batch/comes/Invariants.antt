use Rattle.std.specs.Prelude.{◌==◌}
use Rattle.std.specs.List.{list_any}
use Rattle.std.proofs.Common.{◌≡◌, drop}
use Rattle.jl_relink.proofs.batch.comes.Given as goal

-- whether it comes hangs on the rows that are left
abbrev pub invariant-loop-row : goal.invariant-loop-row
invariant-loop-row g l =
    list_any (λ row. g.R.Row.site_of row == l.site) (drop l.row-index l.rows)
    ≡ list_any (λ row. g.R.Row.site_of row == l.site) l.rows
