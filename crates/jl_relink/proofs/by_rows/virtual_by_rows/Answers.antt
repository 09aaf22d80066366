use Rattle.std.proofs.Common.{sym, ◌∙◌}
use Rattle.jl_relink.proofs.RowLaws.{one_run, no_run}
use Rattle.jl_relink.proofs.by_rows.virtual_by_rows.Goals as goal

pub returns-in-Some : goal.returns-in-Some
returns-in-Some c = sym (one_run c.args.rows.now c.in-Some.method (sym c.in-Some.ensures))

pub returns-in-None : goal.returns-in-None
returns-in-None c = c.table_or_mega.ensures ∙ sym (no_run c.args.rows.now (sym c.in-None.ensures))
