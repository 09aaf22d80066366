use Rattle.std.proofs.Common.{sym, ap, ◌∙◌, arith}
use Rattle.jl_types.specs.declared.link.TableKind.TheVariants.{Virtual}
use Rattle.jl_types.specs.Linkage.Links.{virtual_link}
use Rattle.jl_relink.specs.ForProofs.Rows.{rows_of, outcome_of}
use Rattle.jl_relink.proofs.RowLaws.{one_run, no_run}
use Rattle.jl_relink.proofs.CountLaws.{of_many}
use Rattle.jl_relink.proofs.link.virtual_link.Goals as goal

pub returns-in-Some-clause-link : goal.returns-in-Some-clause-link
returns-in-Some-clause-link c =
    sym (one_run (rows_of c.args.classes.now c.args.selection.now c.args.receivers.now) c.in-Some.method (sym c.in-Some.ensures.run))

pub returns-in-None-clause-link : goal.returns-in-None-clause-link
returns-in-None-clause-link c =
    sym
    (no_run (rows_of c.args.classes.now c.args.selection.now c.args.receivers.now) (sym c.in-None.ensures.run)
    ∙ of_many Virtual (λ x. (x, outcome_of c.args.classes.now c.args.selection.now x)) c.args.receivers.now (omega arith))

pub returns-clause-link : goal.returns-clause-link
returns-clause-link c =
    c.virtual_by_rows.ensures ∙ ap virtual_link (c.as_slice.ensures ∙ c.table_of-table.ensures.rows)
