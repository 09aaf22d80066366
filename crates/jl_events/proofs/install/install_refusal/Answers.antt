use Rattle.std.specs.Prelude.{◌≤◌, ◌^◌, ℕ, length}
use Rattle.std.proofs.Common.{sym, subst, ◌∙◌, arith}
use Rattle.jl_types.specs.declared.link.Link.{Link}
use Rattle.jl_types.specs.Values.World.{World}
use Rattle.jl_relink.proofs.WorkCounts.{rows_fit}
use Rattle.jl_events.proofs.install.install_refusal.Goals as goal

pub row_refusal-requires : goal.row_refusal-requires
row_refusal-requires c =
    let few = subst (λ (w : World). length w.classes.rows ≤ 2 ^ 20) c.world.view_is c.count_in_order-classes.ensures.few in
    let fit = rows_fit (λ (row : ℕ × Link). row.0) c.args.world.now few c.args.rows.now (sym c.is_bad_size.ensures ∙ c.if-is_bad_size.false) in
    let start = c.requires in
    record { fits = omega arith }

pub returns-clause-small : goal.returns-clause-small
returns-clause-small c =
    let few = subst (λ (w : World). length w.classes.rows ≤ 2 ^ 20) c.world.view_is c.count_in_order-classes.ensures.few in
    let fit = rows_fit (λ (row : ℕ × Link). row.0) c.args.world.now few c.args.rows.now (sym c.is_bad_size.ensures ∙ c.if-is_bad_size.false) in
    let start = c.requires in
    let ticks = c.row_refusal.ensures.ticks in
    omega arith
