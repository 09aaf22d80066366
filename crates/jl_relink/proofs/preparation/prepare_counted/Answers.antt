use Rattle.std.specs.Prelude.{◌≡◌, ◌≤◌, ◌^◌, ℕ, length}
use Rattle.std.proofs.Common.{refl, sym, subst, ◌∙◌, arith, inl}
use Rattle.std.proofs.lemmas.Result.{err_from_is_err_and}
use Rattle.jl_types.specs.Values.World.{World}
use Rattle.jl_types.specs.Events.Preparation.{ArePrepared}
use Rattle.jl_relink.proofs.BatchLaws.{all_ready}
use Rattle.jl_relink.proofs.WorkCounts.{rows_fit, most_of_prepared}
use Rattle.jl_relink.proofs.preparation.prepare_counted.Goals.{After-of}
use Rattle.jl_relink.proofs.preparation.prepare_counted.Goals as goal

pub push_rows-requires : goal.push_rows-requires
push_rows-requires c =
    let few = subst (λ (w : World). length w.classes.rows ≤ 2 ^ 20) c.world.view_is c.count_in_order-classes.ensures.few in
    let fit = rows_fit (λ (s : ℕ). s) c.args.world.now few c.args.sites.now c.in_ok-rows.ensures.few in
    let none = c.requires in
    record { empty = c.in_ok-rows.ensures.empty; room = c.in_ok-rows.ensures.room; fits = omega arith }

rows_are : (c : After-of) → ArePrepared c.args.world.now c.args.sites.now c.of.result
rows_are c = subst (ArePrepared c.args.world.now c.args.sites.now) (sym c.of.ensures) c.in_ok-push_rows.ensures.rows

pub returns-clause-prepared : goal.returns-clause-prepared
returns-clause-prepared c = record {
  accepted = c.in_ok-rows.ensures.checked ∙ all_ready c.args.world.now c.args.sites.now c.of.result (rows_are c);
  rows = rows_are c;
  serial = refl;
}

pub returns-clause-ticks : goal.returns-clause-ticks
returns-clause-ticks c =
    let none = c.requires in
    let ticks = c.push_rows.ensures.ticks in
    let same = most_of_prepared c.args.world.now c.args.sites.now c.of.result (rows_are c) in
    omega arith

pub returns-clause-small : goal.returns-clause-small
returns-clause-small c =
    let few = subst (λ (w : World). length w.classes.rows ≤ 2 ^ 20) c.world.view_is c.count_in_order-classes.ensures.few in
    let fit = rows_fit (λ (s : ℕ). s) c.args.world.now few c.args.sites.now c.in_ok-rows.ensures.few in
    let none = c.requires in
    let ticks = c.push_rows.ensures.ticks in
    omega arith

pub returns-in_err-push_rows-clause-prepared : goal.returns-in_err-push_rows-clause-prepared
returns-in_err-push_rows-clause-prepared c =
    let p = err_from_is_err_and c.from_residual-in_err-push_rows.result c.from_residual-in_err-push_rows.ensures.1 in
    rw (p.1, p.2) (inl (c.in_ok-rows.ensures.checked ∙ c.in_err-push_rows.ensures.unready))

pub returns-in_err-push_rows-clause-small : goal.returns-in_err-push_rows-clause-small
returns-in_err-push_rows-clause-small c =
    let few = subst (λ (w : World). length w.classes.rows ≤ 2 ^ 20) c.world.view_is c.count_in_order-classes.ensures.few in
    let fit = rows_fit (λ (s : ℕ). s) c.args.world.now few c.args.sites.now c.in_ok-rows.ensures.few in
    let none = c.requires in
    let ticks = c.push_rows.ensures.ticks in
    omega arith
