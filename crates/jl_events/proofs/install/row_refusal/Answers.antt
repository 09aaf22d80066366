use Rattle.std.specs.Prelude.{◌≡◌, ◌≤◌, ◌+◌, ℕ, List, drop}
use Rattle.std.proofs.Common.{sym, ap, ◌∙◌, arith}
use Rattle.std.proofs.lemmas.Bool.{not-true, not-false}
use Rattle.jl_types.specs.declared.link.Link.{Link}
use Rattle.jl_types.specs.Linkage.Resolution.{first_of}
use Rattle.jl_types.specs.Linkage.Links.{same_link}
use Rattle.jl_types.specs.Events.Footprints as footprints
use Rattle.std.proofs.lemmas.List.Sums.{sum_by-cons}
use Rattle.jl_types.proofs.Lists.{rest_at}
use Rattle.jl_events.specs.Judging.{row_faults, most_of_rows}
use Rattle.jl_events.proofs.InstallLaws.{stale_row, good_row}
use Rattle.jl_events.proofs.install.row_refusal.Goals as goal

pub returns-then-ne-clause-refusal : goal.returns-then-ne-clause-refusal
returns-then-ne-clause-refusal c =
    let row = c.row-item.result in
    sym
    (stale_row c.args.world.now row (drop (c.loop-row.row-index + 1) c.args.rows.now) c.in-Ok.present (sym c.in-Ok.ensures.link)
    (not-true (same_link c.in-Ok.present row.1) (sym c.ne.ensures ∙ c.if-ne.true)))
    ∙ ap (λ (rows : List (ℕ × Link)). first_of (row_faults c.args.world.now rows))
    (sym (rest_at c.args.rows.now c.loop-row.row-index row c.loop-row-test.true c.row-item.is))
    ∙ c.loop-row.invariant.left

-- the count of one row and of those after it
counted : (here rest work next last first all : ℕ) → next ≤ work + here → work + last ≤ first + all → last ≡ here + rest → next + rest ≤ first + all
counted here rest work next last first all step before split = omega arith

pub loop-row-preserved : goal.loop-row-preserved
loop-row-preserved c =
    let row = c.row-item.result in
    let w = c.args.world.now in
    let rest = drop (c.loop-row.row-index + 1) c.args.rows.now in
    record {
      left =
          sym
          (good_row w row rest c.in-Ok.present (sym c.in-Ok.ensures.link)
          (not-false (same_link c.in-Ok.present row.1) (sym c.ne.ensures ∙ c.if-ne.false)))
          ∙ ap (λ (rows : List (ℕ × Link)). first_of (row_faults w rows))
          (sym (rest_at c.args.rows.now c.loop-row.row-index row c.loop-row-test.true c.row-item.is))
          ∙ c.loop-row.invariant.left;
      ticks =
          counted (footprints.most_for w row.0) (most_of_rows w rest) c.loop-row.work c.link_counted.new.work
          (most_of_rows w (drop c.loop-row.row-index c.args.rows.now)) c.args.work.now (most_of_rows w c.args.rows.now)
          c.in-Ok.ensures.ticks c.loop-row.invariant.ticks
          (ap (most_of_rows w) (rest_at c.args.rows.now c.loop-row.row-index row c.loop-row-test.true c.row-item.is)
          ∙ sum_by-cons (λ (r : ℕ × Link). footprints.most_for w r.0) row rest);
    }
