use Rattle.std.proofs.Common.{ℕ, ◌+◌, arith, length, length-append, get_or, option_map, Some, sym, ap, ◌∙◌, ◌∷◌, [], subst}
use Rattle.jl_types.specs.declared.answer.Outcome.{Outcome}
use Rattle.jl_host.specs.Reading.{entry_of}
use Rattle.jl_host.specs.Showing.{no_row}
use Rattle.jl_host.proofs.ReadingLaws.{AreSoFar, one_more, one_is_none, all_made}
use Rattle.jl_host.proofs.reading.entries_of.Goals as goal

pub returns-in_default : goal.returns-in_default
returns-in_default c =
    let row = get_or c.args.rows.now c.loop-row.row-index no_row in
    one_is_none entry_of c.args.rows.now c.loop-row.row-index no_row c.loop-row.table c.loop-row-test.true
    (ap (option_map (λ o. (row.receiver, o))) (sym c.outcome_of.ensures ∙ c.in_default.is)) c.loop-row.invariant.read

pub loop-row-preserved : goal.loop-row-preserved
loop-row-preserved c =
    let row = get_or c.args.rows.now c.loop-row.row-index no_row in
    let entry : ℕ × Outcome = (c.new.result, c.in-Some.outcome) in
    let few = c.loop-row.invariant.few in
    let long = ap length c.push.ensures ∙ length-append c.loop-row.table (entry ∷ []) in
    record {
      read =
          subst (AreSoFar entry_of c.args.rows.now (c.loop-row.row-index + 1)) (sym c.push.ensures)
          (one_more entry_of c.args.rows.now c.loop-row.row-index no_row c.loop-row.table c.loop-row-test.true entry
          (ap (option_map (λ o. (row.receiver, o))) (sym c.outcome_of.ensures ∙ c.in-Some.is) ∙ ap (λ (n : ℕ). Some (n, c.in-Some.outcome)) (sym c.new.ensures))
          c.loop-row.invariant.read);
      few = omega (arith, few, long);
    }

pub returns : goal.returns
returns c = all_made entry_of c.args.rows.now c.loop-row.row-index c.loop-row.table c.loop-row-test.false c.loop-row.invariant.read
