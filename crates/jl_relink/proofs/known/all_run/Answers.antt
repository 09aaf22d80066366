use Rattle.std.specs.Prelude.{◌≡◌, ◌==◌, not, true, length}
use Rattle.std.proofs.Common.{rules, refl, ap, sym, ◌∙◌}
use Rattle.std.proofs.lemmas.Bool.{not-true}
use Rattle.jl_types.specs.declared.link.TableKind.{TableKind}
use Rattle.jl_types.specs.Values.Ancestry.{receivers}
use Rattle.jl_relink.specs.ForProofs.Rows.{rows_of, link_by_rows}
use Rattle.jl_relink.proofs.OneForAll.{one_for_all}
use Rattle.jl_relink.proofs.RowLaws.{one_run}
use Rattle.jl_relink.proofs.known.all_run.Goals as goal

pub returns-then-not-is_empty-clause-link : goal.returns-then-not-is_empty-clause-link
returns-then-not-is_empty-clause-link c told =
    let cs = c.args.classes.now in
    let s = c.args.selection.now in
    let xs = receivers cs s.named in
    let some : not (length xs == 0) ≡ true = search rules in
    ap (λ (k : TableKind). link_by_rows k (rows_of cs s xs)) (c.each_runs.ensures.kind told)
    ∙ one_run (rows_of cs s xs) s.method (sym (one_for_all cs s s.method (c.each_runs.ensures.run told) xs refl (not-true (length xs == 0) some)))
