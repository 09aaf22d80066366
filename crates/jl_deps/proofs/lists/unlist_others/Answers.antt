use Rattle.std.specs.Prelude.{◌==◌, ◌&&◌, ◌≡◌, ◌++◌, ◌∷◌, ◌+◌, [], not, List, take}
use Rattle.std.proofs.Common.{sym, ap, ◌∙◌}
use Rattle.std.proofs.lemmas.List.{take_more}
use Rattle.jl_types.specs.declared.key.Key.{Key}
use Rattle.jl_types.specs.Events.Footprints.{has_key}
use Rattle.jl_deps.specs.Indexes.{form_eq}
use Rattle.jl_deps.specs.ForProofs.Lists.{listed}
use Rattle.jl_deps.proofs.KeyLists.{gone_more, stays_more}
use Rattle.jl_deps.proofs.lists.unlist_others.Goals.{then-not-is_among, else-not-is_among}
use Rattle.jl_deps.proofs.lists.unlist_others.Goals as goal

pub loop-key-preserved : goal.loop-key-preserved
loop-key-preserved c = λ k f s.
    let key = c.key-item.result in
    let front = take c.loop-key.key-index c.args.gone.now in
    let kept = c.args.kept.now in
    let old = listed c.args.lists.now k f s in
    let now = listed c.loop-key.lists k f s in
    let more : front ++ key ∷ [] ≡ take (c.loop-key.key-index + 1) c.args.gone.now =
    sym (take_more c.args.gone.now c.loop-key.key-index key c.loop-key-test.true ∙ ap (λ (j : Key). front ++ j ∷ []) (sym c.key-item.is)) in
    elim c.if-not-is_among.branch [
      | then-not-is_among w ↦
          ap (λ ls. listed ls k f s) w.lists-is
          ∙ gone_more kept front key k ((c.args.site == s) && form_eq c.args.form.now f) (listed w.unlist.new.lists k f s) now old
          (sym c.is_among.ensures ∙ w.if-not-is_among.true)
          (w.unlist.ensures k f s) (c.loop-key.invariant k f s)
      | else-not-is_among w ↦
          ap (λ ls. listed ls k f s) w.lists-is
          ∙ stays_more kept front key k ((c.args.site == s) && form_eq c.args.form.now f) now old
          (sym c.is_among.ensures ∙ w.if-not-is_among.false) (c.loop-key.invariant k f s)
    ]
    ∙ ap (λ (ks : List Key). not (((c.args.site == s) && form_eq c.args.form.now f) && (has_key ks k && not (has_key kept k))) && old) more
