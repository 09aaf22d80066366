use Rattle.std.specs.Prelude.{◌≡◌, ◌==◌, ◌&&◌, ◌||◌, ◌++◌, ◌∷◌, ◌+◌, [], List, take}
use Rattle.std.proofs.Common.{sym, ap, ◌∙◌}
use Rattle.std.proofs.lemmas.List.{take_more}
use Rattle.jl_types.specs.declared.key.Key.{Key}
use Rattle.jl_types.specs.Events.Footprints.{has_key}
use Rattle.jl_deps.specs.Indexes.{form_eq}
use Rattle.jl_deps.specs.ForProofs.Lists.{listed}
use Rattle.jl_deps.proofs.KeyLists.{all_more, others_listed}
use Rattle.jl_deps.proofs.lists.list_all.Goals as goal

pub returns-in_err-list-clause-others : goal.returns-in_err-list-clause-others
returns-in_err-list-clause-others c = λ k f s h.
    c.in_err-list.ensures.err k f s
    ∙ others_listed c.args.keys.now c.loop-key.key-index k ((c.args.site == s) && form_eq c.args.form.now f)
    (listed c.loop-key.lists k f s) (listed c.args.lists.now k f s)
    (c.loop-key.invariant k f s) h

pub loop-key-preserved : goal.loop-key-preserved
loop-key-preserved c = λ k f s.
    let key = c.key-item.result in
    let front = take c.loop-key.key-index c.args.keys.now in
    let old = listed c.args.lists.now k f s in
    let b = (c.args.site == s) && form_eq c.args.form.now f in
    let more : front ++ key ∷ [] ≡ take (c.loop-key.key-index + 1) c.args.keys.now =
    sym (take_more c.args.keys.now c.loop-key.key-index key c.loop-key-test.true ∙ ap (λ (j : Key). front ++ j ∷ []) (sym c.key-item.is)) in
    all_more front key k b (listed c.list.new.lists k f s) (listed c.loop-key.lists k f s) old (c.in_ok-list.ensures.ok k f s)
    (c.loop-key.invariant k f s)
    ∙ ap (λ (ks : List Key). (b && has_key ks k) || old) more
