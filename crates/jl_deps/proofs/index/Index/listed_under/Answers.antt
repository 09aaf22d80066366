use Rattle.std.specs.Prelude.{◌≡◌, ◌||◌, ◌++◌, ◌∷◌, ◌+◌, [], true, List, take}
use Rattle.std.proofs.Common.{ap, sym, ◌∙◌}
use Rattle.std.proofs.lemmas.List.{take_more}
use Rattle.jl_types.specs.declared.key.Key.{Key}
use Rattle.jl_types.specs.Events.Footprints.{meets}
use Rattle.jl_types.proofs.BySite.{rises_of}
use Rattle.jl_deps.specs.Indexes.{touched_by}
use Rattle.jl_deps.specs.Ways.{has}
use Rattle.jl_deps.proofs.TouchLaws.{all_touched, by_none, by_more}
use Rattle.jl_deps.proofs.index.Index.listed_under.Goals as goal

pub loop-key-init : goal.loop-key-init
loop-key-init c = λ s.
    let index = c.args.self.now in
    ap (has s) c.new-sites.ensures.items
    ∙ sym (by_none (λ f. true) (λ keys r. meets r.footprint keys) all_touched index (rises_of index c.len-count.ensures.rising) s)

pub loop-key-preserved : goal.loop-key-preserved
loop-key-preserved c = λ s.
    let index = c.args.self.now in
    let key = c.key-item.result in
    let front = take c.loop-key.key-index c.args.keys.now in
    let more : front ++ key ∷ [] ≡ take (c.loop-key.key-index + 1) c.args.keys.now =
    sym (take_more c.args.keys.now c.loop-key.key-index key c.loop-key-test.true ∙ ap (λ (j : Key). front ++ j ∷ []) (sym c.key-item.is)) in
    c.in_ok-push_listed.ensures s ∙ (λ i. c.loop-key.invariant s i || has s (touched_by index (key ∷ [])))
    ∙ sym (by_more (λ f. true) (λ keys r. meets r.footprint keys) all_touched index (rises_of index c.len-count.ensures.rising) front key s)
    ∙ ap (λ (ks : List Key). has s (touched_by index ks)) more
