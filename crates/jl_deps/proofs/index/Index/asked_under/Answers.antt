use Rattle.std.specs.Prelude.{◌≡◌, ◌||◌, ◌++◌, ◌∷◌, ◌+◌, [], true, List, take}
use Rattle.std.proofs.Common.{ap, sym, ◌∙◌, inl, inr}
use Rattle.std.proofs.lemmas.Bool.{both_ways, or_cases}
use Rattle.std.proofs.lemmas.List.{take_more}
use Rattle.jl_types.specs.declared.key.Key.{Key}
use Rattle.jl_types.specs.Events.Footprints.{meets}
use Rattle.jl_types.proofs.BySite.{rises_of}
use Rattle.jl_deps.specs.Indexes.{touched_by}
use Rattle.jl_deps.specs.Ways.{has}
use Rattle.jl_deps.proofs.AskedLaws.{still_asked}
use Rattle.jl_deps.proofs.ListLaws.{wider}
use Rattle.jl_deps.proofs.TouchLaws.{all_touched, by_none, by_more}
use Rattle.jl_deps.proofs.index.Index.asked_under.Goals as goal

pub loop-key-init : goal.loop-key-init
loop-key-init c =
    let index = c.args.self.now in
    record {
      touched = λ s h. absurd (both_ways (has s c.new-sites.result.items) (ap (has s) c.new-sites.ensures.items) h);
      all = λ s h.
          absurd (both_ways (has s (touched_by index []))
          (by_none (λ f. true) (λ keys r. meets r.footprint keys) all_touched index (rises_of index c.len-count.ensures.rising) s) h);
    }

pub loop-key-preserved : goal.loop-key-preserved
loop-key-preserved c =
    let index = c.args.self.now in
    let key = c.key-item.result in
    let front = take c.loop-key.key-index c.args.keys.now in
    let more : front ++ key ∷ [] ≡ take (c.loop-key.key-index + 1) c.args.keys.now =
    sym (take_more c.args.keys.now c.loop-key.key-index key c.loop-key-test.true ∙ ap (λ (j : Key). front ++ j ∷ []) (sym c.key-item.is)) in
    record {
      touched = λ s h.
          ap (λ (ks : List Key). has s (touched_by index ks)) (sym more)
          ∙ by_more (λ f. true) (λ keys r. meets r.footprint keys) all_touched index (rises_of index c.len-count.ensures.rising) front key s
          ∙ wider (has s c.loop-key.sites.items) (has s (touched_by index front)) (has s (touched_by index (key ∷ [])))
          (c.loop-key.invariant.touched s) (c.in_ok-push_asked.ensures.touched s h);
      all = λ s h.
          elim (or_cases (has s (touched_by index front)) (has s (touched_by index (key ∷ [])))
          (sym (by_more (λ f. true) (λ keys r. meets r.footprint keys) all_touched index (rises_of index c.len-count.ensures.rising) front key s)
          ∙ ap (λ (ks : List Key). has s (touched_by index ks)) more ∙ h)) [
            | inl before ↦ still_asked index c.loop-key.sites.items c.push_asked.new.sites.items c.in_ok-push_asked.ensures.kept s
                (c.loop-key.invariant.all s before)
            | inr here ↦ c.in_ok-push_asked.ensures.all s here
          ];
    }
