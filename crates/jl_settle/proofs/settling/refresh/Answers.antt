use Rattle.std.specs.Prelude.{◌≡◌, ℕ, List, ◌++◌, ◌∷◌, [], ◌+◌, take, if◌then◌else◌}
use Rattle.std.proofs.Common.{sym, ap, ◌∙◌}
use Rattle.std.proofs.lemmas.List.{take_more}
use Rattle.jl_hierarchy.proofs.Rising.{has}
use Rattle.jl_cache.specs.Links.{link_at}
use Rattle.jl_deps.specs.Indexes.{rests_at, rests_if}
use Rattle.jl_settle.proofs.SettleLaws.{one_more_at}
use Rattle.jl_settle.proofs.settling.refresh.Goals as goal

pub loop-site-preserved : goal.loop-site-preserved
loop-site-preserved c = λ s.
    let site = c.site-item.result in
    let front = take c.loop-site.site-index c.args.sites.now in
    let more : front ++ site ∷ [] ≡ take (c.loop-site.site-index + 1) c.args.sites.now =
    sym (take_more c.args.sites.now c.loop-site.site-index site c.loop-site-test.true ∙ ap (λ (n : ℕ). front ++ n ∷ []) (sym c.site-item.is)) in
    one_more_at (λ (n : ℕ). rests_if c.args.world.now n (link_at c.args.links.now n)) (rests_at c.refresh_site.new.index s)
    (rests_at c.loop-site.index s) (rests_at c.args.index.now s)
    front site s (c.in_ok-refresh_site.ensures s) (c.loop-site.invariant s)
    ∙ ap (λ (ts : List ℕ). if has s ts then rests_if c.args.world.now s (link_at c.args.links.now s) else rests_at c.args.index.now s)
    more
