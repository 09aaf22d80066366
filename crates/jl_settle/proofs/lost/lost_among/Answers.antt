use Rattle.std.specs.Prelude.{◌≡◌, ◌==◌, ◌&&◌, ◌||◌, ℕ, false, List, ◌++◌, ◌∷◌, [], take, ◌+◌}
use Rattle.std.proofs.Common.{sym, ap, ◌∙◌, arith}
use Rattle.std.proofs.lemmas.List.{take_more}
use Rattle.jl_hierarchy.proofs.Rising.{has}
use Rattle.jl_cache.specs.Links.{link_at}
use Rattle.jl_deps.proofs.PointLaws.{listed_more}
use Rattle.jl_settle.specs.Settling.{goes, MayBeAsked, most_asked}
use Rattle.std.proofs.lemmas.List.Sums.{sum_by-take-le}
use Rattle.jl_settle.proofs.SettleLaws.{all_rest, sum_more}
use Rattle.jl_settle.proofs.lost.lost_among.Goals as goal

pub is_lost-goes-requires-clause-fits : goal.is_lost-goes-requires-clause-fits
is_lost-goes-requires-clause-fits c =
    let f = most_asked c.args.world.now c.args.defined.now in
    let before = c.loop-site.invariant.ticks in
    let sum = sum_more f c.args.sites.now c.loop-site.site-index c.site-item.result c.loop-site-test.true c.site-item.is in
    let all = sum_by-take-le f c.args.sites.now (c.loop-site.site-index + 1) in
    let fits = c.requires.fits in
    omega (arith, before, sum, all, fits)

pub loop-site-preserved : goal.loop-site-preserved
loop-site-preserved c =
    let links = link_at c.args.links.now in
    let site = c.site-item.result in
    let front = take c.loop-site.site-index c.args.sites.now in
    let more : front ++ site ∷ [] ≡ take (c.loop-site.site-index + 1) c.args.sites.now =
    sym (take_more c.args.sites.now c.loop-site.site-index site c.loop-site-test.true ∙ ap (λ (n : ℕ). front ++ n ∷ []) (sym c.site-item.is)) in
    record {
      ticks = (let before = c.loop-site.invariant.ticks in
          let step = c.is_lost-goes.ensures.ticks in
          let sum = sum_more (most_asked c.args.world.now c.args.defined.now) c.args.sites.now c.loop-site.site-index site c.loop-site-test.true c.site-item.is
          in
          omega (arith, before, step, sum));
      left =
          all_rest (MayBeAsked c.args.world.now c.args.defined.now links c.args.index.now) c.args.sites.now c.loop-site.site-index
          c.loop-site.invariant.left;
      lost = λ s.
          listed_more (goes c.args.world.now links) (has s c.push_if.new.sites.items) (has s c.loop-site.lost.items) false front site s
          (c.in_ok-push_if.ensures s ∙ ap (λ b. has s c.loop-site.lost.items || ((site == s) && b)) c.is_lost-goes.ensures.lost)
          (c.loop-site.invariant.lost s)
          ∙ ap (λ (ts : List ℕ). has s ts && goes c.args.world.now links s) more;
    }
