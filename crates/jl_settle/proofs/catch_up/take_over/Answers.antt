use Rattle.std.specs.Prelude.{◌≡◌, ◌==◌, ℕ, List, ◌++◌, ◌∷◌, [], ◌+◌, take, Option, if◌then◌else◌}
use Rattle.std.proofs.Common.{sym, ap, ◌∙◌}
use Rattle.std.proofs.lemmas.List.{take_more}
use Rattle.jl_hierarchy.proofs.Rising.{has}
use Rattle.jl_cache.specs.Links.{link_at}
use Rattle.jl_deps.specs.declared.form.Rests.{Rests}
use Rattle.jl_deps.specs.Indexes.{rests_at}
use Rattle.jl_settle.proofs.SettleLaws.{one_more_at}
use Rattle.jl_settle.proofs.catch_up.take_over.Goals as goal

pub loop-site-preserved : goal.loop-site-preserved
loop-site-preserved c =
    let site = c.site-item.result in
    let front = take c.loop-site.site-index c.args.sites.now in
    let more : front ++ site ∷ [] ≡ take (c.loop-site.site-index + 1) c.args.sites.now =
    sym (take_more c.args.sites.now c.loop-site.site-index site c.loop-site-test.true ∙ ap (λ (n : ℕ). front ++ n ∷ []) (sym c.site-item.is)) in
    record {
      links = λ s.
          one_more_at (link_at c.args.links_ahead.now) (link_at c.take_link.new.links s) (link_at c.loop-site.links s) (link_at c.args.links.now s)
          front site s (c.in_ok-take_link.ensures s) (c.loop-site.invariant.links s)
          ∙ ap (λ (ts : List ℕ). if has s ts then link_at c.args.links_ahead.now s else link_at c.args.links.now s) more;
      index = λ s.
          one_more_at (rests_at c.args.index_ahead.now) (rests_at c.take_rests.new.index s) (rests_at c.loop-site.index s)
          (rests_at c.args.index.now s) front site s
          (c.in_ok-take_rests.ensures s
          ∙ ap (λ (o : Option Rests). if site == s then o else rests_at c.loop-site.index s) c.rests.ensures)
          (c.loop-site.invariant.index s)
          ∙ ap (λ (ts : List ℕ). if has s ts then rests_at c.args.index_ahead.now s else rests_at c.args.index.now s) more;
    }
