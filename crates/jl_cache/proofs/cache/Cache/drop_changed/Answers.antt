use Rattle.std.specs.Prelude.{◌==◌, ℕ, List, ◌∷◌, [], ◌++◌, take, None, if◌then◌else◌}
use Rattle.std.specs.List.{list_any}
use Rattle.std.proofs.Common.{sym, ap, ◌∙◌, arith}
use Rattle.std.proofs.lemmas.List.{take_more}
use Rattle.jl_cache.specs.Links.{link_at}
use Rattle.jl_cache.proofs.LinkLaws.{gone_more}
use Rattle.jl_cache.proofs.cache.Cache.drop_changed.Goals as goal

pub loop-site-preserved : goal.loop-site-preserved
loop-site-preserved c =
    let site = c.site-item.result in
    let front = take c.loop-site.site-index c.args.sites.now in
    let fewer = c.remove.ensures.few in
    let few = c.loop-site.invariant.few in
    record {
      links = λ s.
          c.remove.ensures.left s
          ∙ (λ i. if c.place_of.ensures.place i == s then None else c.loop-site.invariant.links s i)
          ∙ gone_more front site (link_at c.args.self.now s) s
          ∙ ap (λ (sites : List ℕ). if list_any (λ n. n == s) sites then None else link_at c.args.self.now s)
          (sym (take_more c.args.sites.now c.loop-site.site-index site c.loop-site-test.true ∙ ap (λ (n : ℕ). front ++ n ∷ []) (sym c.site-item.is)));
      few = omega (arith, fewer, few);
    }
