use Rattle.std.specs.Prelude.{◌≡◌, ◌==◌, ◌&&◌, ◌||◌, ℕ, false, List, ◌++◌, ◌∷◌, [], take, ◌+◌, Option, is_some}
use Rattle.std.proofs.Common.{sym, ap, ◌∙◌}
use Rattle.std.proofs.lemmas.List.{take_more}
use Rattle.jl_types.specs.declared.link.Link.{Link}
use Rattle.jl_hierarchy.proofs.Rising.{has}
use Rattle.jl_cache.specs.Links.{link_at}
use Rattle.jl_deps.proofs.PointLaws.{listed_more}
use Rattle.jl_settle.proofs.forgetting.linked_among.Goals as goal

pub loop-site-preserved : goal.loop-site-preserved
loop-site-preserved c = λ s.
    let links = link_at c.args.links.now in
    let site = c.site-item.result in
    let front = take c.loop-site.site-index c.args.sites.now in
    let more : front ++ site ∷ [] ≡ take (c.loop-site.site-index + 1) c.args.sites.now =
    sym (take_more c.args.sites.now c.loop-site.site-index site c.loop-site-test.true ∙ ap (λ (n : ℕ). front ++ n ∷ []) (sym c.site-item.is)) in
    listed_more (λ n. is_some (link_at c.args.links.now n)) (has s c.push_if.new.sites.items) (has s c.loop-site.linked.items) false front site s
    (c.in_ok-push_if.ensures s
    ∙ ap (λ b. has s c.loop-site.linked.items || ((site == s) && b)) (c.is_some-has_link.ensures ∙ ap (λ (o : Option Link). is_some o) c.get.ensures.link))
    (c.loop-site.invariant s)
    ∙ ap (λ (ts : List ℕ). has s ts && is_some (link_at c.args.links.now s)) more
