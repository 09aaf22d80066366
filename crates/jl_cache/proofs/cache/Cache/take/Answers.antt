use Rattle.std.specs.Prelude.{◌≡◌, ◌==◌, Some, None, if◌then◌else◌}
use Rattle.std.specs.Option.{option_copied}
use Rattle.std.proofs.Common.{sym, ap, ◌∙◌}
use Rattle.std.proofs.lemmas.Result.{on_ok_weaker}
use Rattle.jl_cache.specs.Links.{link_at}
use Rattle.jl_cache.proofs.cache.Cache.take.Goals as goal

pub returns-in-Some : goal.returns-in-Some
returns-in-Some c = on_ok_weaker c.put_kept.result (λ put s.
    let before : link_at c.self.inside.links.entries s ≡ link_at c.args.self.now s = ap (λ links. link_at links s) c.self.view_is in
    let found : Some c.in-Some.kept.now ≡ link_at c.args.ahead.now c.args.site =
    sym (ap option_copied c.in-Some.is) ∙ c.get.ensures ∙ (λ i. link_at (c.ahead.view_is i) (c.place_of.ensures.place i)) in
    put s ∙ (λ i. if c.args.site == s then found i else before i)) c.put_kept.ensures.link

pub returns-in-None : goal.returns-in-None
returns-in-None c = λ s.
    let before : link_at c.self.inside.links.entries s ≡ link_at c.args.self.now s = ap (λ links. link_at links s) c.self.view_is in
    let found : None ≡ link_at c.args.ahead.now c.args.site =
    sym (ap option_copied c.in-None.is) ∙ c.get.ensures ∙ (λ i. link_at (c.ahead.view_is i) (c.place_of.ensures.place i)) in
    c.remove.ensures.left s ∙ (λ i. if c.place_of-in-None.ensures.place i == s then found i else before i)
