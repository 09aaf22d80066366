use Rattle.std.proofs.Common.{subst, ◌∙◌}
use Rattle.jl_cache.specs.Links.{link_at, AreRising}
use Rattle.jl_cache.proofs.cache.Cache.get.Goals as goal

pub returns-clause-link : goal.returns-clause-link
returns-clause-link c = c.link_kept.ensures ∙ c.get.ensures ∙ (λ i. link_at (c.self.view_is i) (c.place_of.ensures.place i))

pub returns-clause-rising : goal.returns-clause-rising
returns-clause-rising c = subst AreRising c.self.view_is c.len-count.ensures.rising
