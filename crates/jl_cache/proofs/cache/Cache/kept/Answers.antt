use Rattle.std.proofs.Common.{◌∙◌}
use Rattle.jl_cache.specs.Links.{link_at}
use Rattle.jl_cache.proofs.cache.Cache.kept.Goals as goal

pub returns : goal.returns
returns c = c.get.ensures ∙ (λ i. link_at (c.self.view_is i) (c.place_of.ensures.place i))
