use Rattle.std.proofs.Common.{◌∙◌}
use Rattle.jl_cache.proofs.cache.Cache.copy.Goals as goal

pub returns : goal.returns
returns c = c.in_ok-copy.ensures ∙ c.self.view_is
