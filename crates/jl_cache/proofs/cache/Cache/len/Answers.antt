use Rattle.std.specs.Prelude.{length}
use Rattle.std.proofs.Common.{ap, ◌∙◌}
use Rattle.jl_cache.proofs.cache.Cache.len.Goals as goal

pub returns : goal.returns
returns c = c.len.ensures.count ∙ ap length c.self.view_is
