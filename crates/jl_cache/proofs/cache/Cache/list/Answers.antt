use Rattle.std.proofs.Common.{subst}
use Rattle.jl_cache.specs.Links.{AreRising}
use Rattle.jl_cache.proofs.cache.Cache.list.Goals as goal

pub returns-clause-rising : goal.returns-clause-rising
returns-clause-rising c = subst AreRising c.self.view_is c.rows_of.ensures.rising
