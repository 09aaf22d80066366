use Rattle.std.specs.Prelude.{length}
use Rattle.std.proofs.Common.{ap, subst, ◌∙◌}
use Rattle.jl_deps.specs.Indexes.{AreRising}
use Rattle.jl_deps.proofs.index.Index.len.Goals as goal

pub returns-clause-count : goal.returns-clause-count
returns-clause-count c = c.len.ensures.count ∙ ap length c.self.view_is

pub returns-clause-rising : goal.returns-clause-rising
returns-clause-rising c = subst AreRising c.self.view_is c.len.ensures.rising
