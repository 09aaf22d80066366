use Rattle.std.proofs.Common.{ap, ◌∙◌}
use Rattle.jl_deps.specs.Indexes.{rests_at}
use Rattle.jl_deps.proofs.index.Index.rests.Goals as goal

pub returns : goal.returns
returns c = c.get.ensures ∙ ap (rests_at c.self.inside.sites.entries) c.number.ensures ∙ ap (λ rows. rests_at rows c.args.site) c.self.view_is
