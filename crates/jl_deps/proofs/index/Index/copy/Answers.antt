use Rattle.std.proofs.Common.{ap, ◌∙◌}
use Rattle.jl_types.proofs.BySite.{rises_of, same_values}
use Rattle.jl_deps.specs.Indexes.{rests_at}
use Rattle.jl_deps.proofs.index.Index.copy.Goals as goal

pub returns : goal.returns
returns c =
    same_values c.add_all.new.copy c.args.self.now (rises_of c.add_all.new.copy c.len-count.ensures.rising)
    (rises_of c.args.self.now c.len-sites.ensures.rising)
    (λ s. c.in_ok-add_all.ensures s ∙ ap (λ rows. rests_at rows s) c.self.view_is)
