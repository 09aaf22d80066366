use Rattle.std.specs.Prelude.{◌==◌, Some, if◌then◌else◌}
use Rattle.std.proofs.Common.{◌∙◌}
use Rattle.std.proofs.lemmas.Result.{on_ok_weaker}
use Rattle.jl_cache.specs.Links.{link_at}
use Rattle.jl_cache.proofs.cache.put_kept.Goals as goal

pub returns-clause-link : goal.returns-clause-link
returns-clause-link c = on_ok_weaker c.insert.result
    (λ put s. put s
    ∙ (λ i. if c.place_of.ensures.place i == s then Some (c.in_ok-copy.ensures.cases i) else link_at c.args.links.now.entries s))
    c.insert.ensures.ok
