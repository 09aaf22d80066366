use Rattle.std.proofs.Common.{◌∙◌, ap, length}
use Rattle.jl_core.specs.State.{world_of}
use Rattle.jl_host.specs.Linkers.{Opened}
use Rattle.jl_host.proofs.opened.Opened.seen.Goals as goal

pub returns-clause-seen : goal.returns-clause-seen
returns-clause-seen c =
    let links = c.new.ensures.links ∙ c.in_ok-links.ensures.links in
    let classes =
    c.new.ensures.classes ∙ c.class_count.ensures
    ∙ ap (λ core. length (world_of core).classes.rows)
    (c.core.ensures ∙ ap (λ (o : Opened). o.session.core) (c.self.view_is ∙ c.links_now.ensures.same)) in
    λ i. record { links = links i; classes = classes i }
