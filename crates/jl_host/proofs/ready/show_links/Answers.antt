use Rattle.std.proofs.Common.{ap, ◌∙◌}
use Rattle.jl_types.specs.Events.History.{installed}
use Rattle.jl_core.specs.State.{events}
use Rattle.jl_host.specs.Showing.{link_shown}
use Rattle.jl_host.proofs.ReadingLaws.{one_at_front}
use Rattle.jl_host.proofs.ready.show_links.Goals as goal

pub loop-place-preserved : goal.loop-place-preserved
loop-place-preserved c =
    one_at_front (λ s. link_shown (installed (events c.args.core.now) s)) c.args.sites.now c.args.links.now c.loop-place.links c.loop-place.place
    c.index-sites-place.result c.link_shown.result c.loop-place-test.true c.requires c.index-sites-place.is
    (c.link_shown.ensures ∙ ap link_shown (c.get.ensures.link ∙ c.links.ensures c.index-sites-place.result)) c.loop-place.invariant
