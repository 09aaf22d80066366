use Rattle.std.proofs.Common.{◌∙◌, ap, map}
use Rattle.std.specs.List.{range_with_len}
use Rattle.jl_types.specs.Events.History.{installed}
use Rattle.jl_core.specs.State.{events}
use Rattle.jl_host.specs.Linkers.{Opened}
use Rattle.jl_host.specs.Seats.{room_for}
use Rattle.jl_host.proofs.CaughtUp.{all_links}
use Rattle.jl_host.proofs.opened.Opened.links_now.Goals as goal

pub returns-clause-links : goal.returns-clause-links
returns-clause-links c =
    c.in_ok-links.ensures
    ∙ all_links c.core.result.now c.catch_up.new.links.value c.in_ok-reached.ensures.still.all c.in_ok-reached.ensures.now
    ∙ ap (λ core. map (installed (events core)) (range_with_len 0 (room_for core.limits.sites)))
    (c.core.ensures ∙ ap (λ (o : Opened). o.session.core) c.self.view_is)
