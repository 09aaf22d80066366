use Rattle.std.specs.Prelude.{Option, replicate}
use Rattle.std.proofs.Common.{ap, ◌∙◌}
use Rattle.jl_types.specs.declared.link.Link.{Link}
use Rattle.jl_host.specs.Seats.{room_for}
use Rattle.jl_host.proofs.behind.no_links.Goals as goal

pub returns-clause-blank : goal.returns-clause-blank
returns-clause-blank c =
    c.in_ok-new.ensures.ok ∙ c.in_ok-filled.ensures ∙ ap (λ (slot : Option Link). replicate (room_for c.args.max_sites) slot) c.nothing.ensures
