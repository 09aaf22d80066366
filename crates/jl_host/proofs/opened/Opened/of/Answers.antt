use Rattle.std.proofs.Common.{◌∙◌, ap}
use Rattle.jl_session.specs.Sessions.{Session}
use Rattle.jl_host.proofs.CaughtUp.{nothing_behind}
use Rattle.jl_host.proofs.opened.Opened.of.Goals as goal

pub invariant_of-result : goal.invariant_of-result
invariant_of-result c =
    nothing_behind c.of.result.core c.args.max_sites c.in_ok-links.links.value (ap (λ (s : Session). s.core.limits.sites) c.of.ensures ∙ c.requires)
    c.no_links.ensures.few c.in_ok-links.ensures.blank
