use Rattle.std.proofs.Common.{◌∙◌, ap, sym}
use Rattle.std.specs.Prelude.{option_copied}
use Rattle.jl_core.specs.State.{world_of}
use Rattle.jl_host.specs.Linkers.{Opened, last_dropped}
use Rattle.jl_host.proofs.CaughtUp.{last_is, none_is}
use Rattle.jl_host.proofs.opened.Opened.last_dropped.Goals as goal

pub returns-in-Some : goal.returns-in-Some
returns-in-Some c =
    c.dropped.ensures
    ∙ sym (last_is (world_of c.core.result.now).classes.rows c.core.result.now c.log.result.now c.in-Some.entry.now c.log.ensures.told c.log.ensures.events
    (sym c.kept.ensures.last ∙ (sym c.last.ensures.value ∙ ap option_copied c.in-Some.is)))
    ∙ ap last_dropped (c.core.ensures ∙ ap (λ (o : Opened). o.session.core) c.self.view_is)

pub returns-in-None : goal.returns-in-None
returns-in-None c =
    none_is (world_of c.core.result.now).classes.rows c.core.result.now c.log.result.now c.log.ensures.events
    (sym c.kept.ensures.last ∙ (sym c.last.ensures.value ∙ ap option_copied c.in-None.is))
    ∙ ap last_dropped (c.core.ensures ∙ ap (λ (o : Opened). o.session.core) c.self.view_is)
