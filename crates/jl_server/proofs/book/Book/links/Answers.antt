use Rattle.std.proofs.Common.{◌∙◌, ap}
use Rattle.jl_types.specs.Events.History.{installed_links}
use Rattle.jl_core.specs.State.{events}
use Rattle.jl_server.specs.History.{core_of}
use Rattle.jl_server.proofs.Logs.{events_logged}
use Rattle.jl_server.proofs.book.Book.links.Goals as goal

pub returns-in-Ok : goal.returns-in-Ok
returns-in-Ok g c =
    let n = g.K.Name.limits in
    let is = c.self.invariant.0 ∙ ap (core_of n) c.self.view_is in
    c.in-Ok.ensures ∙ ap installed_links (ap events is ∙ events_logged n c.args.self.now)
