use Rattle.std.proofs.Common.{List, ◌∙◌, ap, sym, subst}
use Rattle.jl_types.specs.Events.Event.{Event}
use Rattle.jl_types.specs.Values.World.{World}
use Rattle.jl_types.specs.Linkage.Calls.{dispatch}
use Rattle.jl_types.specs.Events.History.{installed}
use Rattle.jl_hierarchy.specs.Constancy.{AreInOrder}
use Rattle.jl_core.specs.State.{events}
use Rattle.jl_server.specs.History.{core_of}
use Rattle.jl_server.proofs.Logs.{events_logged, world_logged}
use Rattle.jl_server.proofs.book.Book.ask.Goals as goal

pub returns-clause-answer : goal.returns-clause-answer
returns-clause-answer g c =
    let n = g.K.Name.limits in
    let core = c.self.inside.core in
    let is = c.self.invariant.0 ∙ ap (core_of n) c.self.view_is in
    sym (c.call.ensures ∙ ap (λ (w : World). dispatch w c.args.site c.args.recv) (world_logged n c.args.self.now core is))

pub returns-clause-link : goal.returns-clause-link
returns-clause-link g c =
    let n = g.K.Name.limits in
    let is = c.self.invariant.0 ∙ ap (core_of n) c.self.view_is in
    c.get.ensures.link ∙ c.links.ensures c.args.site ∙ ap (λ (h : List Event). installed h c.args.site) (ap events is ∙ events_logged n c.args.self.now)

pub returns-clause-order : goal.returns-clause-order
returns-clause-order g c =
    let n = g.K.Name.limits in
    let core = c.self.inside.core in
    let is = c.self.invariant.0 ∙ ap (core_of n) c.self.view_is in
    subst (λ (w : World). AreInOrder w.classes) (c.behind-self.view_is ∙ c.world.ensures.world ∙ world_logged n c.args.self.now core is)
    c.count_in_order-classes.ensures.order
