use Rattle.std.proofs.Common.{◌∙◌, ap, subst}
use Rattle.jl_types.specs.Events.Limits.{IsWithin}
use Rattle.jl_core.specs.State.{State}
use Rattle.jl_server.specs.History.{core_of}
use Rattle.jl_server.proofs.Logs.{world_logged, serial_logged}
use Rattle.jl_server.proofs.book.Book.snapshot.Goals as goal

pub returns-in-Ok-clause-world : goal.returns-in-Ok-clause-world
returns-in-Ok-clause-world g c =
    let n = g.K.Name.limits in
    let core = c.self.inside.core in
    let is = c.self.invariant.0 ∙ ap (core_of n) c.self.view_is in
    c.in-Ok.ensures.snapshot ∙ (λ i. record { world = world_logged n c.args.self.now core is i; serial = serial_logged n c.args.self.now core is i })

pub returns-in-Ok-clause-within : goal.returns-in-Ok-clause-within
returns-in-Ok-clause-within g c =
    subst (λ (s : State). IsWithin s.limits c.in-Ok.snapshot.world) c.self.invariant.0 c.in-Ok.ensures.within
