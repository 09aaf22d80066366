use Rattle.std.proofs.Common.{ap, subst, List}
use mathlib.Core.List.{IsPrefix}
use Rattle.jl_types.specs.Events.Entries.{Entry}
use Rattle.jl_server.proofs.Beginnings.{prefix_shorter}
use Rattle.jl_server.proofs.seen.Seen.begins.Goals as goal

pub returns : goal.returns
returns g c =
    let both = c.learn.new.self.log in
    let this : IsPrefix c.self.inside.reached.log both = subst (λ (l : List Entry). IsPrefix l both) (ap (λ s. s.log) c.again-both.ensures) c.learn.ensures.2 in
    rw (← c.self.view_is, ← c.other.view_is) (prefix_shorter c.self.inside.reached.log c.other.inside.reached.log both this c.learn.ensures.3
    (rw (c.self.view_is, c.other.view_is) c.requires))
