use Rattle.std.proofs.Common.{◌==◌, ◌<◌, Some, if◌then◌else◌, ap, sym, subst, ◌∙◌}
use Rattle.jl_numbered.specs.Numbers.{Numbered, value_at}
use Rattle.jl_numbered.specs.ForProofs.Placed.{placed}
use Rattle.jl_numbered.proofs.PlacedLaws.{written}
use Rattle.jl_numbered.proofs.numbered.Numbered.put_reserved.Goals as goal

pub returns-clause-entries : goal.returns-clause-entries
returns-clause-entries g c n =
    ap (λ xs. value_at (placed 0 xs) n) c.write.ensures.written
    ∙ written c.args.number (Some c.args.value) c.self.inside.slots.items (subst (λ (m : Numbered _). c.args.number < m.room) (sym c.self.view_is) c.requires) n
    ∙ ap (λ (m : Numbered _). if c.args.number == n then Some c.args.value else value_at m.entries n) c.self.view_is
