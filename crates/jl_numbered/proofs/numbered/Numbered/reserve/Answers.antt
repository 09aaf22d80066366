use Rattle.std.proofs.Common.{◌+◌, ◌-◌, ◌++◌, None, length, replicate, ap, sym, ◌∙◌}
use Rattle.jl_numbered.specs.Numbers.{Numbered}
use Rattle.jl_numbered.specs.ForProofs.Placed.{placed}
use Rattle.jl_numbered.proofs.PlacedLaws.{roomier}
use Rattle.jl_numbered.proofs.numbered.Numbered.reserve.Goals as goal

pub invariant_of-self-2 : goal.invariant_of-self-2
invariant_of-self-2 g c =
    c.self.invariant
    ∙ ap length (sym (ap (placed 0) (c.add_vacant.ensures
    ∙ ap (λ xs. xs ++ replicate (c.args.number + 1 - length c.as_slice-room.result.now) None) c.in_ok-reserve.ensures.items)
    ∙ roomier 0 (c.args.number + 1 - length c.as_slice-room.result.now) c.self.inside.slots.items))

pub returns-clause-entries : goal.returns-clause-entries
returns-clause-entries g c =
    ap (placed 0) (c.add_vacant.ensures ∙ ap (λ xs. xs ++ replicate (c.args.number + 1 - length c.as_slice-room.result.now) None) c.in_ok-reserve.ensures.items)
    ∙ roomier 0 (c.args.number + 1 - length c.as_slice-room.result.now) c.self.inside.slots.items
    ∙ ap (λ (m : Numbered _). m.entries) c.self.view_is
