use Rattle.std.proofs.Common.{◌≡◌, ◌==◌, ◌≤◌, Some, None, length, if◌then◌else◌, ap, sym, subst, ◌∙◌, arith}
use Rattle.jl_numbered.specs.Numbers.{Numbered, value_at}
use Rattle.jl_numbered.specs.ForProofs.Placed.{placed}
use Rattle.jl_numbered.proofs.PlacedLaws.{written, found_at, fewer, past, past_stays}
use Rattle.jl_numbered.proofs.numbered.Numbered.remove.Goals as goal

pub returns-then-as_slice-number-clause-taken : goal.returns-then-as_slice-number-clause-taken
returns-then-as_slice-number-clause-taken g c =
    past c.args.number c.self.inside.slots.items (subst (λ xs. length xs ≤ c.args.number) c.as_slice.ensures.value c.if-as_slice-number.true)
    ∙ ap (λ (m : Numbered _). value_at m.entries c.args.number) c.self.view_is

pub returns-then-as_slice-number-clause-left : goal.returns-then-as_slice-number-clause-left
returns-then-as_slice-number-clause-left g c n =
    subst (λ (m : Numbered _). value_at m.entries n ≡ (if c.args.number == n then None else value_at m.entries n)) c.self.view_is
    (past_stays c.args.number c.self.inside.slots.items (subst (λ xs. length xs ≤ c.args.number) c.as_slice.ensures.value c.if-as_slice-number.true) n)

pub returns-clause-taken : goal.returns-clause-taken
returns-clause-taken g c =
    found_at c.args.number c.self.inside.slots.items (Some c.write.result) (sym c.write.ensures.stood)
    ∙ ap (λ (m : Numbered _). value_at m.entries c.args.number) c.self.view_is

pub returns-clause-left : goal.returns-clause-left
returns-clause-left g c n =
    let room = ap length c.as_slice.ensures.value in
    ap (λ xs. value_at (placed 0 xs) n) c.write.ensures.written
    ∙ written c.args.number None c.self.inside.slots.items (omega (arith, room, c.if-as_slice-number.false)) n
    ∙ ap (λ (m : Numbered _). if c.args.number == n then None else value_at m.entries n) c.self.view_is

pub returns-clause-few : goal.returns-clause-few
returns-clause-few g c =
    subst (λ (m : Numbered _). length (placed 0 c.write.new.slots.items) ≤ length m.entries) c.self.view_is
    (subst (λ xs. length (placed 0 xs) ≤ length (placed 0 c.self.inside.slots.items)) (sym c.write.ensures.written)
    (fewer c.args.number c.write.result c.self.inside.slots.items c.write.ensures.stood))
