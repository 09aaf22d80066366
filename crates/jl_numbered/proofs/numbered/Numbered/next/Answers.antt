use Rattle.std.proofs.Common.{◌≡◌, ◌∷◌, ℕ, Some, None, IfSome, drop, suc, Option, ap, sym, ◌∙◌}
use Rattle.jl_numbered.specs.Numbers.{Numbered, entries_from}
use Rattle.jl_numbered.specs.ForProofs.Placed.{placed}
use Rattle.jl_numbered.proofs.PlacedLaws.{left_of}
use Rattle.jl_numbered.proofs.numbered.Numbered.next.Goals as goal

over : {A : Type 0} {P Q : A → Type 0} (r : Option A) → ((x : A) → P x → Q x) → IfSome r P → IfSome r Q
over None f h = h
over (Some x) f h = f x h

pub returns-clause-entry : goal.returns-clause-entry
returns-clause-entry g c =
    over c.first_from.result (λ row h. is c.args.from ∙ h ∙ ap (λ rest. (row.0, row.1.now) ∷ rest) (sym (is (suc row.0)))) c.first_from.ensures.entry
  where
    is : (n : ℕ) → entries_from n c.args.self.now.entries ≡ placed n (drop n c.as_slice.result.now)
    is n = sym (ap (λ (m : Numbered _). entries_from n m.entries) c.self.view_is) ∙ left_of n c.self.inside.slots.items
        ∙ ap (λ xs. placed n (drop n xs)) (sym c.as_slice.ensures.value)

pub returns-clause-end : goal.returns-clause-end
returns-clause-end g c e =
    sym (ap (λ (m : Numbered _). entries_from c.args.from m.entries) c.self.view_is) ∙ left_of c.args.from c.self.inside.slots.items
    ∙ ap (λ xs. placed c.args.from (drop c.args.from xs)) (sym c.as_slice.ensures.value) ∙ c.first_from.ensures.end e
