use Rattle.std.proofs.Common.{◌∙◌, arith, ap, length, slice_get}
use Rattle.jl_journal.proofs.PartLaws.{counts, is_last}
use Rattle.jl_journal.proofs.journal.Journal.next_after.Goals as goal

pub returns-then-place-self : goal.returns-then-place-self
returns-then-place-self g c = λ few.
    let all = counts c.self.invariant ∙ ap length c.self.view_is in
    let last = rw c.deref.ensures.value at c.last.ensures.value in
    last ∙ is_last c.self.invariant c.args.place c.if-place-self.true (omega (arith, all, few)) ∙ ap (λ xs. slice_get xs c.args.place) c.self.view_is
