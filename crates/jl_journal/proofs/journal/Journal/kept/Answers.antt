use Rattle.std.proofs.Common.{◌∙◌, length, slice_get}
use Rattle.std.specs.Prelude.{◌-◌, drop}
use Rattle.jl_journal.proofs.PartLaws.{counts, there, last_there}
use Rattle.jl_journal.proofs.journal.Journal.kept.Goals as goal

pub returns-clause-kept : goal.returns-clause-kept
returns-clause-kept g c =
    (c.self.inside.past.items, drop c.self.inside.noted c.self.inside.elements.items, c.self.view_is, c.deref.ensures.value ∙ there c.self.invariant)

pub returns-clause-last : goal.returns-clause-last
returns-clause-last g c =
    let all = counts c.self.invariant in
    (λ i. slice_get (c.deref.ensures.value i) (length (c.deref.ensures.value i) - 1))
    ∙ last_there c.self.invariant
    ∙ (λ i. slice_get (c.self.view_is i) (all i - 1))
    ∙ (λ i. slice_get c.args.self.now (length (c.self.view_is i) - 1))
