use Rattle.std.proofs.Common.{◌∙◌, ◌≡◌, ◌+◌, ◌-◌, arith, ap, length, drop}
use Rattle.jl_journal.proofs.PartLaws.{counts, has_last, from_later}
use Rattle.jl_journal.proofs.journal.Journal.kept_from.Goals as goal

pub returns-then-place-past-clause-last : goal.returns-then-place-past-clause-last
returns-then-place-past-clause-last g c = λ few.
    let all = counts c.self.invariant ∙ ap length c.self.view_is in
    let some = has_last c.self.invariant (omega (arith, c.if-place-self.false)) in
    absurd (omega (arith, few, all, some, c.self.invariant.counted, c.if-place-past.true, c.len.ensures, c.self.inside.elements.ok.0))

pub returns-clause-rest : goal.returns-clause-rest
returns-clause-rest g c =
    let n = c.self.inside.noted + (c.args.place - (c.self.inside.count - (c.len.result - c.self.inside.noted))) in
    let past : length c.self.inside.past.items ≡ c.self.inside.count - (c.len.result - c.self.inside.noted) =
    omega (arith, c.self.invariant.within, c.self.invariant.counted, c.len.ensures, c.self.inside.elements.ok.0) in
    c.from_place.ensures ∙ ap (drop n) c.as_slice.ensures.value
    ∙ from_later c.self.invariant c.args.place n (omega (arith, past, c.if-place-past.false)) (omega (arith, past, c.if-place-past.false))
    ∙ ap (drop c.args.place) c.self.view_is
