use Rattle.std.proofs.Common.{arith, ap, length}
use Rattle.jl_journal.proofs.PartLaws.{passed, forgotten}
use Rattle.jl_journal.proofs.ListLaws.{few_left}
use Rattle.jl_journal.proofs.journal.Journal.forget.Goals as goal

pub keep_from-self-inside-requires-clause-kept : goal.keep_from-self-inside-requires-clause-kept
keep_from-self-inside-requires-clause-kept g c = passed c.self.invariant c.pop.new.self.items c.in-Some.last c.in-Some.ensures.items

pub push_reserved-requires : goal.push_reserved-requires
push_reserved-requires g c =
    let kept = c.keep_from-self-inside.ensures in
    let left = ap length kept.items in
    let few = few_left g.T.Keep.keeps c.pop.new.self.items in
    let popped = c.in-Some.ensures in
    let lens = c.pop.new.self.ok.0 in
    omega (arith, left, few, popped.len, popped.capacity, kept.capacity, lens, c.self.inside.elements.ok.1, c.keep_from-self-inside.new.elements.ok.0)

pub invariant_of-self-2 : goal.invariant_of-self-2
invariant_of-self-2 g c =
    let kept = c.keep_from-self-inside.ensures in
    rw (c.and_all-self-inside.ensures, c.from_place.ensures, c.as_slice.ensures.value, c.push_reserved.ensures.items, kept.len, kept.items)
    (forgotten c.self.invariant c.pop.new.self.items c.in-Some.last c.in-Some.ensures.items)
