use Rattle.std.proofs.Common.{◌≡◌}
use Rattle.std.specs.Prelude.{vec_capacity}
use Rattle.std.proofs.lemmas.List.Filters.{FiltersInPlace}
use Rattle.jl_journal.proofs.elements.keep_from.Given as goal

-- of the elements before `next` those that are kept stand in front
abbrev pub invariant-loop-next : goal.invariant-loop-next
invariant-loop-next g l =
    FiltersInPlace g.T.Keep.keeps l.fn.elements.items l.elements.items l.kept l.next × (vec_capacity l.elements ≡ vec_capacity l.fn.elements)
