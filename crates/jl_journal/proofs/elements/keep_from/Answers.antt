use Rattle.std.proofs.Common.{arith, sym, ◌∙◌}
use Rattle.std.proofs.lemmas.List.Filters.{FiltersInPlace-more_swap, FiltersInPlace-more_no}
use Rattle.std.specs.Prelude.{◌<◌, length}
use Rattle.jl_journal.proofs.elements.keep_from.Goals as goal

pub loop-next-preserved : goal.loop-next-preserved
loop-next-preserved g c =
    let inside : c.loop-next.next < length c.loop-next.elements.items = omega arith in
    let kept = sym c.is_kept.ensures in
    let done = c.loop-next.invariant.0 in
    elim c.if-is_kept.branch [
      | goal.then-is_kept w ↦ (
        rw (w.elements-is, w.kept-is) (FiltersInPlace-more_swap done inside (kept ∙ w.if-is_kept.true) c.index.ensures w.swap.ensures.by_index),
        rw w.elements-is (w.swap.ensures.capacity ∙ c.loop-next.invariant.1),
      )
      | goal.else-is_kept w ↦ (
        rw (w.elements-is, w.kept-is) (FiltersInPlace-more_no done inside (kept ∙ w.if-is_kept.false) c.index.ensures),
        rw w.elements-is c.loop-next.invariant.1,
      )
    ]
