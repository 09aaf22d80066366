use Rattle.std.specs.Prelude.{◌≡◌, ℕ, List, ◌++◌, true}
use Rattle.jl_types.specs.Values.Ancestry as ancestry
use Rattle.jl_hierarchy.specs.declared.marks.Mark.{Mark}
use Rattle.jl_hierarchy.proofs.Lines.{IsPassed}
use Rattle.jl_hierarchy.proofs.classes.Classes.mark_upward.Given as goal

-- marks came after those of before, and each class of the line is still to come or marked
abbrev pub invariant-loop-left : goal.invariant-loop-left
invariant-loop-left l = record {
  added : (more : List Mark) × (l.marks.items ≡ l.fn.marks.items ++ more);
  passed : (s : ℕ) → ancestry.is_subclass l.self l.fn.class s ≡ true → IsPassed l.self l.print l.marks.items l.at s;
}

abbrev pub decreases-loop-left : goal.decreases-loop-left
decreases-loop-left l = l.left
