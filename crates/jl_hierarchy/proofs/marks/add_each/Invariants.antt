use Rattle.std.specs.Prelude.{◌≡◌, ℕ, take, true}
use Rattle.jl_hierarchy.specs.Redeclared.{is_listed, is_marked}
use Rattle.jl_hierarchy.proofs.marks.add_each.Given as goal

-- what was marked is, and what those so far tell of
abbrev pub invariant-loop-mark : goal.invariant-loop-mark
invariant-loop-mark l = record {
  kept : (s p : ℕ) → is_marked l.fn.shared.value s p ≡ true → is_marked l.shared.value s p ≡ true;
  added : (s p : ℕ) → is_listed (take l.mark-index l.marks) s p ≡ true → is_marked l.shared.value s p ≡ true;
}
