use Rattle.std.specs.Prelude.{◌≡◌, ℕ, take, true}
use Rattle.jl_hierarchy.specs.Redeclared.{is_marked, is_on}
use Rattle.jl_hierarchy.proofs.marks.add_every.Given as goal

-- what was marked is, and every method at the classes so far
abbrev pub invariant-loop-class : goal.invariant-loop-class
invariant-loop-class l = record {
  kept : (s p : ℕ) → is_marked l.fn.shared.value s p ≡ true → is_marked l.shared.value s p ≡ true;
  added : (s p : ℕ) → is_on s (take l.class-index l.classes) ≡ true → is_marked l.shared.value s p ≡ true;
}
