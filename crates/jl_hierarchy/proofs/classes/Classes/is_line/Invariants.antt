use Rattle.std.specs.Prelude.{◌≡◌, ℕ, take, true, false}
use Rattle.std.specs.List.{list_any}
use Rattle.jl_types.specs.Values.Members as members
use Rattle.jl_types.specs.Values.Ancestry as ancestry
use Rattle.jl_hierarchy.specs.Redeclared.{is_above}
use Rattle.jl_hierarchy.proofs.classes.Classes.is_line.Given as goal

-- those of the interfaces so far are above
abbrev pub invariant-loop-interface : goal.invariant-loop-interface
invariant-loop-interface l = (a : ℕ) → list_any (λ p. ancestry.is_ancestor l.self a p) (take l.interface-index l.interface-items) ≡ true
    → members.is_interface l.self a ≡ false → is_above l.self l.row a ≡ true
