use Rattle.std.specs.Prelude.{◌≡◌, drop, position}
use Rattle.jl_types.specs.Values.Members.{is_called}
use Rattle.jl_hierarchy.proofs.PrintLaws.{found}
use Rattle.jl_hierarchy.proofs.row.place_in.Given as goal

-- what is found from here is what is found among all
abbrev pub invariant-loop-entry : goal.invariant-loop-entry
invariant-loop-entry l =
    found l.sought.name l.sought.ty l.methods (drop l.entry-index l.entry-items) ≡ position (is_called l.sought.name l.sought.ty) l.methods
