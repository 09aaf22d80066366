-- What was resolved and what was selected stays so when classes are added.
use Rattle.std.specs.Prelude.{◌≡◌, ℕ, ◌<◌, List, length}
use Rattle.jl_pool.specs.declared.reference.Reference.{Reference}
use Rattle.jl_types.specs.declared.ids.MethodId.{MethodId}
use Rattle.jl_types.specs.Values.World.{Classes}
use Rattle.jl_resolve.specs.Constancy.{SettledStays}
use Rattle.jl_types.specs.Linkage.Selection as selection
use Rattle.jl_types.specs.Linkage.Selection.{virtual_outcome, interface_outcome, special_outcome}

-- what is selected for a receiver's class that is there, and a method of a class that is there, stays
pub record ChosenStays (old new : Classes) : Type 0 where
  pub chosen : (x : ℕ) (r : MethodId) → x < length old.rows → r.class < length old.rows → selection.chosen new x r ≡ selection.chosen old x r

-- what an instruction makes of the method that is selected stays, too
pub record OutcomesStay (old new : Classes) : Type 0 where
  pub virtual : (x : ℕ) (r : MethodId) → x < length old.rows → r.class < length old.rows → virtual_outcome new x r ≡ virtual_outcome old x r
  pub interface : (x named : ℕ) (r : MethodId) → x < length old.rows → r.class < length old.rows
      → interface_outcome new x named r ≡ interface_outcome old x named r
  pub special : (d named : ℕ) (ref : Reference (List ℕ)) → d < length old.rows → named < length old.rows
      → special_outcome new d named ref ≡ special_outcome old d named ref

-- what is resolved, what is selected, and what instructions make of it stay
pub record IsConstant (old new : Classes) : Type 0 where
  pub resolved : SettledStays old new
  pub chosen : ChosenStays old new
  pub outcomes : OutcomesStay old new
