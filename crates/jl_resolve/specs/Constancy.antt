-- What was resolved stays so when classes are added, and when others are retired.
use Rattle.std.specs.Prelude.{◌≡◌, ℕ, Bool, true, false, List, Some, Result, Ok, Err}
use Rattle.jl_pool.specs.declared.reference.Reference.{Reference}
use Rattle.jl_class.specs.Flags.{object}
use Rattle.jl_types.specs.declared.answer.ResolveAnswer.{ResolveAnswer}
use Rattle.jl_types.specs.declared.answer.ResolveAnswer.TheVariants.{NotReady, Fault}
use Rattle.jl_types.specs.Values.World.{Classes}
use Rattle.jl_types.specs.Values.Members.{is_present, is_interface, lookup}
use Rattle.jl_types.specs.Linkage.Resolution as resolution

-- resolution gave a method or failed, so it waits for no class
abbrev pub is_settled : {A : Type 0} → Result A ResolveAnswer → Bool
is_settled (Ok method) = true
is_settled (Err (Fault throwable)) = true
is_settled (Err (NotReady missing)) = false

-- if there is an interface, loader 0 has recorded java/lang/Object
abbrev pub RecordsObject : Classes → Type 0
RecordsObject cs = (c : ℕ) → is_interface cs c ≡ true → (o : ℕ) × (lookup cs 0 object ≡ Some o)

-- what a reference resolves to for a caller that isn't retired stays, once it waits for no class
pub record SettledStays (old new : Classes) : Type 0 where
  pub resolved : (d : ℕ) (ref : Reference (List ℕ)) → is_present new d ≡ true
      → is_settled (resolution.resolved old d ref) ≡ true → resolution.resolved new d ref ≡ resolution.resolved old d ref
