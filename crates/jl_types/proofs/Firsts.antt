-- The first of several faults, and the first element that passes.
use Rattle.std.specs.Prelude.{◌≡◌, ℕ, ◌+◌, Bool, true, false, List, [], ◌∷◌, position, Option, Some, None, option_map}
use Rattle.std.specs.Bool.{then_some}
use Rattle.std.proofs.Common.{refl, arith}
use Rattle.std.proofs.lemmas.Grind.{common_steps}
use Rattle.jl_types.specs.Linkage.Resolution.{first_of}

-- if the list has no fault, its first place has none, and neither has the rest
pub first_none : {A : Type 0} (o : Option A) (rest : List (Option A)) → first_of (o ∷ rest) ≡ None → (o ≡ None) × (first_of rest ≡ None)
first_none None rest e = (refl, e)
first_none (Some r) rest e = cc

pub test_none : {A : Type 0} (b : Bool) (x : A) → then_some b x ≡ None → b ≡ false
test_none true x e = cc
test_none false x e = refl

pub first_alone : {A : Type 0} (o : Option A) → first_of (o ∷ []) ≡ o
first_alone None = refl
first_alone (Some r) = refl

-- ---- the place of the first element that passes

pub first_here : {A : Type 0} (p : A → Bool) (x : A) (xs : List A) → p x ≡ true → position p (x ∷ xs) ≡ Some 0
first_here p x xs e = grind (arith, common_steps)

pub first_later : {A : Type 0} (p : A → Bool) (x : A) (xs : List A) → p x ≡ false → position p (x ∷ xs) ≡ option_map (λ n. n + 1) (position p xs)
first_later p x xs e = grind (arith, common_steps)

pub no_later : (o : Option ℕ) → option_map (λ n. n + 1) o ≡ None → o ≡ None
no_later None e = refl
no_later (Some n) e = cc
