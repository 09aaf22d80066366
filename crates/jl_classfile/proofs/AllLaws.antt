-- What holds of each element holds of one that stands at a place, or is among them.
use Rattle.std.proofs.Common.{◌≡◌, ℕ, zero, suc, List, [], ◌∷◌, Some, subst}
use Rattle.std.specs.Prelude.{slice_get}
use Rattle.std.specs.List.{AllByRecursion, Contains}
use Rattle.std.proofs.lemmas.List.Elements.{All-contains, All-from_recursion}

pub All-place : {X : Type 0} (P : X → Type 0) (xs : List X) (k : ℕ) (x : X) → AllByRecursion P xs → slice_get xs k ≡ Some x → P x
All-place P [] k x h e = absurd cc
All-place P (y ∷ xs) zero x h e = let same : y ≡ x = cc in subst P same h.0
All-place P (y ∷ xs) (suc k) x h e = All-place P xs k x h.1 e

pub All-among : {X : Type 0} (P : X → Type 0) (xs : List X) (x : X) → AllByRecursion P xs → Contains xs x → P x
All-among P xs x h c = All-contains P xs x (All-from_recursion P xs h) c
