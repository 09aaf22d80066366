-- What a function gives for items, one after another. A means of proof.
use Rattle.std.specs.Prelude.{◌≡◌, ℕ, ◌+◌, List, ◌∷◌, drop, take, Result, Ok, Err}
use Rattle.std.specs.List.{AllZip}
use Rattle.std.specs.Fn.{FnReturnsAt}
use denote.Param.Members.{Shared}
use denote.Ref.{Bor}

-- some first items are fine, and the next one fails with this error
pub record FailsFirst {F T U E : Type 0} (g : Shared F (Bor T × Unit {0}) (Result U E)) (make : F) (items : List T) (e : E) : Type 0 where
  pub count : ℕ
  pub made : List U
  pub fine : AllZip (λ item one. FnReturnsAt g make item (Ok one)) (take count items) made
  pub item : T
  pub next : drop count items ≡ item ∷ drop (count + 1) items
  pub fails : FnReturnsAt g make item (Err e)
