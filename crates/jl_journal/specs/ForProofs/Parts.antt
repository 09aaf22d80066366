-- What a journal's invariant says of its parts.
use Rattle.std.specs.Prelude.{◌≡◌, ◌≤◌, ◌+◌, ℕ, Bool, List, length, take, filter}

-- `noted` of the elements are those of the past that the test keeps; `count` is how many there are in all, and the last one is not past
pub record AreParts {X : Type 0} (keeps : X → Bool) (past elements : List X) (noted count : ℕ) : Type 0 where
  pub within : noted ≤ length elements
  pub front : take noted elements ≡ filter keeps past
  pub counted : count + noted ≡ length past + length elements
  pub last : length elements ≤ noted → length past ≡ 0
