-- Texts that are told apart by numbers, and pairs of such numbers. Only private clauses cite this.
use Rattle.std.specs.Prelude.{◌≡◌, ℕ, ◌<◌, List, Option, Some}
use Rattle.std.specs.List.{slice_get}
use Rattle.std.specs.Option.{option_and_then}
use Rattle.std.specs.Borrow.{Bor}
use Rattle.jl_names.specs.Repeats.{text_at}

-- the number that stands at this place
abbrev pub number_at : List (Option ℕ) → ℕ → Option ℕ
number_at numbers i = option_and_then (λ n. n) (slice_get numbers i)

-- equal texts, and no others, have the same number, and what is no text has none
pub record Numbers (texts : List (Option (Bor (List ℕ)))) (numbers : List (Option ℕ)) : Type 0 where
  pub named : (i n : ℕ) → number_at numbers i ≡ Some n → (t : List ℕ) × (text_at texts i ≡ Some t) × (text_at texts n ≡ Some t)
  pub equal : (i j : ℕ) (t : List ℕ) → text_at texts i ≡ Some t → text_at texts j ≡ Some t
      → (n : ℕ) × (number_at numbers i ≡ Some n) × (number_at numbers j ≡ Some n)

-- the two numbers that stand at the places of a pair
abbrev pub numbers_of : List (Option ℕ) → ℕ × ℕ → Option (ℕ × ℕ)
numbers_of numbers p =
    option_and_then (λ a. option_and_then (λ b. Some (a, b)) (number_at numbers p.1)) (number_at numbers p.0)

-- the two numbers of the pair at this place
abbrev pub numbers_at : List (Option ℕ) → List (ℕ × ℕ) → ℕ → Option (ℕ × ℕ)
numbers_at numbers pairs i = option_and_then (numbers_of numbers) (slice_get pairs i)

-- the pair at place i has the same numbers as a pair at an earlier place
pub record IsAgain (numbers : List (Option ℕ)) (pairs : List (ℕ × ℕ)) (i : ℕ) : Type 0 where
  pub earlier : ℕ
  pub before : earlier < i
  pub both : ℕ × ℕ
  pub once : numbers_at numbers pairs earlier ≡ Some both
  pub again : numbers_at numbers pairs i ≡ Some both

abbrev pub NoneAgain : List (Option ℕ) → List (ℕ × ℕ) → Type 0
NoneAgain numbers pairs = (i : ℕ) → ¬ IsAgain numbers pairs i

pub record IsFirstAgain (numbers : List (Option ℕ)) (pairs : List (ℕ × ℕ)) (i : ℕ) : Type 0 where
  pub again : IsAgain numbers pairs i
  pub first : (k : ℕ) → k < i → ¬ IsAgain numbers pairs k
