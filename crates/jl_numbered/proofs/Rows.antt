-- Rows that hold the definitions, by computation.
use Rattle.std.specs.Prelude.{◌≡◌, ℕ, List, [], ◌∷◌, Some, None}
use Rattle.std.proofs.Common.{refl}
use Rattle.jl_numbered.specs.Numbers.{value_at, entries_from}

-- numbers 2, 5 and 9 have values
abbrev three : List (ℕ × ℕ)
three = (2, 20) ∷ (5, 50) ∷ (9, 90) ∷ []

pub value_of_a_number : value_at three 5 ≡ Some 50
value_of_a_number = refl

pub no_value_of_another : value_at three 4 ≡ None
no_value_of_another = refl

pub number_itself_is_among_those_from_it : entries_from 5 three ≡ (5, 50) ∷ (9, 90) ∷ []
number_itself_is_among_those_from_it = refl

pub from_a_number_without_a_value : entries_from 6 three ≡ (9, 90) ∷ []
from_a_number_without_a_value = refl

pub none_from_past_the_last : entries_from 10 three ≡ []
none_from_past_the_last = refl
