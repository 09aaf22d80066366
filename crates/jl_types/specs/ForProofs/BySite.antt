-- Values by site, as maps keep them: in no particular order, and by rising number. A means of proof.
use Rattle.std.specs.Prelude.{ℕ, ◌==◌, nat_lt, List, [], ◌∷◌, find, Option, option_map, if◌then◌else◌}

-- the value of site s
abbrev pub value_at : {A : Type 0} → List (ℕ × A) → ℕ → Option A
value_at rows s = option_map (λ row. row.1) (find (λ row. row.0 == s) rows)

-- the values with that of site s in its place
abbrev pub put : {A : Type 0} → ℕ → A → List (ℕ × A) → List (ℕ × A)
put s x [] = (s, x) ∷ []
put s x (row ∷ rows) =
    if nat_lt s row.0 then (s, x) ∷ row ∷ rows else if s == row.0 then (s, x) ∷ rows else row ∷ put s x rows

-- the values by rising number; of several entries of a site the first counts
abbrev pub by_site : {A : Type 0} → List (ℕ × A) → List (ℕ × A)
by_site [] = []
by_site (entry ∷ entries) = put entry.0 entry.1 (by_site entries)
