-- What a clause sees of values by number.
use Rattle.std.specs.Prelude.{ℕ, ◌<◌, ◌==◌, nat_lt, not, List, find, filter, Option, option_map, AllPairs, refl}
use Rattle.std.specs.Coded.{Coded, code_by, coded×, coded_ℕ, coded_list}

-- the numbers that have a value, each with its value, by rising number; and the number below which there is room for values
pub record Numbered (T : Type 0) : Type 0 where
  pub entries : List (ℕ × T)
  pub room : ℕ

-- such values are stored as the pair of the fields
abbrev pub numbered_code : {T : Type 0} → Coded T → Coded (Numbered T)
numbered_code {T} code =
    code_by (List (ℕ × T) × ℕ) (coded× (coded_list (coded× coded_ℕ code)) coded_ℕ) (λ m. (m.entries, m.room))
    (λ p. record { entries = p.0; room = p.1 }) (λ _. refl)

-- the value of the number
abbrev pub value_at : {T : Type 0} → List (ℕ × T) → ℕ → Option T
value_at entries n = option_map (λ row. row.1) (find (λ row. row.0 == n) entries)

-- each number stands once, by rising number
abbrev pub AreRising : {T : Type 0} → List (ℕ × T) → Type 0
AreRising entries = AllPairs (λ a b. a.0 < b.0) entries

-- the entries from the number on
abbrev pub entries_from : {T : Type 0} → ℕ → List (ℕ × T) → List (ℕ × T)
entries_from n entries = filter (λ row. not (nat_lt row.0 n)) entries
