-- The lines of an input.
use Rattle.std.specs.Prelude.{◌≡◌, ℕ, ◌==◌, false, if◌then◌else◌, List, [], ◌∷◌, ◌++◌}
use Rattle.std.specs.List.{AllByRecursion}

abbrev pub newline : ℕ
newline = 10

-- the most bytes of a line, without its newline
abbrev pub most_in_line : ℕ
most_in_line = 2100000

-- a byte before the first line
abbrev pub onto_first : ℕ → List (List ℕ) → List (List ℕ)
onto_first b [] = (b ∷ []) ∷ []
onto_first b (line ∷ lines) = (b ∷ line) ∷ lines

-- The pieces between newlines. What stands after the last newline is a line, too, unless it is
-- empty.
unfoldable pub lines_of : List ℕ → List (List ℕ)
lines_of [] = []
lines_of (b ∷ bytes) = if b == newline then [] ∷ lines_of bytes else onto_first b (lines_of bytes)

-- ---- what was read of an input

abbrev pub NoNewline : List ℕ → Type 0
NoNewline bytes = AllByRecursion (λ b. (b == newline) ≡ false) bytes

-- a line as it stands before others
abbrev pub ended : List ℕ → List ℕ
ended line = line ++ newline ∷ []
