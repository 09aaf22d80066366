-- The tags of constants.
use Rattle.std.specs.Prelude.{ℕ, List, [], ◌∷◌}

-- tags of constants (JVMS 4.4)
abbrev pub known_tags : List ℕ
known_tags = 1 ∷ 3 ∷ 4 ∷ 5 ∷ 6 ∷ 7 ∷ 8 ∷ 9 ∷ 10 ∷ 11 ∷ 12 ∷ 15 ∷ 16 ∷ 17 ∷ 18 ∷ 19 ∷ 20 ∷ []
