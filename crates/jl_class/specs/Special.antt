-- Names of initializers (JVMS 2.9).
use Rattle.std.specs.Prelude.{ℕ, Bool, false, ◌==◌, List, [], ◌∷◌}
use Rattle.std.specs.Str.{byte}

-- it begins with <
abbrev pub begins_special : List ℕ → Bool
begins_special [] = false
begins_special (b ∷ bs) = b == byte "<"
