-- A name's text, by its units read from its bytes.
use Rattle.std.specs.Prelude.{ℕ, ◌+◌, ◌*◌, ◌%◌, ◌==◌, ◌&&◌, not, Bool, nat_lt, if◌then◌else◌, List, [], ◌∷◌}
use Rattle.std.specs.List.{list_all}
use Rattle.std.specs.Str.{bytes_eq}
use Rattle.jl_names.specs.Mutf8.{mutf8}
use Rattle.jl_json.specs.Names.{units_text}

-- The units, each of one, two or three bytes, as its first one says. What a cut unit has is
-- dropped.
abbrev pub units_of : List ℕ → List ℕ
units_of [] = []
units_of (a ∷ []) = if nat_lt a 0x80 then a ∷ [] else []
units_of (a ∷ b ∷ []) =
    if nat_lt a 0x80 then a ∷ units_of (b ∷ [])
    else (if nat_lt a 0xe0 then (a % 32 * 64 + b % 64) ∷ [] else [])
units_of (a ∷ b ∷ c ∷ rest) =
    if nat_lt a 0x80 then a ∷ units_of (b ∷ c ∷ rest)
    else (if nat_lt a 0xe0 then (a % 32 * 64 + b % 64) ∷ units_of (c ∷ rest)
    else (a % 16 * 4096 + b % 64 * 64 + c % 64) ∷ units_of rest)

unfoldable pub name_text : List ℕ → List ℕ
name_text name = if bytes_eq (mutf8 (units_of name)) name then units_text (units_of name) else []

-- each unit has one byte
abbrev pub is_plain : List ℕ → Bool
is_plain name = list_all (λ b. not (b == 0) && nat_lt b 0x80) name
