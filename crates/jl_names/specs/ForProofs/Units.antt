-- A unit of modified UTF-8 (JVMS SE 17 §4.4.7) read at the front: the unit and what is left, or why none
-- stands there. Only private clauses cite this.
use Rattle.std.specs.Prelude.{◌≡◌, Bool, ℕ, ◌+◌, ◌-◌, ◌*◌, List, [], ◌∷◌, Result, Ok, Err}
use Rattle.std.specs.Prelude.{if◌then◌else◌, nat_le, nat_lt, ◌==◌, ◌&&◌, ◌||◌, not}
use Rattle.std.specs.Borrow.{Bor}
use Rattle.jl_names.specs.declared.mutf8.Broken.{Broken}
use Rattle.jl_names.specs.declared.mutf8.Broken.TheVariants.{Cut, Bad}

-- what a function returned is what is read
abbrev pub Gives : Result (ℕ × Bor (List ℕ)) Broken → Result (ℕ × List ℕ) Broken → Type 0
Gives (Ok x) read = read ≡ Ok (x.0, x.1.now)
Gives (Err e) read = read ≡ Err e

-- no byte that may follow a unit's first one
abbrev pub not_later : ℕ → Bool
not_later b = nat_lt b 0x80 || nat_lt 0xbf b

-- the unit of two bytes
abbrev pub two : ℕ → ℕ → ℕ
two a b = (a - 0xc0) * 64 + (b - 0x80)

-- the unit of three bytes
abbrev pub three : ℕ → ℕ → ℕ → ℕ
three a b c = (a - 0xe0) * 4096 + (b - 0x80) * 64 + (c - 0x80)

unfoldable pub two_at : ℕ → List ℕ → Result (ℕ × List ℕ) Broken
two_at a [] = Err Cut
two_at a (b ∷ rest) =
    if not_later b then Err Bad
    else (if not (two a b == 0) && nat_lt (two a b) 0x80 then Err Bad else Ok (two a b, rest))

unfoldable pub three_at : ℕ → List ℕ → Result (ℕ × List ℕ) Broken
three_at a [] = Err Cut
three_at a (b ∷ []) = Err Cut
three_at a (b ∷ c ∷ rest) =
    if not_later b || not_later c then Err Bad
    else (if nat_lt (three a b c) 0x800 then Err Bad else Ok (three a b c, rest))

unfoldable pub unit_at : List ℕ → Result (ℕ × List ℕ) Broken
unit_at [] = Err Cut
unit_at (a ∷ rest) =
    if nat_le 0x01 a && nat_le a 0x7f then Ok (a, rest)
    else (if nat_le 0xc0 a && nat_le a 0xdf then two_at a rest
    else (if nat_le 0xe0 a && nat_le a 0xef then three_at a rest else Err Bad))
