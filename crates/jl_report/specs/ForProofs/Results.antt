-- The class or interface that the result of a method descriptor is, read from its text.
use Rattle.std.specs.Prelude.{ℕ, ◌-◌, Bool, false, not, ◌&&◌, ◌==◌, if◌then◌else◌, List, [], ◌∷◌, take, length, Option, Some, None}
use Rattle.std.specs.Str.{byte}

-- the byte closes the parameters: no bracket does in the name of a class
abbrev pub closes : Bool → ℕ → Bool
closes in_name b = not in_name && (b == byte ")")

-- the next byte stands in the name of a class, which L begins and a semicolon ends
abbrev pub still_in_name : Bool → ℕ → Bool
still_in_name in_name b = if in_name then not (b == byte ";") else b == byte "L"

-- what stands after the parameters
abbrev pub after_parameters : Bool → List ℕ → List ℕ
after_parameters in_name [] = []
after_parameters in_name (b ∷ bs) = if closes in_name b then bs else after_parameters (still_in_name in_name b) bs

-- the name between L and the last byte, a semicolon
abbrev pub class_named : List ℕ → Option (List ℕ)
class_named [] = None
class_named (b ∷ bs) = if b == byte "L" then Some (take (length bs - 1) bs) else None

abbrev pub result_class : List ℕ → Option (List ℕ)
result_class text = class_named (after_parameters false text)
