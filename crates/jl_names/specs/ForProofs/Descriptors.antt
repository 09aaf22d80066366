-- A field descriptor (JVMS SE 17 §4.3.2) read at the front: the type and what is left, or what is left from the
-- place on at which it can't go on. Only private clauses cite this.
use Rattle.std.specs.Prelude.{◌≡◌, Bool, true, ℕ, List, [], ◌∷◌, take, drop, Option, Some, None, Result, Ok, Err}
use Rattle.std.specs.Prelude.{if◌then◌else◌, ◌==◌, ◌&&◌, ◌||◌, not}
use Rattle.std.specs.List.{prefix_len}
use Rattle.std.specs.Str.{byte}
use Rattle.std.specs.Borrow.{Bor}
use Rattle.jl_names.specs.declared.descriptor.Element.{Element}
use Rattle.jl_names.specs.declared.descriptor.Element.TheVariants.{Byte, Char, Double, Float, Int}
use Rattle.jl_names.specs.declared.descriptor.Element.TheVariants.{Long, Short, Boolean, Class}
use Rattle.jl_names.specs.declared.descriptor.FieldType.{FieldType}
use Rattle.jl_names.specs.ForProofs.Steps.{◌>>=◌}

-- what a function returned is what is read
abbrev pub Stops : {X Y : Type 0} → (X → Y) → Result X (Bor (List ℕ)) → Result Y (List ℕ) → Type 0
Stops view (Ok x) read = read ≡ Ok (view x)
Stops view (Err rest) read = read ≡ Err rest.now

-- what a byte weighs in a class name: 2 if no name has it, 1 for a slash
abbrev pub weight : ℕ → ℕ
weight b = if (b == byte ".") || ((b == byte ";") || (b == byte "[")) then 2 else (if b == byte "/" then 1 else 0)

-- a class name ends before this byte, or can't go on with it; `fresh`: a part of the name begins here
abbrev pub is_stop : Bool → ℕ → Bool
is_stop fresh b = (b == byte ".") || ((b == byte ";") || ((b == byte "[") || ((b == byte "/") && fresh)))

-- a class name ends before this byte
abbrev pub is_end : Bool → ℕ → Bool
is_end fresh b = (b == byte ";") && not fresh

-- with the name's first byte in front
abbrev pub longer : ℕ → Result (List ℕ × List ℕ) (List ℕ) → Result (List ℕ × List ℕ) (List ℕ)
longer b read = read >>= λ x. Ok (b ∷ x.0, x.1)

unfoldable pub class_at : Bool → List ℕ → Result (List ℕ × List ℕ) (List ℕ)
class_at fresh [] = Err []
class_at fresh (b ∷ bs) =
    if is_stop fresh b then (if is_end fresh b then Ok ([], bs) else Err (b ∷ bs))
    else longer b (class_at (b == byte "/") bs)

-- the type of one letter
abbrev pub letter : ℕ → Option Element
letter b =
    if b == byte "B" then Some Byte
    else (if b == byte "C" then Some Char
    else (if b == byte "D" then Some Double
    else (if b == byte "F" then Some Float
    else (if b == byte "I" then Some Int
    else (if b == byte "J" then Some Long
    else (if b == byte "S" then Some Short
    else (if b == byte "Z" then Some Boolean else None)))))))

-- an element whose first byte is this letter's, or else a class
abbrev pub element_after : Option Element → ℕ → List ℕ → Result (Element × List ℕ) (List ℕ)
element_after (Some e) b bs = Ok (e, bs)
element_after None b bs =
    if b == byte "L" then (class_at true bs >>= λ x. Ok (Class x.0, x.1)) else Err (b ∷ bs)

unfoldable pub element_at : List ℕ → Result (Element × List ℕ) (List ℕ)
element_at [] = Err []
element_at (b ∷ bs) = element_after (letter b) b bs

-- how many brackets stand at the front of the first bytes
abbrev pub brackets_within : ℕ → List ℕ → ℕ
brackets_within most text = prefix_len (λ b. b == byte "[") (take most text)

-- how many stand at the front, 255 at most
abbrev pub brackets : List ℕ → ℕ
brackets text = brackets_within 255 text

-- a type of so many dimensions
abbrev pub as_array : ℕ → Element × List ℕ → FieldType × List ℕ
as_array dimensions x = (record { dimensions = dimensions; element = x.0 }, x.1)

unfoldable pub field_at : List ℕ → Result (FieldType × List ℕ) (List ℕ)
field_at text =
    element_at (drop (brackets text) text) >>= λ x. Ok (as_array (brackets text) x)
