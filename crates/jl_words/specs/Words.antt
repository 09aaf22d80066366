-- What the words ask for that a program is called with.
use Rattle.std.specs.Prelude.{◌≡◌, ◌≤◌, ◌⊎◌, ℕ, List, [], ◌∷◌, ◌++◌, codes}
use Rattle.std.specs.Str.Parse.{IsNumeral, digits_value, without_leading_plus}
use Rattle.jl_words.specs.declared.words.Words.{Words}
use Rattle.jl_words.specs.declared.words.Words.TheVariants.{Lines, Farm}
use Rattle.jl_words.specs.declared.words.Mode.{Mode}
use Rattle.jl_words.specs.declared.words.Mode.TheVariants.{Scan, Sketch, Run}

-- the mode's subcommand
abbrev pub word_of : Mode → List ℕ
word_of Scan = codes "scan"
word_of Sketch = codes "sketch"
word_of Run = codes "run"

-- the subcommand that asks for this
abbrev pub subcommand_word : Words → List ℕ
subcommand_word (Lines mode) = word_of mode
subcommand_word (Farm count) = codes "farm"

-- decimal digits that write the number, after a plus or not
abbrev pub IsNumber : ℕ → List ℕ → Type 0
IsNumber number text =
    IsNumeral 10 (without_leading_plus text)
    × (number ≡ digits_value 10 (without_leading_plus text))

-- the option that says how many workers, in two words or in one, as `--workers 4` and `--workers=4`
abbrev pub SaysWorkers : ℕ → List (List ℕ) → Type 0
SaysWorkers count option =
    (text : List ℕ) × IsNumber count text × (1 ≤ count) × (count ≤ 16)
    × ((option ≡ codes "--workers" ∷ text ∷ []) ⊎ (option ≡ (codes "--workers=" ++ text) ∷ []))

-- what stands after the subcommand
abbrev pub IsOption : Words → List (List ℕ) → Type 0
IsOption (Lines mode) option = option ≡ []
IsOption (Farm count) option = SaysWorkers count option

-- nothing, or the word that ends options
abbrev pub IsEnd : List (List ℕ) → Type 0
IsEnd words = (words ≡ []) ⊎ (words ≡ codes "--" ∷ [])

-- The words ask for this: the program's name, whatever that is, the subcommand, its option, and an
-- end.
abbrev pub AskFor : Words → List (List ℕ) → Type 0
AskFor asked words =
    (name : List ℕ) × (option : List (List ℕ)) × (end : List (List ℕ))
    × (words ≡ name ∷ subcommand_word asked ∷ option ++ end) × IsOption asked option × IsEnd end

abbrev pub AskForNothing : List (List ℕ) → Type 0
AskForNothing words = (asked : Words) → ¬ AskFor asked words
