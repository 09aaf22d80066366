-- What the program has done that was called with words, if it ends with the end of its input.
use Rattle.std.specs.Prelude.{◌≡◌, ℕ, List, Option, IfSome}
use Rattle.std.specs.Io.KnownBytes.{IsAtEnd}
use Rattle.core.specs.declared.marker.Brand.{Brand}
use Rattle.jl_types.specs.Events.Limits.{fixed}
use Rattle.jl_words.specs.Words.{AskFor}
use Rattle.jl_words.specs.declared.words.Words.{Words}
use Rattle.jl_words.specs.declared.words.Words.TheVariants.{Lines, Farm}
use Rattle.jl_session.specs.Sessions.{new_session}
use Rattle.jl_lines.specs.Answers.{AnswersAll}
use Rattle.jl_cli.specs.declared.ending.Ending.{Ending}
use Rattle.jl_cli.specs.declared.ending.Ending.TheVariants.{InputEnded}
use Rattle.jl_cli.specs.Modes.{IsAnswer}
use Rattle.jl_cli.specs.Farms.{FarmsAll}

-- each line of the input is answered, in the mode that the words ask for, or by a farm
abbrev pub AnswersAsked : Words → List ℕ → Option (List ℕ) → Option (List ℕ) → Type 0
AnswersAsked (Lines mode) input old new = AnswersAll (IsAnswer mode) new_session input old new
AnswersAsked (Farm workers) input old new = FarmsAll Brand (fixed 65536) input old new

-- the input was read to its end, and its lines were answered
abbrev pub HasAnswered : Words → Option (List ℕ) → Option (List ℕ) → Option (List ℕ) → Option (List ℕ) → Type 0
HasAnswered asked unread left old new = IsAtEnd left × IfSome unread (λ input. AnswersAsked asked input old new)

-- the words ask for something, which was done if the program ends with the end of its input
abbrev pub DoesAsked : List (List ℕ) → Ending → Option (List ℕ) → Option (List ℕ) → Option (List ℕ) → Option (List ℕ) → Type 0
DoesAsked words ending unread left old new =
    (asked : Words) × AskFor asked words × (ending ≡ InputEnded → HasAnswered asked unread left old new)
