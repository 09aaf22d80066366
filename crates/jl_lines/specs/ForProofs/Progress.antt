-- How far the lines of an input are answered. Only private clauses cite this.
use Rattle.std.specs.Prelude.{◌≡◌, ◌<◌, ◌≤◌, ◌+◌, take, drop, ℕ, List, ◌∷◌, ◌++◌, length, Option, IfSome}
use Rattle.std.specs.List.{flat_map, AllByRecursion}
use Rattle.std.specs.Io.KnownBytes.{Appends, Consumes}
use Rattle.jl_lines.specs.declared.line_fault.LineFault.{LineFault}
use Rattle.jl_lines.specs.declared.line_fault.LineFault.TheVariants.{TooLong, Device, Memory}
use Rattle.jl_lines.specs.Lines.{newline, most_in_line, NoNewline, ended}
use Rattle.jl_lines.specs.Answers.{AreAnswers, Lacks, LacksFirst, AnswersFirst, AnswersRead, AnswersEarlier, LongIf, LeftBy}

-- the first newline stands at this place
pub record IsFirstNewline (bytes : List ℕ) (at : ℕ) : Type 0 where
  pub within : at < length bytes
  pub before : NoNewline (take at bytes)
  pub split : bytes ≡ take at bytes ++ newline ∷ drop (at + 1) bytes

-- a line that may be answered
pub record IsLine (line : List ℕ) : Type 0 where
  pub one : NoNewline line
  pub short : length line ≤ most_in_line

-- the bytes are whole lines, which the output answers
pub record Answered {S : Type 0} (says : S → List ℕ → List ℕ → S → Type 0) (from : S) (done output : List ℕ) (last : S) : Type 0 where
  pub lines : List (List ℕ)
  pub whole : done ≡ flat_map ended lines
  pub each : AllByRecursion IsLine lines
  pub answers : AreAnswers says from lines output last

-- of the bytes some lines are answered, and the answers stand after the old ones
pub record Gathers {S : Type 0} (says : S → List ℕ → List ℕ → S → Type 0) (from : S) (bytes old new : List ℕ) : Type 0 where
  pub done : List ℕ
  pub left : List ℕ
  pub output : List ℕ
  pub last : S
  pub split : bytes ≡ done ++ left
  pub answered : Answered says from done output last
  pub added : new ≡ old ++ output

-- of the bytes some lines are answered, and the answers are written
pub record Writes {S : Type 0} (says : S → List ℕ → List ℕ → S → Type 0) (from : S) (bytes : List ℕ) (old new : Option (List ℕ)) : Type 0 where
  pub done : List ℕ
  pub left : List ℕ
  pub output : List ℕ
  pub last : S
  pub split : bytes ≡ done ++ left
  pub answered : Answered says from done output last
  pub written : Appends old new output

-- of what was read some lines are answered, the answers are written, and this is held
pub record Runs {S : Type 0} (says : S → List ℕ → List ℕ → S → Type 0) (from last : S) (start now : Option (List ℕ)) (held : List ℕ)
    (old new : Option (List ℕ)) : Type 0 where
  pub done : List ℕ
  pub output : List ℕ
  pub answered : Answered says from done output last
  pub read : Consumes start now (done ++ held)
  pub written : Appends old new output

-- no line begins here that may be answered
pub record IsOver (left : List ℕ) : Type 0 where
  pub one : NoNewline left
  pub long : most_in_line < length left

-- a line begins here, and there is no memory for its answer
pub record LacksNext {S : Type 0} (says : S → List ℕ → List ℕ → S → Type 0) (last : S) (left : List ℕ) (new : S) : Type 0 where
  pub line : List ℕ
  pub later : List ℕ
  pub is : left ≡ line ++ newline ∷ later
  pub one : NoNewline line
  pub lacks : Lacks says last line new

-- why no more lines are answered
abbrev pub StopsBy : {S : Type 0} → LineFault → (S → List ℕ → List ℕ → S → Type 0) → S → List ℕ → S → Type 0
StopsBy TooLong says last left new = IsOver left × (new ≡ last)
StopsBy Device says last left new = new ≡ last
StopsBy Memory says last left new = LacksNext says last left new

-- What a run leaves that ends with this fault. This is left to read now, and that was unread before the last read. The writer held the
-- old bytes and holds the new ones. Whether a write failed is said apart.
pub record Leaves {S : Type 0} (says : S → List ℕ → List ℕ → S → Type 0) (from last : S) (start now unread old new : Option (List ℕ))
    (failed : Type 0) (f : LineFault) : Type 0 where
  pub whole : (f ≡ Device → ¬ failed) → IfSome start (λ text. (first : AnswersFirst says from text old new)
      × LongIf f first.after × LeftBy f says first.last first.after last)
  pub read : f ≡ Device → ¬ failed → IfSome start (λ text. (read : AnswersRead says from text now old new) × (last ≡ read.last))
  pub memory : f ≡ Memory → IfSome start (λ text. (earlier : AnswersEarlier says from text unread old new)
      × LacksFirst says earlier.first.last earlier.first.after last)
