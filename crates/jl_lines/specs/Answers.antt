-- What is answered to the lines of an input. How one line is answered is a relation of the session before, the line, the text of an
-- answer, and the session afterwards.
use Rattle.std.specs.Prelude.{◌≡◌, ◌<◌, ◌≤◌, ◌⊎◌, ℕ, List, [], ◌∷◌, ◌++◌, length, Option, Some}
use Rattle.std.specs.Prelude.{⊤}
use Rattle.std.specs.List.{AllByRecursion, flat_map}
use Rattle.std.specs.Io.KnownBytes.{Appends, Consumes}
use Rattle.jl_lines.specs.declared.line_fault.LineFault.{LineFault}
use Rattle.jl_lines.specs.declared.line_fault.LineFault.TheVariants.{TooLong, Memory}
use Rattle.jl_lines.specs.Lines.{most_in_line, lines_of, NoNewline, ended}

-- ---- all lines

-- The output has an answer to each line, in order, each with a newline, and nothing else. Each line is answered by the
-- session that the lines before it left. A line may have several answers, of which want of memory may be one: one of them is there.
abbrev pub AreAnswers : {S : Type 0} → (S → List ℕ → List ℕ → S → Type 0) → S → List (List ℕ) → List ℕ → S → Type 0
AreAnswers says old [] output new = (output ≡ []) × (new ≡ old)
AreAnswers {S = S} says old (line ∷ lines) output new =
    (answer : List ℕ) × (rest : List ℕ) × (next : S) × says old line answer next
    × (output ≡ ended answer ++ rest)
    × AreAnswers says next lines rest new

-- the session if there is no memory for the answer to this line: as before, or as an answer leaves it
abbrev pub Lacks : {S : Type 0} → (S → List ℕ → List ℕ → S → Type 0) → S → List ℕ → S → Type 0
Lacks says old line new = (new ≡ old) ⊎ ((text : List ℕ) × says old line text new)

-- the session if there is no memory for the answer to the first of these lines; as before if there is no line
abbrev pub LacksFirst : {S : Type 0} → (S → List ℕ → List ℕ → S → Type 0) → S → List (List ℕ) → S → Type 0
LacksFirst says old [] new = new ≡ old
LacksFirst says old (line ∷ lines) new = Lacks says old line new

-- no line is over the limit
abbrev pub AreShort : List (List ℕ) → Type 0
AreShort lines = AllByRecursion (λ line. length line ≤ most_in_line) lines

-- ---- what a run leaves

-- each line is answered, from this session on, and no line is over the limit
pub record AnswersAll {S : Type 0} (says : S → List ℕ → List ℕ → S → Type 0) (from : S) (input : List ℕ) (old new : Option (List ℕ)) : Type 0 where
  pub short : AreShort (lines_of input)
  pub output : List ℕ
  pub last : S
  pub answers : AreAnswers says from (lines_of input) output last
  pub written : Appends old new output

-- the first lines are answered, each of them whole
pub record AnswersFirst {S : Type 0} (says : S → List ℕ → List ℕ → S → Type 0) (from : S) (input : List ℕ) (old new : Option (List ℕ)) : Type 0 where
  pub before : List (List ℕ)
  pub after : List (List ℕ)
  pub split : lines_of input ≡ before ++ after
  pub short : AreShort before
  pub output : List ℕ
  pub last : S
  pub answers : AreAnswers says from before output last
  pub written : Appends old new output

-- the lines are answered of which the newline was read, and now this is left to read
pub record AnswersRead {S : Type 0} (says : S → List ℕ → List ℕ → S → Type 0) (from : S) (input : List ℕ) (now old new : Option (List ℕ)) : Type 0 where
  pub before : List (List ℕ)
  pub tail : List ℕ
  pub read : Consumes (Some input) now (flat_map ended before ++ tail)
  pub one : NoNewline tail
  pub output : List ℕ
  pub last : S
  pub answers : AreAnswers says from before output last
  pub written : Appends old new output

-- The first lines are answered, each of them whole, and among them all whose newline had been read when this was left to read.
pub record AnswersEarlier {S : Type 0} (says : S → List ℕ → List ℕ → S → Type 0) (from : S) (input : List ℕ) (unread old new : Option (List ℕ)) : Type 0 where
  pub first : AnswersFirst says from input old new
  pub lines : List (List ℕ)
  pub tail : List ℕ
  pub read : Consumes (Some input) unread (flat_map ended lines ++ tail)
  pub one : NoNewline tail
  pub more : List (List ℕ)
  pub all : first.before ≡ lines ++ more

-- the first line is over the limit
abbrev pub FirstIsLong : List (List ℕ) → Type 0
FirstIsLong [] = ⊥
FirstIsLong (line ∷ lines) = most_in_line < length line

-- a line is too long: then the next one is over the limit
abbrev pub LongIf : LineFault → List (List ℕ) → Type 0
LongIf TooLong after = FirstIsLong after
LongIf _ after = ⊤

-- The session that a fault leaves: the one after the answered lines. After want of memory the next line's command may
-- have been obeyed, and no other.
abbrev pub LeftBy : {S : Type 0} → LineFault → (S → List ℕ → List ℕ → S → Type 0) → S → List (List ℕ) → S → Type 0
LeftBy Memory says last after new = LacksFirst says last after new
LeftBy _ says last after new = new ≡ last
