-- Worked rows of what faults leave, of how the program ends, and of a farm's jobs.
use Rattle.std.proofs.Common.{◌≡◌, ℕ, true, false, List, [], ◌∷◌, ◌++◌, length, Option, Some, refl, ap, sym, ◌∙◌, subst, inl, inr, arith, length-append}
use Rattle.std.proofs.lemmas.List.{append-nil}
use Rattle.std.specs.Prelude.{codes}
use Rattle.std.specs.List.{flat_map}
use Rattle.jl_types.specs.Events.Limits.{fixed}
use Rattle.jl_types.specs.declared.link.Link.{Link}
use Rattle.jl_farm.specs.declared.fault.FarmFault.TheVariants as farm_fault
use Rattle.jl_core.specs.State.{empty_core}
use Rattle.jl_lines.specs.declared.line_fault.LineFault.TheVariants.{TooLong, Device, Memory}
use Rattle.jl_cli.specs.declared.farm_fault.FarmLineFault.TheVariants.{Line, Farm}
use Rattle.jl_words.specs.declared.words.WordsFault.TheVariants as words_fault
use Rattle.jl_words.specs.declared.words.Mode.{Mode}
use Rattle.jl_words.specs.declared.words.Mode.TheVariants.{Scan, Sketch, Run}
use Rattle.jl_cli.specs.declared.ending.Ending.TheVariants.{InputEnded}
use Rattle.jl_cli.specs.Endings.{status_of, line_of, words_end, lines_end, farm_end}
use Rattle.jl_session.specs.Sessions.{Session, new_session}
use Rattle.jl_lines.specs.Lines.{newline, lines_of, NoNewline, ended}
use Rattle.jl_lines.specs.Answers.{AreAnswers, AnswersEarlier, LongIf, LeftBy}
use Rattle.jl_cli.specs.Modes.{IsAnswer}
use Rattle.jl_cli.specs.Farms.{job_of_each}

-- ---- how the program ends

-- the words that ask for nothing
bad_words_end : status_of (words_end words_fault.BadWords) ≡ 1
bad_words_end = refl

bad_words_line : line_of (words_end words_fault.BadWords) ≡ codes "linkd: bad words\n"
bad_words_line = refl

words_memory_end : status_of (words_end words_fault.Memory) ≡ 4
words_memory_end = refl

-- lines, and a farm's lines as they
long_end : status_of (lines_end TooLong) ≡ 2
long_end = refl

long_line : line_of (lines_end TooLong) ≡ codes "linkd: line too long\n"
long_line = refl

device_end : status_of (lines_end Device) ≡ 3
device_end = refl

device_line : line_of (lines_end Device) ≡ codes "linkd: input or output failed\n"
device_line = refl

memory_end : status_of (lines_end Memory) ≡ 4
memory_end = refl

memory_line : line_of (lines_end Memory) ≡ codes "linkd: out of memory\n"
memory_line = refl

farm_line_ends : farm_end (Line TooLong) ∷ farm_end (Line Device) ∷ farm_end (Line Memory) ∷ []
    ≡ lines_end TooLong ∷ lines_end Device ∷ lines_end Memory ∷ []
farm_line_ends = refl

-- a farm that failed
failed_farm_ends : status_of (farm_end (Farm farm_fault.NoThread)) ∷ status_of (farm_end (Farm farm_fault.Memory)) ∷ [] ≡ 1 ∷ 1 ∷ []
failed_farm_ends = refl

failed_farm_line : line_of (farm_end (Farm farm_fault.NoThread)) ≡ codes "linkd: farm failed\n"
failed_farm_line = refl

-- an input that ended
input_end : status_of InputEnded ≡ 0
input_end = refl

input_line : line_of InputEnded ≡ []
input_line = refl

-- ---- a line that is too long

-- it is the next one, and has over 2,100,000 bytes
long_next : (line : List ℕ) (lines : List (List ℕ)) → length line ≡ 2100001 → LongIf TooLong (line ∷ lines)
long_next line lines size = omega (arith, size)

not_long_at_limit : (line : List ℕ) (lines : List (List ℕ)) → length line ≡ 2100000 → LongIf TooLong (line ∷ lines) → ⊥
not_long_at_limit line lines size long = omega (arith, size, long)

not_long_after : (line : List ℕ) → length line ≡ 2100001 → LongIf TooLong (codes "links" ∷ line ∷ []) → ⊥
not_long_after line size long = omega (arith, long)

not_long_at_end : LongIf TooLong [] → ⊥
not_long_at_end long = long

-- of the other faults nothing is said
device_is_not_long : (lines : List (List ℕ)) → LongIf Device lines
device_is_not_long lines = tt

memory_is_not_long : (lines : List (List ℕ)) → LongIf Memory lines
memory_is_not_long lines = tt

-- ---- the session that a fault leaves

-- a new session with one batch
abbrev one_batch : Session
one_batch = record { core = empty_core (fixed 65536); batches = [] ∷ [] }

other_session : one_batch ≡ new_session → ⊥
other_session same = let batches : ◌≡◌ {A = List (List (ℕ × Link))} ([] ∷ []) [] = λ i. (same i).batches in cc batches

-- the session of the lines that were answered
long_leaves : (mode : Mode) (last : Session) (after : List (List ℕ)) → LeftBy TooLong (IsAnswer mode) last after last
long_leaves mode last after = refl

long_changes_none : (mode : Mode) (after : List (List ℕ)) → LeftBy TooLong (IsAnswer mode) new_session after one_batch → ⊥
long_changes_none mode after left = other_session left

device_leaves : (mode : Mode) (last : Session) (after : List (List ℕ)) → LeftBy Device (IsAnswer mode) last after last
device_leaves mode last after = refl

device_changes_none : (mode : Mode) (after : List (List ℕ)) → LeftBy Device (IsAnswer mode) new_session after one_batch → ⊥
device_changes_none mode after left = other_session left

-- want of memory, too, if no line follows
memory_leaves_at_end : (mode : Mode) → LeftBy Memory (IsAnswer mode) new_session [] one_batch → ⊥
memory_leaves_at_end mode left = other_session left

-- and in the modes without commands
memory_leaves_scan : (line : List ℕ) (after : List (List ℕ)) → LeftBy Memory (IsAnswer Scan) new_session (line ∷ after) one_batch → ⊥
memory_leaves_scan line after (inl same) = other_session same
memory_leaves_scan line after (inr said) = other_session said.1.1

memory_leaves_sketch : (line : List ℕ) (after : List (List ℕ)) → LeftBy Memory (IsAnswer Sketch) new_session (line ∷ after) one_batch → ⊥
memory_leaves_sketch line after (inl same) = other_session same
memory_leaves_sketch line after (inr said) = other_session said.1.1

-- in the mode run the session may be as before, whatever the next line is
memory_may_leave : (line : List ℕ) (after : List (List ℕ)) → LeftBy Memory (IsAnswer Run) new_session (line ∷ after) new_session
memory_may_leave line after = inl refl

-- ---- lines whose newline was read earlier

module _ (from : Session) where
  -- nothing is written of the line x and its newline, of which this was left to read
  abbrev Nothing : Option (List ℕ) → Type 0
  Nothing unread = AnswersEarlier (IsAnswer Scan) from (codes "x\n") unread (Some []) (Some [])

  -- an answer to a line is something
  no_answers : (lines : List (List ℕ)) (output : List ℕ) (last : Session) → AreAnswers (IsAnswer Scan) from lines output last → output ≡ [] → lines ≡ []
  no_answers [] output last answers none = refl
  no_answers (line ∷ lines) output last answers none =
      absurd (omega (arith, ap length (sym answers.4 ∙ none), length-append (ended answers.0) answers.1, length-append answers.0 (newline ∷ [])))

  one_newline : (lines more : List (List ℕ)) (tail : List ℕ) → lines ++ more ≡ [] → codes "x\n" ≡ (flat_map ended lines ++ tail) ++ [] → NoNewline tail → ⊥
  one_newline [] more tail none read one =
      let whole : codes "x\n" ≡ tail = read ∙ append-nil tail in
      let last : true ≡ false = (subst NoNewline (sym whole) one).1.0 in cc last
  one_newline (line ∷ lines) more tail none read one = absurd (cc none)

  -- if all was read before, the line is answered
  answered_when_read : Nothing (Some []) → ⊥
  answered_when_read left =
      one_newline left.lines left.more left.tail (sym left.all ∙ no_answers left.first.before left.first.output left.first.last left.first.answers
      (sym left.first.written)) left.read left.one

  -- if its newline wasn't, it need not be
  not_yet : Nothing (Some (newline ∷ []))
  unfolding lines_of
  not_yet = record {
    first = record { before = []; after = codes "x" ∷ []; split = refl; short = tt; output = []; last = from; answers = (refl, refl); written = refl };
    lines = [];
    tail = codes "x";
    read = refl;
    one = (refl, tt);
    more = [];
    all = refl;
  }

  -- and of no line nothing is answered
  nothing_of_no_line : (unread : Option (List ℕ)) (b : ℕ) → AnswersEarlier (IsAnswer Scan) from [] unread (Some []) (Some (b ∷ [])) → ⊥
  unfolding lines_of
  nothing_of_no_line unread b left = by_lines left.first.before left.first.after left.first.output left.first.last left.first.split left.first.answers
      left.first.written
    where
      by_lines : (before after : List (List ℕ)) (output : List ℕ) (last : Session) → [] ≡ before ++ after
          → AreAnswers (IsAnswer Scan) from before output last → b ∷ [] ≡ output → ⊥
      by_lines [] after output last none answers written = let clash : b ∷ [] ≡ [] = written ∙ answers.0 in cc clash
      by_lines (line ∷ before) after output last none answers written = cc none

-- ---- a farm's jobs

-- one for each site, in their order
jobs_of_three : job_of_each (0 ∷ 1 ∷ 2 ∷ []) ≡ (0 ∷ []) ∷ (1 ∷ []) ∷ (2 ∷ []) ∷ []
jobs_of_three = refl

jobs_of_none : job_of_each [] ≡ []
jobs_of_none = refl
