-- What clap makes of the words.
use Rattle.std.proofs.Common.{◌≡◌, ◌∙◌, ◌⊎◌, inl, inr, sym, ap, refl, subst, ℕ, zero, suc}
use Rattle.std.proofs.Common.{List, [], ◌∷◌, ◌++◌, true, false, Option, Some, None}
use Rattle.std.proofs.Common.{option_map, is_some, codes, fold, length}
use Rattle.std.specs.Prelude.{slice_get}
use Rattle.std.specs.Str.{bytes_eq, chars}
use Rattle.std.proofs.lemmas.Slice.Eq.{bytes_eq-Decides}
use Rattle.clap.specs.Lexer.{long_of, short_of}
use Rattle.clap.specs.Kinds.{Kinds, IsAmong, or_else}
use Rattle.clap.specs.declared.error.kind.ErrorKind.{ErrorKind}
use Rattle.clap.specs.declared.error.kind.ErrorKind.TheVariants.{OutOfMemory}
use Rattle.clap.specs.declared.parser.matches.ArgMatches.{ArgMatches}
use Rattle.clap.specs.Walk.{Names, Row, Text, Walk, Step, value, idle, plain, after_flag}
use Rattle.clap.specs.Walk.{after_step, bundle_met, bundle_step, long_or_other, short_or_plain}
use Rattle.clap.specs.Walk.{subcommand_or_other, subcommand_met, nothing_held, walk_from, walked}
use Rattle.clap.specs.Walk.{settled, finished}
use Rattle.clap.specs.Simple.{App, Shape, HasMatchesOf, is_simple}
use Rattle.clap.specs.Simple.{subcommand_rows_of, built, entered, subcommand_of}
use Rattle.clap.specs.Faults.{fault_of, is_simple_and_free, check_fault, defaults_fault}
use Rattle.clap.specs.Faults.{entered_fault, level_fault, settle_fault, step_fault, stray_fault}
use Rattle.clap.specs.Faults.{turn_fault, walk_fault}
use Rattle.clap.proofs.FaultLemmas.{past, stopped_fault}
use Rattle.clap.proofs.WalkLemmas.{walk_stopped}
use Rattle.jl_words.specs.declared.words.WordsFault.{WordsFault}
use Rattle.jl_words.specs.declared.words.WordsFault.TheVariants.{BadWords, Memory}
use Rattle.jl_words.specs.declared.words.Words.{Words}
use Rattle.jl_words.specs.declared.words.Words.TheVariants.{Lines, Farm}
use Rattle.jl_words.specs.declared.words.Mode.{Mode}
use Rattle.jl_words.specs.declared.words.Mode.TheVariants.{Scan, Sketch, Run}
use Rattle.jl_words.specs.Words.{IsEnd, AskFor, AskForNothing, word_of}
use Rattle.jl_words.specs.ForProofs.CommandLine.{asked_by, bare_command, linkd}
use Rattle.jl_names.proofs.Tests.{by_test}
use Rattle.jl_words.proofs.CountLaws.{IsCount, IsPassed, count_passes, count_read, number}
use Rattle.jl_words.proofs.CountLaws.{passed_count}
use Rattle.jl_words.proofs.FarmLaws.{Comes, IsFarm, IsSaid, dashes, end_or_not, farm_decided}
use Rattle.jl_words.proofs.FarmLaws.{farm_fault, first_comes, next_comes, said_passes, said_rows}

-- ---- a command that takes no argument

abbrev bare : Shape → Shape
bare s = record s { rules = [] }

abbrev first : Walk
first = walk_from nothing_held

strays : (s : Shape) → Comes (stray_fault s)
strays s = elim s.is_leaf as (λ leaf. Comes (stray_fault (record s { is_leaf = leaf }))) [ true ↦ tt | false ↦ tt ]

-- a word after "--" has no place
after_end : (s : Shape) (names : Names) (w : Walk) (word : Text)
    → Comes (turn_fault (bare s) names (record w { is_trailing = true; stopped = None }) word)
after_end s names w word = strays s

-- nor has a word that names no subcommand
first_flag : (x : Option ℕ) (k : ℕ) (flags word : Text)
    → (after_flag [] idle word (bundle_step [] x flags 0 plain nothing_held (bundle_met [] k)).0
    (bundle_step [] x flags 0 plain nothing_held (bundle_met [] k)).1).1 ≡ value
first_flag None k flags word = refl
first_flag (Some x) k flags word = refl

bundle_value : (k : ℕ) (flags word : Text)
    → (after_flag [] idle word (bundle_met [] k flags 0 plain nothing_held).0
    (bundle_met [] k flags 0 plain nothing_held).1).1 ≡ value
unfolding bundle_met
bundle_value zero flags word = refl
bundle_value (suc k) flags word = first_flag (slice_get (chars flags) 0) k flags word

short_value : (flags : Option Text) (word : Text) → (short_or_plain [] idle word flags nothing_held).1 ≡ value
short_value None word = refl
short_value (Some flags) word = bundle_value (length flags) flags word

long_value : (found : Option (Text × Option Text)) (word : Text)
    → (long_or_other [] idle word found nothing_held).1 ≡ value
long_value None word = short_value (short_of word) word
long_value (Some p) word = refl

word_value : (word : Text) → bytes_eq word dashes ≡ false
    → (subcommand_or_other [] None idle 1 word nothing_held).1 ≡ value
word_value word e = rw e (long_value (long_of word) word)

no_place : (s : Shape) (names : Names) (word : Text) → subcommand_met names idle word ≡ None
    → bytes_eq word dashes ≡ false
    → Comes (turn_fault (bare s) names first word)
no_place s names word none e =
    let step = ap (λ (o : Option Text). (subcommand_or_other [] o idle 1 word nothing_held).1) none
    ∙ word_value word e in
    next_comes _ _ (subst (λ (x : Step). Comes (step_fault (bare s) 1 nothing_held x)) (sym step) (strays s))

abbrev trailing : Walk
trailing = record first { is_trailing = true }

ends : (names : Names) (word : Text) → subcommand_met names idle word ≡ None → word ≡ dashes
    → walked [] names first word ≡ trailing
unfolding walked
ends names word none e =
    ap (λ (o : Option Text). after_step [] word first (subcommand_or_other [] o idle 1 word nothing_held).0
    (subcommand_or_other [] o idle 1 word nothing_held).1) none
    ∙ ap (λ (x : Text). after_step [] x first (subcommand_or_other [] None idle 1 x nothing_held).0
    (subcommand_or_other [] None idle 1 x nothing_held).1) e

stray_words : (s : Shape) (names : Names) (word : Text) (rest : List Text)
    → subcommand_met names idle word ≡ None → ¬ IsEnd (word ∷ rest)
    → Comes (walk_fault (bare s) names first (word ∷ rest))
unfolding walk_fault
stray_words s names word [] none h = by_test (bytes_eq word dashes)
    (λ e. absurd (h (inr (ap (λ (x : Text). x ∷ []) ((bytes_eq-Decides word dashes).0 e)))))
    (λ e. first_comes _ _ (no_place s names word none e))
stray_words s names word (x ∷ rest) none h = by_test (bytes_eq word dashes)
    (λ e. next_comes _ _ (subst (λ (w : Walk). Comes (walk_fault (bare s) names w (x ∷ rest)))
    (sym (ends names word none ((bytes_eq-Decides word dashes).0 e)))
    (first_comes _ _ (after_end s names trailing x))))
    (λ e. first_comes _ _ (no_place s names word none e))

-- ---- a subcommand

abbrev top : Shape
top = (built linkd).top

abbrev below_mode : Mode → Shape
below_mode mode = record (bare_command (word_of mode)).top { disable_help_subcommand = true; is_built = true }

abbrev mode_fault : Mode → List Text → Kinds
mode_fault mode rest = level_fault (below_mode mode) [] nothing_held rest false []

takes_nothing : (mode : Mode) → mode_fault mode [] ≡ []
unfolding walked walk_fault defaults_fault
takes_nothing Scan = refl
takes_nothing Sketch = refl
takes_nothing Run = refl

takes_dashes : (mode : Mode) → mode_fault mode (dashes ∷ []) ≡ []
unfolding walked walk_fault defaults_fault
takes_dashes Scan = refl
takes_dashes Sketch = refl
takes_dashes Run = refl

mode_takes : (mode : Mode) (rest : List Text) → IsEnd rest → mode_fault mode rest ≡ []
mode_takes mode rest (inl e) = ap (mode_fault mode) e ∙ takes_nothing mode
mode_takes mode rest (inr e) = ap (mode_fault mode) e ∙ takes_dashes mode

mode_refuses : (mode : Mode) (rest : List Text) → ¬ IsEnd rest → Comes (mode_fault mode rest)
mode_refuses mode [] h = absurd (h (inl refl))
mode_refuses Scan (word ∷ rest) h = first_comes _ _ (stray_words (below_mode Scan) [] word rest refl h)
mode_refuses Sketch (word ∷ rest) h = first_comes _ _ (stray_words (below_mode Sketch) [] word rest refl h)
mode_refuses Run (word ∷ rest) h = first_comes _ _ (stray_words (below_mode Run) [] word rest refl h)

-- ---- the program's command

abbrev farm_word : Text
farm_word = codes "farm"

abbrev names : Names
names = (word_of Scan, []) ∷ (word_of Sketch, []) ∷ (word_of Run, []) ∷ (farm_word, []) ∷ []

abbrev met : Text → List Text → Walk
met word rest = record first { stopped = Some (word, rest) }

-- what follows the walk
abbrev over : Walk → Kinds
over w = or_else (entered_fault (built linkd) w.stopped) (or_else (settle_fault [] false w.held)
    (or_else (defaults_fault (settled [] w.held).rows [])
    (check_fault top (finished [] w.held) (is_some (entered (built linkd) w.stopped)))))

walked_mode : (mode : Mode) (rest : List Text)
    → fold (walked [] names) first (word_of mode ∷ rest) ≡ met (word_of mode) rest
unfolding walked
walked_mode Scan rest = sym (walk_stopped [] names first (word_of Scan) [] rest)
walked_mode Sketch rest = sym (walk_stopped [] names first (word_of Sketch) [] rest)
walked_mode Run rest = sym (walk_stopped [] names first (word_of Run) [] rest)

walked_farm : (rest : List Text) → fold (walked [] names) first (farm_word ∷ rest) ≡ met farm_word rest
unfolding walked
walked_farm rest = sym (walk_stopped [] names first farm_word [] rest)

mode_faults : (mode : Mode) (name : Text) (rest : List Text)
    → fault_of linkd (name ∷ word_of mode ∷ rest) ≡ or_else (mode_fault mode rest) []
unfolding walked walk_fault defaults_fault
mode_faults Scan name rest =
    past _ _ (stopped_fault top names first (word_of Scan, []) rest) ∙ ap over (walked_mode Scan rest)
mode_faults Sketch name rest =
    past _ _ (stopped_fault top names first (word_of Sketch, []) rest) ∙ ap over (walked_mode Sketch rest)
mode_faults Run name rest =
    past _ _ (stopped_fault top names first (word_of Run, []) rest) ∙ ap over (walked_mode Run rest)

farm_faults : (name : Text) (rest : List Text)
    → fault_of linkd (name ∷ farm_word ∷ rest) ≡ or_else (farm_fault rest) []
unfolding walked walk_fault defaults_fault
farm_faults name rest =
    past _ _ (stopped_fault top names first (farm_word, []) rest) ∙ ap over (walked_farm rest)

-- what the walk's end asks for
abbrev asked_at : Walk → Option Words
asked_at w = asked_by (entered (built linkd) w.stopped)

mode_met : (mode : Mode) (name : Text) (rest : List Text)
    → asked_by (subcommand_of linkd (name ∷ word_of mode ∷ rest)) ≡ Some (Lines mode)
mode_met Scan name rest = ap asked_at (walked_mode Scan rest)
mode_met Sketch name rest = ap asked_at (walked_mode Sketch rest)
mode_met Run name rest = ap asked_at (walked_mode Run rest)

farm_met : (name text : Text) (said end : List Text) → IsPassed text → IsSaid text said → IsEnd end
    → asked_by (subcommand_of linkd (name ∷ farm_word ∷ said ++ end)) ≡ Some (Farm (number text))
farm_met name text said end e is h = ap asked_at (walked_farm (said ++ end))
    ∙ ap (λ (rows : List Row). asked_by (Some (farm_word, rows))) (said_rows text said end e is h)
    ∙ ap (option_map Farm) (count_read text e)

-- ---- the words

-- what the words ask for is taken
passes : (asked : Words) (words : List Text) → AskFor asked words → fault_of linkd words ≡ []
passes (Lines mode) words p =
    ap (fault_of linkd) (p.3 ∙ ap (λ (option : List Text). p.0 ∷ word_of mode ∷ option ++ p.2) p.4)
    ∙ mode_faults mode p.0 p.2 ∙ ap (λ (kinds : Kinds). or_else kinds []) (mode_takes mode p.2 p.5)
passes (Farm count) words p =
    let text = p.4.0 in
    let same : number text ≡ count = sym p.4.1.1 in
    let is_count : IsCount text = (p.4.1.0, rw same p.4.2, rw same p.4.3) in
    ap (fault_of linkd) p.3 ∙ farm_faults p.0 (p.1 ++ p.2)
    ∙ ap (λ (kinds : Kinds). or_else kinds []) (said_passes text p.1 p.2 (count_passes text is_count) p.4.4 p.5)

-- the words are taken for what they ask for, or refused
abbrev IsDecided : List Text → Type 0
IsDecided words =
    ((asked : Words) × AskFor asked words × (asked_by (subcommand_of linkd words) ≡ Some asked))
    ⊎ Comes (fault_of linkd words)

mode_decided : (mode : Mode) (name : Text) (rest : List Text) → IsDecided (name ∷ word_of mode ∷ rest)
mode_decided mode name rest = elim (end_or_not rest) [
  | inl e ↦ inl (Lines mode, (name, [], rest, refl, refl, e), mode_met mode name rest)
  | inr h ↦ inr (subst Comes (sym (mode_faults mode name rest)) (first_comes _ _ (mode_refuses mode rest h)))
]

farm_said : (name : Text) (rest : List Text) → IsFarm rest → IsDecided (name ∷ farm_word ∷ rest)
farm_said name rest p =
    let text = p.0 in
    let count = passed_count text p.4 in
    inl (
      Farm (number text),
      (
        name,
        p.1,
        p.2,
        ap (λ (words : List Text). name ∷ farm_word ∷ words) p.3,
        (text, (count.0, refl), count.1, count.2, p.5),
        p.6,
      ),
      ap (λ (words : List Text). asked_by (subcommand_of linkd (name ∷ farm_word ∷ words))) p.3
          ∙ farm_met name text p.1 p.2 p.4 p.5 p.6,
    )

farm_asked : (name : Text) (rest : List Text) → IsDecided (name ∷ farm_word ∷ rest)
farm_asked name rest = elim (farm_decided rest) [
  | inl p ↦ farm_said name rest p
  | inr h ↦ inr (subst Comes (sym (farm_faults name rest)) (first_comes _ _ h))
]

-- the word is no subcommand
abbrev IsOther : Text → Type 0
IsOther word =
    (bytes_eq (word_of Scan) word ≡ false) × (bytes_eq (word_of Sketch) word ≡ false)
    × (bytes_eq (word_of Run) word ≡ false) × (bytes_eq farm_word word ≡ false)

other_faults : (name word : Text) (rest : List Text) → IsOther word → Comes (fault_of linkd (name ∷ word ∷ rest))
unfolding walked walk_fault defaults_fault
other_faults name word rest e = elim (end_or_not (word ∷ rest)) [
  | inl (inl h) ↦ absurd cc
  | inl (inr h) ↦ subst (λ (l : List Text). Comes (fault_of linkd (name ∷ l))) (sym h) tt
  | inr h ↦ first_comes _ _ (stray_words top names word rest (rw (e.0, e.1, e.2, e.3) refl) h)
]

-- a subcommand's word
named : (name known word : Text) (rest : List Text) → bytes_eq known word ≡ true
    → IsDecided (name ∷ known ∷ rest) → IsDecided (name ∷ word ∷ rest)
named name known word rest e h =
    subst (λ (x : Text). IsDecided (name ∷ x ∷ rest)) ((bytes_eq-Decides known word).0 e) h

decided : (words : List Text) → IsDecided words
unfolding walked walk_fault defaults_fault
decided [] = inr tt
decided (name ∷ []) = inr tt
decided (name ∷ word ∷ rest) = by_test (bytes_eq (word_of Scan) word)
    (λ e. named name (word_of Scan) word rest e (mode_decided Scan name rest))
    (λ a. by_test (bytes_eq (word_of Sketch) word)
    (λ e. named name (word_of Sketch) word rest e (mode_decided Sketch name rest))
    (λ b. by_test (bytes_eq (word_of Run) word)
    (λ e. named name (word_of Run) word rest e (mode_decided Run name rest))
    (λ c. by_test (bytes_eq farm_word word)
    (λ e. named name farm_word word rest e (farm_asked name rest))
    (λ d. inr (other_faults name word rest (a, b, c, d))))))

-- the words ask for what was met
abbrev IsMet : List Text → Option Words → Type 0
IsMet words met = (asked : Words) × AskFor asked words × (met ≡ Some asked)

taken : (words : List Text) → fault_of linkd words ≡ [] → IsMet words (asked_by (subcommand_of linkd words))
taken words e = elim (decided words) [ inl p ↦ p | inr p ↦ absurd (subst Comes e p) ]

refused : (words : List Text) (kind : ErrorKind) → IsAmong kind (fault_of linkd words) → AskForNothing words
refused words kind h asked = λ p. subst (IsAmong kind) (passes asked words p) h

-- ---- the outcomes

linkd_free : is_simple_and_free linkd ≡ true
linkd_free = refl

abbrev NoFault : App → List Text → Type 0
NoFault a words = is_simple_and_free a ≡ true → fault_of a words ≡ []

none_of : (a : App) (words : List Text) → a ≡ linkd → NoFault a words → fault_of linkd words ≡ []
none_of a words is h = ap (λ (x : App). fault_of x words) (sym is) ∙ h (ap is_simple_and_free is ∙ linkd_free)

-- what is read of the matches is what the words ask for
pub asks : (a : App) (words : List Text) (m : ArgMatches) (o : Option Words) → a ≡ linkd → NoFault a words
    → HasMatchesOf a words m → o ≡ asked_by (subcommand_rows_of m) → IsMet words o
asks a words m o is h matches read =
    let rows : subcommand_rows_of m ≡ subcommand_of linkd words =
    (matches (ap is_simple is)).1 ∙ ap (λ (x : App). subcommand_of x words) is in
    let p = taken words (none_of a words is h) in
    (p.0, p.1, read ∙ ap asked_by rows ∙ p.2)

pub asks_nothing : (a : App) (words : List Text) (kind : ErrorKind) (fault : WordsFault) → a ≡ linkd
    → (is_simple_and_free a ≡ true → (kind ≡ OutOfMemory) ⊎ IsAmong kind (fault_of a words))
    → (kind ≡ OutOfMemory → fault ≡ Memory) → fault ≡ BadWords
    → AskForNothing words
asks_nothing a words kind fault is h memory bad = elim (h (ap is_simple_and_free is ∙ linkd_free)) [
  | inl out ↦ let clash : BadWords ≡ Memory = sym bad ∙ memory out in absurd cc
  | inr among ↦ refused words kind (subst (λ (x : App). IsAmong kind (fault_of x words)) is among)
]
