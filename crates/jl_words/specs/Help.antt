-- Whether the words of the program ask for help, and on what.
use Rattle.std.specs.Prelude.{◌&&◌, ◌||◌, not, false, ℕ, Bool, List, [], ◌∷◌, codes, drop}
use Rattle.std.specs.Prelude.{Option, Some, None, if◌then◌else◌, is_some, unwrap_or}
use Rattle.std.specs.Str.{bytes_eq}
use Rattle.jl_words.specs.declared.help.Topic.{Topic}
use Rattle.jl_words.specs.declared.help.Topic.TheVariants.{Program, Scan, Sketch, Run, Farm, Report}

-- the subcommand of this name
abbrev pub topic_of : List ℕ → Option Topic
topic_of word =
    if bytes_eq word (codes "scan") then Some Scan
    else if bytes_eq word (codes "sketch") then Some Sketch
    else if bytes_eq word (codes "run") then Some Run
    else if bytes_eq word (codes "farm") then Some Farm
    else if bytes_eq word (codes "report") then Some Report
    else None

-- the subcommand that the first word names, or else the program
abbrev pub first_topic : List (List ℕ) → Topic
first_topic [] = Program
first_topic (word ∷ rest) = unwrap_or (topic_of word) Program

-- whether `--help` or `-h` stands among the words, before any word `--`
abbrev pub has_flag : List (List ℕ) → Bool
has_flag [] = false
has_flag (word ∷ rest) =
    not (bytes_eq word (codes "--"))
    && (bytes_eq word (codes "--help") || (bytes_eq word (codes "-h") || has_flag rest))

-- whether the first word is `help`
abbrev pub has_help_first : List (List ℕ) → Bool
has_help_first [] = false
has_help_first (word ∷ rest) = bytes_eq word (codes "help")

-- whether the word names a subcommand after which the word `help` asks for help: all but `report`, after which it is a path
abbrev pub takes_help : List ℕ → Bool
takes_help word = is_some (topic_of word) && not (bytes_eq word (codes "report"))

-- What these words, which stand after the program's name, ask for help on. They ask for it in four cases: there are none; the first is
-- `help`; a flag is among them; `help` stands after a subcommand that doesn't take it for a path.
abbrev pub asked_after : List (List ℕ) → Option Topic
asked_after [] = Some Program
asked_after (word ∷ rest) =
    if bytes_eq word (codes "help") then Some (first_topic rest)
    else if has_flag (word ∷ rest) || (has_help_first rest && takes_help word) then Some (first_topic (word ∷ rest))
    else None

-- what all words ask for help on, the program's name first
abbrev pub help_asked : List (List ℕ) → Option Topic
help_asked words = asked_after (drop 1 words)
