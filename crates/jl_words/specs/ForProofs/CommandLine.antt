-- The program's command, as clap reads it. Only private clauses cite this.
use Rattle.std.specs.Prelude.{◌&&◌, ◌^◌, ℕ, List, codes, pos, true, Option, Some, None}
use Rattle.std.specs.Prelude.{if◌then◌else◌, nat_lt, option_and_then, option_map}
use Rattle.std.specs.Str.{bytes_eq}
use Rattle.std.specs.Str.Parse.{digits_value, without_leading_plus}
use Rattle.jl_words.specs.declared.words.Mode.{Mode}
use Rattle.jl_words.specs.declared.words.Mode.TheVariants.{Scan, Sketch, Run}
use Rattle.jl_words.specs.declared.words.Words.{Words}
use Rattle.jl_words.specs.declared.words.Words.TheVariants.{Lines, Farm}
use Rattle.jl_words.specs.Words.{word_of}
use Rattle.clap.specs.Words.{App, Row, Rule, new_app, new_rule, one_of, with_rule}
use Rattle.clap.specs.Words.{with_subcommand}
use Rattle.clap.specs.ValueTests.{is_numeral}
use Rattle.clap.specs.declared.builder.action.ArgAction.TheVariants.{Set}
use Rattle.clap.specs.declared.builder.value_parser.ValueParser.TheVariants.{Signed}

-- a subcommand of this name, without options
abbrev pub bare_command : List ℕ → App
bare_command name = record (new_app name) {
  top = record (new_app name).top { disable_help_flag = true };
}

-- the program, which wants a subcommand and has none
abbrev pub without_subcommands : App
without_subcommands = record (new_app (codes "linkd")) {
  top = record (new_app (codes "linkd")).top {
    disable_help_flag = true;
    disable_help_subcommand = true;
    subcommand_required = true;
  };
}

abbrev pub with_scan : App
with_scan = with_subcommand without_subcommands (bare_command (word_of Scan)).top

abbrev pub with_sketch : App
with_sketch = with_subcommand with_scan (bare_command (word_of Sketch)).top

abbrev pub with_run : App
with_run = with_subcommand with_sketch (bare_command (word_of Run)).top

-- the option that says how many workers a farm has
abbrev pub workers : Rule
workers = record (new_rule (codes "workers")) {
  long = Some (codes "workers");
  required = true;
  action = Some Set;
  value_names = 1;
  parser = Some (Signed (pos 1) (pos 16));
}

abbrev pub farm : App
farm = with_rule (bare_command (codes "farm")) workers

abbrev pub linkd : App
linkd = with_subcommand with_run farm.top

-- the mode of a subcommand
abbrev pub mode_of : List ℕ → Option Mode
mode_of word =
    if bytes_eq word (word_of Scan) then Some Scan
    else if bytes_eq word (word_of Sketch) then Some Sketch
    else if bytes_eq word (word_of Run) then Some Run
    else None

-- the number that `u8` reads from the text
abbrev pub count_of : List ℕ → Option ℕ
count_of text =
    let digits = without_leading_plus text in
    if is_numeral digits && nat_lt (digits_value 10 digits) (2 ^ 8) then Some (digits_value 10 digits)
    else None

-- what a subcommand of this name asks for, by the matches of its options
abbrev pub asked_by : Option (List ℕ × List Row) → Option Words
asked_by None = None
asked_by (Some met) =
    if bytes_eq met.0 (codes "farm")
    then option_map Farm (option_and_then count_of (one_of (codes "workers") met.1))
    else option_map Lines (mode_of met.0)
