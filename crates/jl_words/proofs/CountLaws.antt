-- The count that a farm's option says, and how it is read back.
use Rattle.std.proofs.Common.{◌≡◌, ◌∙◌, ◌≤◌, sym, ap, ap₂, refl, subst, ℕ, List, [], ◌∷◌, Bool, true}
use Rattle.std.proofs.Common.{false, Option, Some, None, true≢false, codes, length, arith, Global}
use Rattle.std.proofs.Common.{eqb-true, ltb-true, lt-ltb}
use Rattle.std.proofs.lemmas.Bool.{le-leb}
use Rattle.std.proofs.lemmas.Int.{ints}
use Rattle.std.proofs.lemmas.Str.Parse.{digit_from_value}
use Rattle.std.specs.Prelude.{Box, Result, Ok, Err, nat_le, nat_lt, option_and_then, option_map, pos}
use Rattle.std.specs.Box.{box_value}
use Rattle.std.specs.Char.{digit_value}
use Rattle.std.specs.List.{list_all}
use Rattle.std.specs.Str.Parse.{AllDigits, IsNumeral, ParsesUnsigned, digits_value, starts_with_minus}
use Rattle.std.specs.Str.Parse.{without_leading_plus}
use Rattle.clap.specs.Lexer.{without_minus}
use Rattle.clap.specs.Matches.{ReadsOne, found_of, one_text, subcommand_name_of}
use Rattle.clap.specs.Simple.{subcommand_rows, subcommand_rows_of}
use Rattle.clap.specs.Values.{IsSignedIn}
use Rattle.clap.specs.ValueTests.{accepts, is_numeral}
use Rattle.clap.specs.Walk.{Row, Text, rows_of}
use Rattle.clap.specs.declared.builder.value_parser.ValueParser.TheVariants.{Signed, Unsigned}
use Rattle.clap.specs.declared.parser.matches.ArgMatches.{ArgMatches}
use Rattle.clap.specs.declared.parser.matches.ArgMatches.TheViews.{out-ArgMatches, out-SubCommand}
use Rattle.clap.specs.declared.parser.matches.Found.{Found}
use Rattle.clap.specs.declared.parser.matches.SubCommand.{SubCommand}
use Rattle.clap.proofs.ValueTestLemmas.{accepts-Accepts, Accepts-accepts}
use Rattle.clap.proofs.WalkLemmas.{both, one_text-rows}
use Rattle.jl_names.proofs.Tests.{by_test}
use Rattle.jl_words.specs.declared.words.Words.TheVariants.{Farm}
use Rattle.jl_words.specs.ForProofs.CommandLine.{asked_by, count_of}

-- the value passes
abbrev pub IsPassed : Text → Type 0
IsPassed text = accepts false (Signed (pos 1) (pos 16)) text ≡ true

abbrev pub number : Text → ℕ
number text = digits_value 10 (without_leading_plus text)

-- the text writes a number from 1 to 16
abbrev pub IsCount : Text → Type 0
IsCount text = IsNumeral 10 (without_leading_plus text) × (1 ≤ number text) × (number text ≤ 16)

by_sign : (text : Text) (b : Bool) → starts_with_minus text ≡ b → IsSignedIn (pos 1) (pos 16) text
    → (b ≡ false) × IsCount text
by_sign text true minus passed =
    let low = rw minus at passed.2 in
    absurd (omega (arith, ints))
by_sign text false minus passed =
    let numeral = rw minus at passed.0 in
    let low = rw minus at passed.2 in
    let high = rw minus at passed.3 in
    (refl, (numeral, omega (arith, ints), omega (arith, ints)))

pub read_number : (text : Text) → IsPassed text → (starts_with_minus text ≡ false) × IsCount text
read_number text e = by_sign text (starts_with_minus text) refl (accepts-Accepts false (Signed (pos 1) (pos 16)) text e)

pub passed_count : (text : Text) → IsPassed text → IsCount text
passed_count text e = (read_number text e).1

in_unsigned : (text : Text) → IsCount text → accepts false (Unsigned 1 16) text ≡ true
in_unsigned text h = Accepts-accepts false (Unsigned 1 16) text (h.0, omega (arith, h.2), h.1, h.2)

numeral_test : (text : Text) → IsCount text → is_numeral (without_leading_plus text) ≡ true
numeral_test text h = (both _ _ (in_unsigned text h)).0

-- the number that is read back
pub count_read : (text : Text) → IsPassed text → count_of (without_minus text) ≡ Some (number text)
count_read [] e = absurd (true≢false (sym e))
count_read (x ∷ xs) e =
    let read = read_number (x ∷ xs) e in
    let same : without_minus (x ∷ xs) ≡ x ∷ xs = rw read.0 refl in
    let small : nat_lt (number (x ∷ xs)) 256 ≡ true = lt-ltb _ _ (omega (arith, read.1.2)) in
    ap count_of same ∙ rw (numeral_test (x ∷ xs) read.1, small) refl

pub no_minus : (text : Text) → IsCount text → starts_with_minus text ≡ true → ⊥
no_minus [] h e = absurd (omega (arith, h.0.0))
no_minus (x ∷ xs) h e =
    let minus : x ≡ 45 = eqb-true _ _ e in
    let digits : IsCount (45 ∷ xs) = subst (λ (y : ℕ). IsCount (y ∷ xs)) minus h in
    absurd (omega (arith, digit_from_value 45 digits.0.1.0))

pub count_passes : (text : Text) → IsCount text → IsPassed text
count_passes text h = by_test (starts_with_minus text)
    (λ e. absurd (no_minus text h e))
    (λ e.
    let low : nat_le 1 (number text) ≡ true = le-leb _ _ h.1 in
    let high : nat_le (number text) 16 ≡ true = le-leb _ _ h.2 in
    let fits : nat_lt (number text) 9223372036854775808 ≡ true = lt-ltb _ _ (omega (arith, h.2)) in
    rw e (rw (numeral_test text h, low, high, fits) refl))

-- ---- what is read of the matches

digits_pass : (ds : List ℕ) → AllDigits 10 ds → list_all (λ d. nat_lt (digit_value d) 10) ds ≡ true
digits_pass [] h = refl
digits_pass (d ∷ ds) h = rw (lt-ltb (digit_value d) 10 h.0) (digits_pass ds h.1)

digits_from : (ds : List ℕ) → list_all (λ d. nat_lt (digit_value d) 10) ds ≡ true → AllDigits 10 ds
digits_from [] e = tt
digits_from (d ∷ ds) e =
    let parts = both _ _ e in
    (ltb-true _ _ parts.0, digits_from ds parts.1)

is_number : (ds : List ℕ) → IsNumeral 10 ds → is_numeral ds ≡ true
is_number ds h = rw (lt-ltb 0 (length ds) h.0) (digits_pass ds h.1)

number_is : (ds : List ℕ) → is_numeral ds ≡ true → IsNumeral 10 ds
number_is ds e = let parts = both _ _ e in (ltb-true _ _ parts.0, digits_from ds parts.1)

module _ (E : Type 0) (G : Text → Result ℕ E → Type 0)
    (reads : (text : Text) (x : Result ℕ E) → G text x → ParsesUnsigned 8 10 text x) where
  number_back : (text : Text) (r : Option ℕ) → ReadsOne G text r → r ≡ count_of text
  number_back text (Some n) h =
      let p = reads text (Ok n) h in
      let small : nat_lt (number text) 256 ≡ true = lt-ltb _ _ p.0.1 in
      ap Some p.1 ∙ sym (rw (is_number (without_leading_plus text) p.0.0, small) refl)
  number_back text None h = by_test (is_numeral (without_leading_plus text))
      (λ t. by_test (nat_lt (number text) 256)
      (λ u. absurd (reads text (Err h.0) h.1 (number_is (without_leading_plus text) t, ltb-true _ _ u)))
      (λ u. rw (t, u) refl))
      (λ t. rw t refl)

  -- what `get_one` gives is the number that the text writes
  pub number_read : (o : Option Text) (r : Option ℕ) → (o ≡ None → r ≡ None)
      → ((text : Text) → o ≡ Some text → ReadsOne G text r) → r ≡ option_and_then count_of o
  number_read None r none some = none refl
  number_read (Some text) r none some = number_back text r (some text refl)

joined : (o : Option (Box SubCommand Global)) (name : Text) (rows : List Row)
    → Some name ≡ option_map (λ b. (out-SubCommand (box_value b)).name.now) o
    → Some rows ≡ option_map (λ p. p.1) (subcommand_rows o) → subcommand_rows o ≡ Some (name, rows)
joined None name rows e f = absurd cc
joined (Some b) name rows e f =
    let names : (out-SubCommand (box_value b)).name.now ≡ name = cc in
    let same : rows_of (found_of (out-SubCommand (box_value b)).matches) ≡ rows = cc in
    ap₂ (λ (x : Text) (y : List Row). Some (x, y)) names same

-- what the matches of a farm ask for
pub asks_farm : (m : ArgMatches) (name : Text) (f : Found) (o : Option ℕ)
    → Some name ≡ subcommand_name_of m
    → Some (rows_of f) ≡ option_map (λ p. p.1) (subcommand_rows (out-ArgMatches m).subcommand)
    → name ≡ codes "farm" → o ≡ option_and_then count_of (one_text f (codes "workers"))
    → option_map Farm o ≡ asked_by (subcommand_rows_of m)
asks_farm m name f o is_name is_rows farm is =
    ap (option_map Farm) (is ∙ ap (option_and_then count_of) (one_text-rows f (codes "workers")))
    ∙ sym (ap asked_by (joined (out-ArgMatches m).subcommand name (rows_of f) is_name is_rows
    ∙ ap (λ (x : Text). Some (x, rows_of f)) farm))
