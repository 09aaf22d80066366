-- What clap makes of the words after `farm`.
use Rattle.std.proofs.Common.{◌≡◌, ◌∙◌, ◌⊎◌, ◌==◌, ◌+◌, inl, inr, sym, ap, ap₂, refl, subst, ℕ, zero}
use Rattle.std.proofs.Common.{suc, List, [], ◌∷◌, ◌++◌, Bool, true, false, cond, Option, Some, None}
use Rattle.std.proofs.Common.{true≢false, codes, fold, length, take, drop, arith, eqb-true}
use Rattle.std.proofs.lemmas.Slice.Eq.{bytes_eq-Decides}
use Rattle.std.specs.Prelude.{⊤, nat_lt, pos, slice_get}
use Rattle.std.specs.List.{after_first, before_first, position_or_len}
use Rattle.std.specs.Option.{option_map_or}
use Rattle.std.specs.Str.{bytes_eq, chars}
use Rattle.clap.specs.Lexer.{has_byte, long_of, long_of_rest, name_and_value, short_of}
use Rattle.clap.specs.Kinds.{Kinds, or_else, range_kinds}
use Rattle.clap.specs.Simple.{Shape, filled, with_index}
use Rattle.clap.specs.ValueTests.{accepts}
use Rattle.clap.specs.Walk.{Held, Row, Rule, Step, Text, Waiting, Walk, idle, option, plain}
use Rattle.clap.specs.Walk.{after_flag, after_step, bundle_met, bundle_step, finished, has_row}
use Rattle.clap.specs.Walk.{long_or_other, nothing_held, plain_word, rows_after, settled}
use Rattle.clap.specs.Walk.{short_or_plain, walked}
use Rattle.clap.specs.Faults.{bundle_fault, bundle_step_fault, check_fault, defaults_fault}
use Rattle.clap.specs.Faults.{flag_word_fault, flags_fault, level_fault, react_fault, repeat_fault}
use Rattle.clap.specs.Faults.{settle_fault, step_fault, turn_fault, values_fault, walk_fault}
use Rattle.clap.specs.declared.builder.value_parser.Reading.TheVariants.{WithoutMinus}
use Rattle.clap.specs.declared.builder.value_parser.ValueParser.TheVariants.{Signed}
use Rattle.clap.specs.declared.parser.matches.ValueSource.TheVariants.{CommandLine}
use Rattle.jl_words.specs.Words.{IsEnd}
use Rattle.jl_words.specs.ForProofs.CommandLine.{farm, workers}
use Rattle.jl_names.proofs.Tests.{by_test}
use Rattle.jl_words.proofs.CountLaws.{IsPassed, read_number}

-- some kind of error comes
abbrev pub Comes : Kinds → Type 0
Comes [] = ⊥
Comes (kind ∷ kinds) = ⊤

pub first_comes : (a b : Kinds) → Comes a → Comes (or_else a b)
first_comes [] b h = absurd h
first_comes (kind ∷ a) b h = tt

pub next_comes : (a b : Kinds) → Comes b → Comes (or_else a b)
next_comes [] b h = h
next_comes (kind ∷ a) b h = tt

through : (a b c : Kinds) → Comes (or_else b c) → Comes (or_else (or_else a b) c)
through [] b c h = h
through (kind ∷ a) b c h = tt

abbrev pub dashes : Text
dashes = codes "--"

pub is_dashes : (word : Text) → bytes_eq word dashes ≡ true → word ≡ dashes
is_dashes word e = (bytes_eq-Decides word dashes).0 e

not_end : (word : Text) → bytes_eq word dashes ≡ false → ¬ IsEnd (word ∷ [])
not_end word e (inl h) = absurd cc
not_end word e (inr h) =
    let same : word ≡ dashes = cc in absurd (true≢false (sym ((bytes_eq-Decides word dashes).1 same) ∙ e))

pub end_or_not : (words : List Text) → IsEnd words ⊎ ¬ IsEnd words
end_or_not [] = inl (inl refl)
end_or_not (word ∷ []) = by_test (bytes_eq word dashes)
    (λ e. inl (inr (ap (λ (x : Text). x ∷ []) (is_dashes word e))))
    (λ e. inr (not_end word e))
end_or_not (word ∷ x ∷ rest) = inr (elim [ inl h ↦ absurd cc | inr h ↦ absurd cc ])

-- ---- the subcommand, built

abbrev rule : Rule
rule = with_index 1 (filled workers)

abbrev rules : List Rule
rules = rule ∷ []

abbrev pub below : Shape
below = record farm.top { rules = rules; disable_help_subcommand = true; is_built = true }

abbrev id : Text
id = codes "workers"

abbrev held : List Row → Option (Text × List Text) → Held
held rows pending = record { rows = rows; pending = pending; skip = 0 }

-- the option was met, with these values so far
abbrev pending : List Text → Option (Text × List Text)
pending values = Some (id, values)

abbrev walk_at : Held → Waiting → Bool → Walk
walk_at h waiting is_trailing =
    record { held = h; waiting = waiting; position = 1; is_trailing = is_trailing; stopped = None }

-- an option waits for a value, or nothing does
abbrev waits : Bool → Waiting
waits b = cond b (option id) idle

-- what comes of the end of the words
abbrev ended : Held → Kinds
ended h = or_else (settle_fault rules false h)
    (or_else (defaults_fault (settled rules h).rows rules) (check_fault below (finished rules h) false))

-- what comes of the words from here on
abbrev comes_from : Walk → List Text → Kinds
comes_from w words =
    or_else (walk_fault below [] w words) (ended (fold (walked rules []) w words).held)

abbrev pub farm_fault : List Text → Kinds
farm_fault words = level_fault below [] nothing_held words false []

or_else_assoc : (a b c : Kinds) → or_else (or_else a b) c ≡ or_else a (or_else b c)
or_else_assoc [] b c = refl
or_else_assoc (k ∷ ks) b c = refl

next : (w : Walk) (word : Text) (rest : List Text)
    → comes_from w (word ∷ rest) ≡ or_else (turn_fault below [] w word) (comes_from (walked rules [] w word) rest)
unfolding walk_fault
next w word rest = or_else_assoc (turn_fault below [] w word) (walk_fault below [] (walked rules [] w word) rest)
    (ended (fold (walked rules []) (walked rules [] w word) rest).held)

-- a word after "--" has no place
trailing_word : (h : Held) (waiting : Waiting) (word : Text) (rest : List Text)
    → Comes (comes_from (walk_at h waiting true) (word ∷ rest))
trailing_word h waiting word rest = subst Comes (sym (next (walk_at h waiting true) word rest)) tt

ends_at : (h : Held) (b : Bool) (rest : List Text)
    → comes_from (walk_at h (waits b) false) (dashes ∷ rest) ≡ comes_from (walk_at h (waits b) true) rest
unfolding walked
ends_at h true rest = next (walk_at h (waits true) false) dashes rest
ends_at h false rest = next (walk_at h (waits false) false) dashes rest

ends : (h : Held) (b : Bool) (word : Text) (rest : List Text) → bytes_eq word dashes ≡ true
    → comes_from (walk_at h (waits b) false) (word ∷ rest) ≡ comes_from (walk_at h (waits b) true) rest
ends h b word rest e =
    ap (λ (x : Text). comes_from (walk_at h (waits b) false) (x ∷ rest)) (is_dashes word e) ∙ ends_at h b rest

-- ---- what a word is, that isn't "--"

abbrev Long : Type 0
Long = Option (Text × Option Text)

-- what comes of a word with this long form, and of those after it
abbrev by_long : Held → Waiting → Text → List Text → Long → Kinds
by_long h waiting word rest long =
    let met = long_or_other rules waiting word long h in
    or_else (or_else (flag_word_fault rules false long word h) (step_fault below 1 met.0 met.1))
    (comes_from (after_step rules word (walk_at h waiting false) met.0 met.1) rest)

goes_on : (h : Held) (b : Bool) (word : Text) (rest : List Text) → bytes_eq word dashes ≡ false
    → comes_from (walk_at h (waits b) false) (word ∷ rest) ≡ by_long h (waits b) word rest (long_of word)
unfolding walked
goes_on h true word rest e = next (walk_at h (waits true) false) word rest ∙ rw e refl
goes_on h false word rest e = next (walk_at h (waits false) false) word rest ∙ rw e refl

-- the word is the option
abbrev IsNamed : Long → Type 0
IsNamed long = (given : Option Text) × (long ≡ Some (id, given))

-- the word begins as an option does, and is none
abbrev IsUnknown : Long → Text → Type 0
IsUnknown long word = (rows : List Row) (p : Option (Text × List Text))
    → Comes (flag_word_fault rules false long word (held rows p))

-- the word is no option
abbrev IsPlain : Long → Text → Type 0
IsPlain long word = (rows : List Row) (p : Option (Text × List Text)) (waiting : Waiting)
    → long_or_other rules waiting word long (held rows p) ≡ plain_word rules waiting word (held rows p)

abbrev Unknown : (Held → Kinds) → Type 0
Unknown fault = (rows : List Row) (p : Option (Text × List Text)) → Comes (fault (held rows p))

first_char : (x : Option ℕ) (k : ℕ) (flags word : Text)
    → Unknown (λ h. bundle_step_fault rules false x flags 0 h (flags_fault rules false k))
    ⊎ ((rows : List Row) (p : Option (Text × List Text)) (waiting : Waiting)
    → after_flag rules waiting word (bundle_step rules x flags 0 plain (held rows p) (bundle_met rules k)).0
    (bundle_step rules x flags 0 plain (held rows p) (bundle_met rules k)).1
    ≡ plain_word rules waiting word (held rows p))
first_char None k flags word = inr (λ rows p waiting. refl)
first_char (Some x) k flags word = inl (λ rows p. tt)

each_char : (k : ℕ) (flags word : Text)
    → Unknown (λ h. flags_fault rules false k flags 0 h)
    ⊎ ((rows : List Row) (p : Option (Text × List Text)) (waiting : Waiting)
    → after_flag rules waiting word (bundle_met rules k flags 0 plain (held rows p)).0
    (bundle_met rules k flags 0 plain (held rows p)).1
    ≡ plain_word rules waiting word (held rows p))
unfolding flags_fault bundle_met
each_char zero flags word = inr (λ rows p waiting. refl)
each_char (suc k) flags word = first_char (slice_get (chars flags) 0) k flags word

short_form : (short : Option Text) (word : Text)
    → Unknown (λ h. option_map_or (λ flags. bundle_fault rules false flags h) short [])
    ⊎ ((rows : List Row) (p : Option (Text × List Text)) (waiting : Waiting)
    → short_or_plain rules waiting word short (held rows p) ≡ plain_word rules waiting word (held rows p))
short_form None word = inr (λ rows p waiting. refl)
short_form (Some flags) word = each_char (length flags) flags word

long_form : (long : Long) (word : Text) → IsNamed long ⊎ (IsUnknown long word ⊎ IsPlain long word)
long_form (Some p) word = by_test (bytes_eq id p.0)
    (λ e. inl (p.1, ap (λ (x : Text). Some (x, p.1)) (sym ((bytes_eq-Decides id p.0).0 e))))
    (λ e. inr (inl (λ rows q. rw e tt)))
long_form None word = inr (short_form (short_of word) word)

-- ---- words that are refused

abbrev stepped : Held × Step → Kinds
stepped met = step_fault below 1 met.0 met.1

abbrev later : Held → Waiting → Text → List Text → Held × Step → Kinds
later h waiting word rest met =
    comes_from (after_step rules word (walk_at h waiting false) met.0 met.1) rest

abbrev of_met : Held → Waiting → Text → List Text → Held × Step → Kinds
of_met h waiting word rest met =
    or_else (or_else (flag_word_fault rules false (long_of word) word h) (stepped met)) (later h waiting word rest met)

-- what comes of a word that may be the option's value, and of those after it
abbrev by_plain : Held → Bool → Text → List Text → Kinds
by_plain h b word rest =
    let met = plain_word rules (waits b) word h in
    or_else (stepped met) (later h (waits b) word rest met)

-- the word is the option, or it gives what the words after it give, at best
abbrev IsSorted : List Row → Option (Text × List Text) → Bool → Text → List Text → Type 0
IsSorted rows p b word rest =
    ((given : Option Text) × (long_of word ≡ Some (id, given))
    × (comes_from (walk_at (held rows p) (waits b) false) (word ∷ rest)
    ≡ by_long (held rows p) (waits b) word rest (Some (id, given))))
    ⊎ (Comes (by_plain (held rows p) b word rest)
    → Comes (comes_from (walk_at (held rows p) (waits b) false) (word ∷ rest)))

sorted : (rows : List Row) (p : Option (Text × List Text)) (b : Bool) (word : Text) (rest : List Text)
    → bytes_eq word dashes ≡ false → IsSorted rows p b word rest
sorted rows p b word rest e = go (long_form (long_of word) word)
  where
    back : Comes (by_long (held rows p) (waits b) word rest (long_of word))
        → Comes (comes_from (walk_at (held rows p) (waits b) false) (word ∷ rest))
    back h = subst Comes (sym (goes_on (held rows p) b word rest e)) h

    go : IsNamed (long_of word) ⊎ (IsUnknown (long_of word) word ⊎ IsPlain (long_of word) word)
        → IsSorted rows p b word rest
    go (inl named) = inl (
      named.0,
      named.1,
      goes_on (held rows p) b word rest e
          ∙ ap (by_long (held rows p) (waits b) word rest) named.1,
    )
    go (inr (inl unknown)) = inr (λ h. back (first_comes _ _ (first_comes _ _ (unknown rows p))))
    go (inr (inr is_plain)) =
        let met = plain_word rules (waits b) word (held rows p) in
        inr (λ h. back (subst (λ (m : Held × Step). Comes (of_met (held rows p) (waits b) word rest m))
        (sym (is_plain rows p (waits b)))
        (through (flag_word_fault rules false (long_of word) word (held rows p)) (stepped met)
        (later (held rows p) (waits b) word rest met) h)))

-- a word is refused if that holds of the option and of a word that is no option
other_word : (rows : List Row) (p : Option (Text × List Text)) (b : Bool) (word : Text) (rest : List Text)
    → bytes_eq word dashes ≡ false
    → ((given : Option Text) → Comes (by_long (held rows p) (waits b) word rest (Some (id, given))))
    → Comes (by_plain (held rows p) b word rest)
    → Comes (comes_from (walk_at (held rows p) (waits b) false) (word ∷ rest))
other_word rows p b word rest e on_option on_plain = elim (sorted rows p b word rest e) [
  | inl named ↦ subst Comes (sym named.2) (on_option named.0)
  | inr other ↦ other on_plain
]

-- the option can't be settled as it stands: no further words mend that
abbrev IsBad : List Row → List Text → Type 0
IsBad rows values = Comes (settle_fault rules false (held rows (pending values)))

bad_option : (rows : List Row) (values : List Text) (b : Bool) (word : Text) (rest : List Text) → IsBad rows values
    → (given : Option Text) → Comes (by_long (held rows (pending values)) (waits b) word rest (Some (id, given)))
bad_option rows values b word rest bad None = first_comes _ _ (first_comes _ _ bad)
bad_option rows values b word rest bad (Some text) = first_comes _ _ (first_comes _ _ (first_comes _ _ bad))

bad_end : (rows : List Row) (values : List Text) (b trailing : Bool) → IsBad rows values
    → Comes (comes_from (walk_at (held rows (pending values)) (waits b) trailing) [])
unfolding walk_fault
bad_end rows values b trailing bad = first_comes _ _ bad

bad_trailing : (rows : List Row) (values : List Text) (b : Bool) (words : List Text) → IsBad rows values
    → Comes (comes_from (walk_at (held rows (pending values)) (waits b) true) words)
bad_trailing rows values b [] bad = bad_end rows values b true bad
bad_trailing rows values b (word ∷ rest) bad = trailing_word (held rows (pending values)) (waits b) word rest

bad_words : (rows : List Row) (values words : List Text) → IsBad rows values
    → Comes (comes_from (walk_at (held rows (pending values)) idle false) words)
bad_words rows values [] bad = bad_end rows values false false bad
bad_words rows values (word ∷ rest) bad = by_test (bytes_eq word dashes)
    (λ e. subst Comes (sym (ends (held rows (pending values)) false word rest e)) (bad_trailing rows values false rest bad))
    (λ e. other_word rows (pending values) false word rest e
    (bad_option rows values false word rest bad) tt)

-- if the option was used, and is met again, no words are taken
abbrev IsUsed : List Row → Type 0
IsUsed rows = has_row id rows ≡ true

repeated : (rows : List Row) → IsUsed rows → Comes (repeat_fault false id rows)
repeated rows used = rw used tt

used_again : (rows : List Row) (values : List Text) → IsUsed rows → IsBad rows values
used_again rows values used = next_comes (range_kinds 1 1 (length values)) _ (first_comes _ _ (repeated rows used))

one_more : (rows : List Row) (values : List Text) (b : Bool) (word : Text) (rest : List Text)
    → ((more : List Text) (c : Bool) → Comes (comes_from (walk_at (held rows (pending more)) (waits c) false) rest))
    → Comes (by_plain (held rows (pending values)) b word rest)
one_more rows values true word rest again = again (values ++ word ∷ []) (nat_lt (length (values ++ word ∷ [])) 1)
one_more rows values false word rest again = tt

met_again : (rows : List Row) (values : List Text) (b : Bool) (words : List Text) → IsUsed rows
    → Comes (comes_from (walk_at (held rows (pending values)) (waits b) false) words)
met_again rows values b [] used = bad_end rows values b false (used_again rows values used)
met_again rows values b (word ∷ rest) used = by_test (bytes_eq word dashes)
    (λ e. subst Comes (sym (ends (held rows (pending values)) b word rest e))
    (bad_trailing rows values b rest (used_again rows values used)))
    (λ e. other_word rows (pending values) b word rest e
    (bad_option rows values b word rest (used_again rows values used))
    (one_more rows values b word rest (λ more c. met_again rows more c rest used)))

-- ---- words after the option and its value

abbrev settled_rows : List Row → Option (Text × List Text) → List Row
settled_rows rows p = (settled rules (held rows p)).rows

second_value : (rows : List Row) (p : Option (Text × List Text)) (text : Text) → IsUsed (settled_rows rows p)
    → Comes (react_fault rules false rule (text ∷ []) (held rows p))
second_value rows p text used = next_comes (settle_fault rules false (held rows p))
    (or_else (repeat_fault false id (settled_rows rows p)) (values_fault rule (text ∷ [])))
    (first_comes (repeat_fault false id (settled_rows rows p)) (values_fault rule (text ∷ []))
    (repeated (settled_rows rows p) used))

second_option : (rows : List Row) (p : Option (Text × List Text)) (word : Text) (rest : List Text)
    → IsUsed (settled_rows rows p) → (given : Option Text)
    → Comes (by_long (held rows p) idle word rest (Some (id, given)))
second_option rows p word rest used None =
    next_comes _ _ (met_again (settled_rows rows p) [] true rest used)
second_option rows p word rest used (Some text) = first_comes _ _ (first_comes _ _ (second_value rows p text used))

no_end : (rows : List Row) (p : Option (Text × List Text)) (words : List Text)
    → IsUsed (settled_rows rows p) → ¬ IsEnd words → Comes (comes_from (walk_at (held rows p) idle false) words)
no_end rows p [] used h = absurd (h (inl refl))
no_end rows p (word ∷ rest) used h = by_test (bytes_eq word dashes)
    (λ e. subst Comes (sym (ends (held rows p) false word rest e)) (later rest (λ none. h (inr
    (ap (λ (x : Text). x ∷ rest) (is_dashes word e) ∙ ap (λ (xs : List Text). dashes ∷ xs) none)))))
    (λ e. other_word rows p false word rest e
    (second_option rows p word rest used) tt)
  where
    later : (xs : List Text) → (xs ≡ [] → ⊥) → Comes (comes_from (walk_at (held rows p) idle true) xs)
    later [] some = absurd (some refl)
    later (x ∷ xs) some = trailing_word (held rows p) idle x xs

value_refused : (text : Text) → accepts false (Signed (pos 1) (pos 16)) text ≡ false
    → Comes (values_fault rule (text ∷ []))
value_refused text e = rw e tt

-- ---- the words that are taken

-- the row of the option
abbrev pub option_rows : Text → List Row
option_rows text = record {
  id = id;
  values = text ∷ [];
  count = None;
  source = Some CommandLine;
  reading = WithoutMinus;
} ∷ []

-- the option with its value, in two words or in one
abbrev pub IsSaid : Text → List Text → Type 0
IsSaid text words = (words ≡ codes "--workers" ∷ text ∷ []) ⊎ (words ≡ (codes "--workers=" ++ text) ∷ [])

one_word : (text : Text) (end : List Text) → IsPassed text → IsEnd end
    → farm_fault ((codes "--workers=" ++ text) ∷ end) ≡ []
unfolding walked walk_fault defaults_fault
one_word text end e (inl h) = rw h (rw e refl)
one_word text end e (inr h) = rw h (rw e refl)

one_word_rows : (text : Text) (end : List Text) → IsEnd end
    → rows_after rules [] ((codes "--workers=" ++ text) ∷ end) ≡ option_rows text
unfolding walked
one_word_rows text end (inl h) = rw h refl
one_word_rows text end (inr h) = rw h refl

-- the option's word alone, and then a word that doesn't begin with a hyphen
option_first : (rest : List Text)
    → comes_from (walk_at (held [] None) idle false) (codes "--workers" ∷ rest)
    ≡ comes_from (walk_at (held [] (pending [])) (waits true) false) rest
option_first rest = goes_on (held [] None) false (codes "--workers") rest refl

abbrev by_short : Text → List Text → Option Text → Kinds
by_short word rest short =
    let h = held [] (pending []) in
    let met = short_or_plain rules (waits true) word short h in
    or_else (or_else (option_map_or (λ flags. bundle_fault rules false flags h) short []) (stepped met))
    (later h (waits true) word rest met)

value_next : (x : ℕ) (xs : Text) (rest : List Text) → (x == 45) ≡ false
    → comes_from (walk_at (held [] (pending [])) (waits true) false) ((x ∷ xs) ∷ rest)
    ≡ comes_from (walk_at (held [] (pending ((x ∷ xs) ∷ []))) idle false) rest
value_next x xs rest e =
    let apart : bytes_eq (x ∷ xs) dashes ≡ false = rw e refl in
    let long : long_of (x ∷ xs) ≡ None = rw e refl in
    let short : short_of (x ∷ xs) ≡ None = rw e refl in
    goes_on (held [] (pending [])) true (x ∷ xs) rest apart
    ∙ ap (by_long (held [] (pending [])) (waits true) (x ∷ xs) rest) long
    ∙ ap (by_short (x ∷ xs) rest) short

at_end : (h : Held) (end : List Text) → IsEnd end → comes_from (walk_at h idle false) end ≡ ended h
unfolding walk_fault
at_end h end (inl is) = ap (comes_from (walk_at h idle false)) is
at_end h end (inr is) = ap (comes_from (walk_at h idle false)) is ∙ ends_at h false []

value_settled : (text : Text) → IsPassed text → ended (held [] (pending (text ∷ []))) ≡ []
unfolding defaults_fault
value_settled text e = rw e refl

two_words : (text : Text) (end : List Text) → IsPassed text → IsEnd end
    → farm_fault (codes "--workers" ∷ text ∷ end) ≡ []
two_words [] end e h = absurd (true≢false (sym e))
two_words (x ∷ xs) end e h = option_first ((x ∷ xs) ∷ end)
    ∙ value_next x xs end (read_number (x ∷ xs) e).0
    ∙ at_end (held [] (pending ((x ∷ xs) ∷ []))) end h
    ∙ value_settled (x ∷ xs) e

abbrev walk_after : Text → Held × Step → Walk
walk_after word met = after_step rules word (walk_at (held [] (pending [])) (waits true) false) met.0 met.1

walked_on : (word : Text) → bytes_eq word dashes ≡ false
    → walked rules [] (walk_at (held [] (pending [])) (waits true) false) word
    ≡ walk_after word (long_or_other rules (waits true) word (long_of word) (held [] (pending [])))
unfolding walked
walked_on word e = rw e refl

value_walked : (x : ℕ) (xs : Text) → (x == 45) ≡ false
    → walked rules [] (walk_at (held [] (pending [])) (waits true) false) (x ∷ xs)
    ≡ walk_at (held [] (pending ((x ∷ xs) ∷ []))) idle false
value_walked x xs e =
    let apart : bytes_eq (x ∷ xs) dashes ≡ false = rw e refl in
    let long : long_of (x ∷ xs) ≡ None = rw e refl in
    let short : short_of (x ∷ xs) ≡ None = rw e refl in
    let h = held [] (pending []) in
    walked_on (x ∷ xs) apart
    ∙ ap (λ (o : Long). walk_after (x ∷ xs) (long_or_other rules (waits true) (x ∷ xs) o h)) long
    ∙ ap (λ (o : Option Text). walk_after (x ∷ xs) (short_or_plain rules (waits true) (x ∷ xs) o h)) short

abbrev rows_from : Walk → List Text → List Row
rows_from w words = finished rules (fold (walked rules []) w words).held

end_rows : (text : Text) (end : List Text) → IsEnd end
    → rows_from (walk_at (held [] (pending (text ∷ []))) idle false) end ≡ option_rows text
unfolding walked
end_rows text end (inl h) = ap (rows_from (walk_at (held [] (pending (text ∷ []))) idle false)) h
end_rows text end (inr h) = ap (rows_from (walk_at (held [] (pending (text ∷ []))) idle false)) h

two_words_rows : (text : Text) (end : List Text) → IsPassed text → IsEnd end
    → rows_after rules [] (codes "--workers" ∷ text ∷ end) ≡ option_rows text
unfolding walked
two_words_rows [] end e h = absurd (true≢false (sym e))
two_words_rows (x ∷ xs) end e h =
    ap (λ (w : Walk). rows_from w end) (value_walked x xs (read_number (x ∷ xs) e).0) ∙ end_rows (x ∷ xs) end h

-- these words pass
pub said_passes : (text : Text) (said end : List Text) → IsPassed text → IsSaid text said → IsEnd end
    → farm_fault (said ++ end) ≡ []
said_passes text said end e (inl is) h = ap (λ (o : List Text). farm_fault (o ++ end)) is ∙ two_words text end e h
said_passes text said end e (inr is) h = ap (λ (o : List Text). farm_fault (o ++ end)) is ∙ one_word text end e h

pub said_rows : (text : Text) (said end : List Text) → IsPassed text → IsSaid text said → IsEnd end
    → rows_after rules [] (said ++ end) ≡ option_rows text
said_rows text said end e (inl is) h =
    ap (λ (o : List Text). rows_after rules [] (o ++ end)) is ∙ two_words_rows text end e h
said_rows text said end e (inr is) h =
    ap (λ (o : List Text). rows_after rules [] (o ++ end)) is ∙ one_word_rows text end h

-- ---- the option's word

long_is : (word : Text) (p : Text × Option Text) → long_of word ≡ Some p
    → (rest : Text) × (word ≡ 45 ∷ 45 ∷ rest) × (name_and_value rest ≡ p)
long_is [] p e = absurd cc
long_is (x ∷ []) p e = by_test (x == 45)
    (λ t. let none : None ≡ Some p = rw t at e in absurd cc)
    (λ t. let none : None ≡ Some p = rw t at e in absurd cc)
long_is (x ∷ y ∷ rest) p e = by_test (x == 45)
    (λ t. by_test (y == 45)
    (λ u. (
      rest,
      ap₂ (λ (a b : ℕ). a ∷ b ∷ rest) (eqb-true x 45 t) (eqb-true y 45 u),
      named rest (rw (t, u) at e),
    ))
    (λ u. let none : None ≡ Some p = rw (t, u) at e in absurd cc))
    (λ t. let none : None ≡ Some p = rw t at e in absurd cc)
  where
    named : (z : Text) → long_of_rest z ≡ Some p → name_and_value z ≡ p
    named [] f = absurd cc
    named (z ∷ zs) f = cc

abbrev is_equals : ℕ → Bool
is_equals x = x == 61

abbrev place : Text → ℕ
place = position_or_len is_equals

cut_again : (text : Text) → has_byte 61 text ≡ true
    → text ≡ before_first is_equals text ++ 61 ∷ after_first is_equals text
cut_again [] e = absurd (true≢false (sym e))
cut_again (x ∷ xs) e = by_test (x == 61)
    (λ t. rw t (ap (λ (y : ℕ). y ∷ xs) (eqb-true x 61 t)))
    (λ t.
    let one : 1 + place xs ≡ suc (place xs) = omega arith in
    let two : 1 + place xs + 1 ≡ suc (place xs + 1) = omega arith in
    rw t (ap (λ (ys : Text). x ∷ ys) (cut_again xs (rw t at e))
    ∙ ap₂ (λ (i j : ℕ). take i (x ∷ xs) ++ 61 ∷ drop j (x ∷ xs)) (sym one) (sym two)))

uncut : (text : Text) → has_byte 61 text ≡ false → before_first is_equals text ≡ text
uncut [] e = refl
uncut (x ∷ xs) e = by_test (x == 61)
    (λ t. let clash : true ≡ false = rw t at e in absurd (true≢false clash))
    (λ t.
    let one : 1 + place xs ≡ suc (place xs) = omega arith in
    rw t (ap (λ (i : ℕ). take i (x ∷ xs)) one ∙ ap (λ (ys : Text). x ∷ ys) (uncut xs (rw t at e))))

alone : (word : Text) → long_of word ≡ Some (id, None) → word ≡ codes "--workers"
alone word e =
    let p = long_is word (id, None) e in
    let name : before_first is_equals p.0 ≡ id = ap (λ (q : Text × Option Text). q.0) p.2 in
    let given : (name_and_value p.0).1 ≡ None = ap {B = Option Text} (λ (q : Text × Option Text). q.1) p.2 in
    by_test (has_byte 61 p.0)
    (λ t. let other : Some (after_first is_equals p.0) ≡ None = rw t at given in absurd cc)
    (λ t. p.1 ∙ ap (λ (rest : Text). 45 ∷ 45 ∷ rest) (sym (uncut p.0 t) ∙ name))

with_value : (word text : Text) → long_of word ≡ Some (id, Some text) → word ≡ codes "--workers=" ++ text
with_value word text e =
    let p = long_is word (id, Some text) e in
    let name : before_first is_equals p.0 ≡ id = ap (λ (q : Text × Option Text). q.0) p.2 in
    let given : (name_and_value p.0).1 ≡ Some text = ap {B = Option Text} (λ (q : Text × Option Text). q.1) p.2 in
    by_test (has_byte 61 p.0)
    (λ t.
    let after : Some (after_first is_equals p.0) ≡ Some text = rw t at given in
    let same : after_first is_equals p.0 ≡ text = cc in
    p.1 ∙ ap (λ (rest : Text). 45 ∷ 45 ∷ rest) (cut_again p.0 t
    ∙ ap₂ (λ (x y : Text). x ++ 61 ∷ y) name same))
    (λ t. let other : None ≡ Some text = rw t at given in absurd cc)

-- ---- all words

-- the option with a value that passes, and an end
abbrev pub IsFarm : List Text → Type 0
IsFarm words = (text : Text) × (option : List Text) × (end : List Text)
    × (words ≡ option ++ end) × IsPassed text × IsSaid text option × IsEnd end

nothing_said : (words : List Text) → Comes (comes_from (walk_at (held [] None) idle true) words)
unfolding walk_fault defaults_fault
nothing_said [] = tt
nothing_said (word ∷ rest) = trailing_word (held [] None) idle word rest

attached : (word text : Text) (rest : List Text) → long_of word ≡ Some (id, Some text)
    → IsFarm (word ∷ rest) ⊎ Comes (by_long (held [] None) idle word rest (Some (id, Some text)))
attached word text rest named = by_test (accepts false (Signed (pos 1) (pos 16)) text)
    (λ e. elim (end_or_not rest) [
      | inl h ↦ inl (
        text,
        word ∷ [],
        rest,
        refl,
        e,
        inr (ap (λ (x : Text). x ∷ []) (with_value word text named)),
        h,
      )
      | inr h ↦ inr (next_comes _ _ (no_end (option_rows text) None rest refl h))
    ])
    (λ e. inr (first_comes _ _ (first_comes _ _ (value_refused text e))))

-- the option stands, and this word is its value
valued : (word text : Text) (rest : List Text) → long_of word ≡ Some (id, None) → bytes_eq text dashes ≡ false
    → IsFarm (word ∷ text ∷ rest) ⊎ Comes (comes_from (walk_at (held [] (pending [])) (waits true) false) (text ∷ rest))
valued word text rest named f = by_test (accepts false (Signed (pos 1) (pos 16)) text)
    (λ e. elim (end_or_not rest) [
      | inl h ↦ inl (
        text,
        word ∷ text ∷ [],
        rest,
        refl,
        e,
        inl (ap (λ (x : Text). x ∷ text ∷ []) (alone word named)),
        h,
      )
      | inr h ↦ inr (other_word [] (pending []) true text rest f (bad_option [] [] true text rest tt)
          (no_end [] (pending (text ∷ [])) rest refl h))
    ])
    (λ e. inr (other_word [] (pending []) true text rest f (bad_option [] [] true text rest tt)
    (bad_words [] (text ∷ []) rest (value_refused text e))))

awaited : (word : Text) (rest : List Text) → long_of word ≡ Some (id, None)
    → IsFarm (word ∷ rest) ⊎ Comes (comes_from (walk_at (held [] (pending [])) (waits true) false) rest)
awaited word [] named = inr (bad_end [] [] true false tt)
awaited word (text ∷ rest) named = by_test (bytes_eq text dashes)
    (λ e. inr (subst Comes (sym (ends (held [] (pending [])) true text rest e)) (bad_trailing [] [] true rest tt)))
    (valued word text rest named)

met : (word : Text) (rest : List Text) (given : Option Text) → long_of word ≡ Some (id, given)
    → IsFarm (word ∷ rest) ⊎ Comes (by_long (held [] None) idle word rest (Some (id, given)))
met word rest None named = awaited word rest named
met word rest (Some text) named = attached word text rest named

-- the words are taken, or refused
pub farm_decided : (words : List Text) → IsFarm words ⊎ Comes (farm_fault words)
unfolding walk_fault defaults_fault
farm_decided [] = inr tt
farm_decided (word ∷ rest) = by_test (bytes_eq word dashes)
    (λ e. inr (subst Comes (sym (ends (held [] None) false word rest e)) (nothing_said rest)))
    (λ e. elim (sorted [] None false word rest e) [
      | inl named ↦ elim (met word rest named.0 named.1) [
        | inl taken ↦ inl taken
        | inr h ↦ inr (subst Comes (sym named.2) h)
      ]
      | inr other ↦ inr (other tt)
    ])
