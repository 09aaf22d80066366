-- A name in modified UTF-8 has its units' text.
use Rattle.std.proofs.Common.{◌≡◌, ◌≢◌, ℕ, ◌^◌, ◌<◌, ◌≤◌, ◌&&◌, not, eqb, List, [], ◌∷◌, ◌++◌, map, get_or, Option, Some, refl}
use Rattle.std.proofs.Common.{sym, ap, ◌∙◌, true, false, arith}
use Rattle.std.specs.Prelude.{nat_lt, IsAscii, encode_utf8_all}
use Rattle.std.specs.Option.{unwrap_or}
use Rattle.std.specs.List.{AllByRecursion}
use Rattle.std.specs.Char.Utf16.{lone_unit_char, utf16_lossy_chars}
use Rattle.std.specs.Str.{bytes_eq}
use Rattle.std.proofs.lemmas.List.Elements.{All-from_recursion}
use Rattle.std.proofs.lemmas.Slice.Eq.{bytes_eq-Decides}
use Rattle.std.proofs.lemmas.Str.{utf16_chars-nil, utf16_chars_lone, encodes-IsAscii}
use Rattle.std.proofs.lemmas.Str.Ascii.{IsAscii-from_all}
use Rattle.std.proofs.lemmas.Bool.Decides.{nat_tests}
use Rattle.std.proofs.lemmas.Bool.{and_parts}
use Rattle.jl_names.specs.Mutf8.{unit_bytes, AreUnits, mutf8, IsMutf8, IsText, IsMutf8Fault}
use Rattle.jl_names.specs.declared.fault.NameFault.{NameFault}
use Rattle.jl_names.specs.declared.fault.NameFault.TheVariants.{Memory}
use Rattle.jl_names.proofs.UnitLaws.{IsMutf8-no_fault}
use Rattle.jl_json.specs.Names.{units_text, SpellsNames}
use Rattle.jl_json.specs.ForProofs.NameReading.{units_of, is_plain, name_text}

unit_read : (u : ℕ) (rest : List ℕ) → u < 2 ^ 16 → units_of (unit_bytes u ++ rest) ≡ u ∷ units_of rest
unit_read u [] lt = grind (arith, nat_tests)
unit_read u (a ∷ []) lt = grind (arith, nat_tests)
unit_read u (a ∷ b ∷ rest) lt = grind (arith, nat_tests)

units_read : (us : List ℕ) → AreUnits us → units_of (mutf8 us) ≡ us
units_read [] h = refl
units_read (u ∷ us) h = unit_read u (mutf8 us) h.0 ∙ ap (λ l. u ∷ l) (units_read us h.1)

in_range : (name : List ℕ) → AreUnits (units_of name)
in_range [] = tt
in_range (a ∷ []) = grind (arith, nat_tests)
in_range (a ∷ b ∷ []) = grind (arith, nat_tests, in_range (b ∷ []))
in_range (a ∷ b ∷ c ∷ rest) = grind (arith, nat_tests, in_range (b ∷ c ∷ rest), in_range (c ∷ rest), in_range rest)

pub of_units : (name us : List ℕ) → IsMutf8 name us → name_text name ≡ units_text us
unfolding name_text
of_units name us h =
    let read : units_of name ≡ us = ap units_of h.bytes ∙ units_read us h.in_range in
    let back : bytes_eq (mutf8 (units_of name)) name ≡ true = (bytes_eq-Decides (mutf8 (units_of name)) name).1 (ap mutf8 read ∙ sym h.bytes) in
    rw back (ap units_text read)

of_no_text : (name : List ℕ) → ¬ IsText name → name_text name ≡ []
unfolding name_text
of_no_text name none =
    elim (bytes_eq (mutf8 (units_of name)) name) as (λ b. bytes_eq (mutf8 (units_of name)) name
    ≡ b → name_text name ≡ []) [
      | true ↦ λ e. absurd (none (units_of name, record { in_range = in_range name; bytes = sym ((bytes_eq-Decides (mutf8 (units_of name)) name).0 e) }))
      | false ↦ λ e. rw e refl
    ] refl

pub spells : SpellsNames name_text
spells = record { units = of_units; none = of_no_text }

pub of_none : (name : List ℕ) (f : NameFault) → f ≢ Memory → IsMutf8Fault name f → [] ≡ name_text name
of_none name f some fault = sym (of_no_text name (λ is. IsMutf8-no_fault name is.0 f is.1 some fault))

-- ---- names of units of one byte

low_byte : (b : ℕ) → (not (eqb b 0) && nat_lt b 0x80) ≡ true → (0 < b) × (b < 128)
low_byte b h = (grind (arith, nat_tests), grind (arith, nat_tests))

low_bytes : (name : List ℕ) → is_plain name ≡ true → AllByRecursion (λ b. (0 < b) × (b < 128)) name
low_bytes [] h = tt
low_bytes (b ∷ name) h = let both = and_parts (not (eqb b 0) && nat_lt b 0x80) (is_plain name) h in (low_byte b both.0, low_bytes name both.1)

one_byte : (b : ℕ) → 0 < b → b < 128 → unit_bytes b ≡ b ∷ []
one_byte b some few = grind (arith, nat_tests)

plain_bytes : (name : List ℕ) → AllByRecursion (λ b. (0 < b) × (b < 128)) name → name ≡ mutf8 name
plain_bytes [] h = refl
plain_bytes (b ∷ name) h = ap (λ (l : List ℕ). b ∷ l) (plain_bytes name h.1) ∙ ap (λ (l : List ℕ). l ++ mutf8 name) (sym (one_byte b h.0.0 h.0.1))

plain_units : (name : List ℕ) → AllByRecursion (λ b. (0 < b) × (b < 128)) name → AreUnits name
plain_units [] h = tt
plain_units (b ∷ name) h = (omega (arith, h.0.1), plain_units name h.1)

no_pair : (b v : ℕ) → b < 128 → ¬ ((0xD800 ≤ b) × (b < 0xDC00) × (0xDC00 ≤ v) × (v < 0xE000))
no_pair b v few = λ p. absurd (omega (arith, few, p.0))

alone : (b : ℕ) → b < 128 → lone_unit_char b ≡ Some b
alone b few = grind (arith, nat_tests)

plain_chars : (name : List ℕ) → AllByRecursion (λ b. (0 < b) × (b < 128)) name → utf16_lossy_chars name ≡ name
plain_chars [] h = ap (map (λ o. unwrap_or o 0xFFFD)) utf16_chars-nil
plain_chars (b ∷ name) h =
    ap (map (λ o. unwrap_or o 0xFFFD)) (utf16_chars_lone b name (no_pair b (get_or name 0 0) h.0.1))
    ∙ ap (λ (o : Option ℕ). unwrap_or o 0xFFFD ∷ utf16_lossy_chars name) (alone b h.0.1)
    ∙ ap (λ (l : List ℕ). b ∷ l) (plain_chars name h.1)

below_128 : (name : List ℕ) → AllByRecursion (λ b. (0 < b) × (b < 128)) name → AllByRecursion (λ b. b < 128) name
below_128 [] h = tt
below_128 (b ∷ name) h = (h.0.1, below_128 name h.1)

pub ascii : (name : List ℕ) → is_plain name ≡ true → IsAscii name
ascii name h = IsAscii-from_all name (All-from_recursion (λ b. b < 128) name (below_128 name (low_bytes name h)))

pub plain_text : (name : List ℕ) → is_plain name ≡ true → name_text name ≡ name
plain_text name h =
    let low = low_bytes name h in
    of_units name name (record { in_range = plain_units name low; bytes = plain_bytes name low })
    ∙ ap encode_utf8_all (plain_chars name low) ∙ encodes-IsAscii name (ascii name h)
