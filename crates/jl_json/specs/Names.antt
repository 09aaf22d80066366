-- Names as text: from modified UTF-8 (JVMS SE 17 §4.4.7) to UTF-8.
use Rattle.std.specs.Prelude.{◌≡◌, ℕ, List, [], encode_utf8_all}
use Rattle.std.specs.Char.Utf16.{utf16_lossy_chars}
use Rattle.jl_names.specs.Mutf8.{IsMutf8, IsText}

-- the characters of the units, two surrogates being one, a lone one U+FFFD
abbrev pub units_text : List ℕ → List ℕ
units_text units = encode_utf8_all (utf16_lossy_chars units)

-- The text of a name is that of its units. It is empty if the bytes are no modified UTF-8.
pub record SpellsNames (text_of : List ℕ → List ℕ) : Type 0 where
  pub units : (name units : List ℕ) → IsMutf8 name units → text_of name ≡ units_text units
  pub none : (name : List ℕ) → ¬ IsText name → text_of name ≡ []
