-- Hexadecimal, by a value for each digit.
use Rattle.std.proofs.Common.{◌≡◌, ◌∙◌, refl, sym, ap, subst, arith, ℕ, ◌+◌, ◌*◌, ◌%◌, ◌<◌, ◌≤◌, List, length, take, drop}
use Rattle.std.proofs.Common.{slice_index, slice_set, bit_or, bit_and, inl, inr, Bool, true, false, Option, Some, None, Result, Ok, Err, MatchOption}
use Rattle.std.proofs.Common.{MatchResult}
use Rattle.std.specs.Prelude.{nat_lt}
use Rattle.std.proofs.lemmas.Bool.{cases_lt}
use Rattle.std.proofs.lemmas.Bool.Decides.{nat_tests}
use Rattle.std.proofs.lemmas.Nat.{le_or_l, le_or_r, or_lt, or_shifted, and_mask}
use Rattle.hex.specs.Hex.{hex_digit_value, pair_value, decode_pairs}
use Rattle.hex.specs.declared.error.FromHexError.{FromHexError}
use Rattle.hex.specs.declared.error.FromHexError.TheVariants.{InvalidHexCharacter}
use Rattle.hex.proofs.Pairs.{prepend, decode_step, decode_done, decode_err}

-- what a value tells of the digit that it was read from, if that was one
abbrev pub Reads : Option ℕ → ℕ → Type 0
Reads digit value = MatchOption digit (16 ≤ value) (λ d. value ≡ d)

-- a value below 16 is that of a digit
digit_some : (o : Option ℕ) (v : ℕ) → Reads o v → v < 16 → o ≡ Some v
digit_some (Some d) v reads h = ap Some (sym reads)
digit_some None v reads h = absurd (omega arith)

value_small : (byte v : ℕ) → hex_digit_value byte ≡ Some v → v < 16
value_small byte v h = grind (arith)

digit_none : (o : Option ℕ) (v : ℕ) → ((d : ℕ) → o ≡ Some d → d < 16) → Reads o v → 16 ≤ v → o ≡ None
digit_none (Some d) v small reads h = let few = small d refl in absurd (omega (arith, few, reads))
digit_none None v small reads h = refl

-- two digits make their byte
pair_read : (high low i x y : ℕ) → Reads (hex_digit_value high) x → Reads (hex_digit_value low) y → x < 16 → y < 16
    → pair_value high low i ≡ Ok (x * 16 + y)
pair_read high low i x y rx ry h l =
    rw (digit_some (hex_digit_value high) x rx h, digit_some (hex_digit_value low) y ry l) refl

-- a pair that isn't of digits is refused
abbrev IsRefused : Result ℕ FromHexError → Type 0
IsRefused r = (e : FromHexError) × (r ≡ Err e)

high_refused : (high low i x : ℕ) → Reads (hex_digit_value high) x → 16 ≤ x → IsRefused (pair_value high low i)
high_refused high low i x rx h =
    let none = digit_none (hex_digit_value high) x (value_small high) rx h in
    (InvalidHexCharacter high i, rw none refl)

low_refused : (high low i x y : ℕ) → Reads (hex_digit_value high) x → Reads (hex_digit_value low) y → x < 16 → 16 ≤ y
    → IsRefused (pair_value high low i)
low_refused high low i x y rx ry h l =
    let none = digit_none (hex_digit_value low) y (value_small low) ry l in
    (InvalidHexCharacter low (i + 1), rw (digit_some (hex_digit_value high) x rx h, none) refl)

-- the byte of two values
byte_of : (x y : ℕ) → x < 16 → y < 16 → bit_or (x * 16 % 256) (bit_and y 15) ≡ x * 16 + y
byte_of x y h l =
    let low : bit_and y 15 ≡ y = and_mask y 4 ∙ omega arith in
    let high : x * 16 % 256 ≡ x * 16 = omega arith in
    ap (λ (n : ℕ). bit_or n (bit_and y 15)) high ∙ ap (bit_or (x * 16)) low ∙ or_shifted x 4 y l

-- ---- the loop over pairs

-- what the values that were seen tell of the pairs before the one at i
abbrev pub AreDecoded : List ℕ → List ℕ → ℕ → ℕ → Type 0
AreDecoded digits bytes i seen =
    (seen < 16 → decode_pairs 0 digits ≡ prepend (take i bytes) (decode_pairs (2 * i) (drop (2 * i) digits)))
    × (16 ≤ seen → (e : FromHexError) × (decode_pairs 0 digits ≡ Err e))

module _ (digits bytes : List ℕ) (i seen x y : ℕ) (fits : 2 * i + 1 < length digits) (room : i < length bytes)
    (before : AreDecoded digits bytes i seen)
    (high : Reads (hex_digit_value (slice_index digits (2 * i))) x)
    (low : Reads (hex_digit_value (slice_index digits (2 * i + 1))) y) where
  abbrev first : ℕ
  first = slice_index digits (2 * i)

  abbrev second : ℕ
  second = slice_index digits (2 * i + 1)

  -- a pair of digits more
  read_more : seen < 16 → x < 16 → y < 16
      → decode_pairs 0 digits
      ≡ prepend (take (i + 1) (slice_set bytes i (bit_or (x * 16 % 256) (bit_and y 15))))
      (decode_pairs (2 * (i + 1)) (drop (2 * (i + 1)) digits))
  read_more s h l =
      decode_step digits bytes i _ fits room
      (pair_read first second (2 * i) x y high low h l ∙ ap Ok (sym (byte_of x y h l))) (before.0 s)

  refused_here : seen < 16 → IsRefused (pair_value first second (2 * i))
      → (e : FromHexError) × (decode_pairs 0 digits ≡ Err e)
  refused_here s bad = (bad.0, decode_err digits bytes i bad.0 fits bad.1 (before.0 s))

  all_small : seen < 16 → x < 16 → y < 16 → bit_or seen (bit_or x y) < 16
  all_small s h l = or_lt 4 seen (bit_or x y) s (or_lt 4 x y h l)

  refuse_more : 16 ≤ bit_or seen (bit_or x y) → (e : FromHexError) × (decode_pairs 0 digits ≡ Err e)
  refuse_more big =
      elim (cases_lt seen 16) [
        | inr earlier ↦ before.1 earlier
        | inl s ↦
            elim (cases_lt x 16) [
              | inr bad ↦ refused_here s (high_refused first second (2 * i) x high bad)
              | inl h ↦
                  elim (cases_lt y 16) [
                    | inr bad ↦ refused_here s (low_refused first second (2 * i) x y high low h bad)
                    | inl l ↦ let small = all_small s h l in absurd (omega (arith, small, big))
                  ]
            ]
      ]

  pub decoded_more : AreDecoded digits (slice_set bytes i (bit_or (x * 16 % 256) (bit_and y 15))) (i + 1) (bit_or seen (bit_or x y))
  decoded_more = (
    λ small.
        let both = le_or_r seen (bit_or x y) in
        read_more (omega (arith, le_or_l seen (bit_or x y), small))
        (omega (arith, both, le_or_l x y, small))
        (omega (arith, both, le_or_r x y, small)),
    refuse_more,
  )

-- what all the values tell
abbrev Tells : List ℕ → Bool → Result (List ℕ) FromHexError → Type 0
Tells bytes told r = MatchResult r (λ file. (told ≡ true) × (bytes ≡ file)) (λ _. told ≡ false)

pub all_decoded : (digits bytes : List ℕ) (i seen : ℕ) → length bytes ≤ i → length digits ≤ 2 * i
    → AreDecoded digits bytes i seen → Tells bytes (nat_lt seen 16) (decode_pairs 0 digits)
all_decoded digits bytes i seen h fits known =
    elim (cases_lt seen 16) [
      | inl small ↦
          subst (Tells bytes (nat_lt seen 16)) (sym (decode_done digits bytes i h fits (known.0 small)))
          (grind (arith, nat_tests), refl)
      | inr big ↦
          let bad = known.1 big in
          subst (Tells bytes (nat_lt seen 16)) (sym bad.1) (grind (arith, nat_tests))
    ]
