-- The slots of parameters, counted while they are read.
use Rattle.std.proofs.Common.{◌≡◌, ℕ, ◌+◌, ◌<◌, ◌≤◌, List, [], ◌∷◌, ◌++◌, Option, Some, None, Ok, Err, false, true, eqb, sym, ap, ◌∙◌, arith, length}
use Rattle.std.proofs.lemmas.List.Sums.{sum_by-append}
use Rattle.std.specs.List.{flat_map, sum_by, AllByRecursion}
use Rattle.jl_names.proofs.Bytes.{opening, closing}
use Rattle.jl_names.specs.declared.descriptor.FieldType.{FieldType}
use Rattle.jl_names.specs.Descriptors.{field_text, IsFieldType}
use Rattle.jl_names.specs.MethodTypes.{Signature, return_text, slots_of, IsMethodText, IsMethodDescriptor, TakesSlots}
use Rattle.jl_names.specs.ForProofs.Descriptors.{field_at}
use Rattle.jl_names.specs.ForProofs.MethodTypes.{after_byte, return_at, Stand, SlotsStand, FewSlots, MethodStands}
use Rattle.jl_names.proofs.MethodLaws.{Stand-more, Stand-closed, types_front, no_close, no_err, no_types, after_byte_is, open_stops, result_stops}
use Rattle.jl_names.proofs.MethodLaws.{method_stands, method_trailing, method_whole}

pub SlotsStand-more : (text : List ℕ) (n : ℕ) (rest : List ℕ) (t : FieldType) (after : List ℕ)
    → SlotsStand text n rest → field_at rest ≡ Ok (t, after) → n + slots_of t < 256
    → SlotsStand text (n + slots_of t) after
SlotsStand-more text n rest t after s e fits = record {
  types = s.types ++ t ∷ [];
  stand = Stand-more text s.types rest t after s.stand e;
  slots_is = omega (arith, sum_by-append slots_of s.types (t ∷ []), s.slots_is);
  few = omega arith;
}

pub SlotsStand-closed : (text : List ℕ) (n : ℕ) (rest after : List ℕ) → SlotsStand text n rest
    → after_byte closing rest ≡ Some after → SlotsStand text n (closing ∷ after)
SlotsStand-closed text n rest after s e = record {
  types = s.types;
  stand = Stand-closed text s.types rest after s.stand e;
  slots_is = s.slots_is;
  few = s.few;
}

-- what was read is a part of the parameters
front_of : (text : List ℕ) (ts : List FieldType) (rest : List ℕ) → Stand text ts rest → (few : FewSlots text)
    → (vs : List FieldType) × AllByRecursion IsFieldType vs × (rest ≡ flat_map field_text vs ++ (closing ∷ few.1))
    × (sum_by slots_of ts + sum_by slots_of vs ≡ few.0)
front_of text ts rest s few =
    let all = few.2 in
    let f = types_front ts all.types rest (closing ∷ few.1) s.each all.stand.each (no_close few.1)
    (sym s.bytes ∙ all.stand.bytes) in
    let sums : sum_by slots_of all.types ≡ sum_by slots_of (ts ++ f.0) =
    ap (λ (us : List FieldType). sum_by slots_of us) f.2 in
    (f.0, f.1, f.3, omega (arith, sum_by-append slots_of ts f.0, sums, all.slots_is))

pub stopped_none : (text : List ℕ) (n : ℕ) (rest left : List ℕ) → SlotsStand text n rest
    → after_byte closing rest ≡ None → field_at rest ≡ Err left → ¬ FewSlots text
unfolding after_byte
stopped_none text n rest left s b e = λ few.
    let f = front_of text s.types rest s.stand few in
    let none = no_types f.0 rest (closing ∷ few.1) f.1 (no_err rest left e) f.2 in
    let here : rest ≡ closing ∷ few.1 =
    f.2 ∙ ap (λ (vs : List FieldType). flat_map field_text vs ++ (closing ∷ few.1)) none in
    absurd (let clash = sym (ap (after_byte closing) here) ∙ b in cc)

pub over_none : (text : List ℕ) (n : ℕ) (rest : List ℕ) (t : FieldType) (after : List ℕ) → SlotsStand text n rest
    → field_at rest ≡ Ok (t, after) → 255 < n + slots_of t → ¬ FewSlots text
over_none text n rest t after s e over = λ few.
    let f = front_of text (s.types ++ t ∷ []) after (Stand-more text s.types rest t after s.stand e) few in
    absurd (omega (arith, f.3, sum_by-append slots_of s.types (t ∷ []), s.slots_is, few.2.few))

pub few_of : (text inner : List ℕ) → text ≡ opening ∷ inner → IsMethodDescriptor text → FewSlots inner
few_of text inner e d =
    let m = d.2.0 in
    let parameters : inner ≡ flat_map field_text m.parameters ++ (closing ∷ return_text m.returns) =
    tail_open inner _ (sym e ∙ d.2.2) in (
      d.0,
      return_text m.returns,
      record {
        types = m.parameters;
        stand = record { each = d.2.1.parameters; bytes = parameters };
        slots_is = d.2.3;
        few = d.1;
      },
    )
  where
    tail_open : (x y : List ℕ) → opening ∷ x ≡ opening ∷ y → x ≡ y
    tail_open x y h = cc

-- ---- why a text is no method descriptor

grammar_of : (text : List ℕ) → IsMethodDescriptor text → IsMethodText text
grammar_of text d = (d.2.0, d.2.1, d.2.2)

pub unopened_none : (text : List ℕ) → after_byte opening text ≡ None → ¬ IsMethodDescriptor text
unopened_none text e = λ d. (open_stops text e).none (grammar_of text d)

pub many_none : (text inner : List ℕ) → after_byte opening text ≡ Some inner → ¬ FewSlots inner → ¬ IsMethodDescriptor text
many_none text inner e many = λ d. many (few_of text inner (after_byte_is opening text inner e) d)

pub result_none : (text inner middle left : List ℕ) (n : ℕ) → after_byte opening text ≡ Some inner
    → SlotsStand inner n (closing ∷ middle) → return_at middle ≡ Err left → ¬ IsMethodDescriptor text
result_none text inner middle left n e s h =
    λ d. (result_stops text inner middle left s.types (after_byte_is opening text inner e) s.stand h).none
    (grammar_of text d)

-- the types that were read
stands_of : (text inner middle left : List ℕ) (n : ℕ) (r : Option FieldType) → after_byte opening text ≡ Some inner
    → (s : SlotsStand inner n (closing ∷ middle)) → return_at middle ≡ Ok (r, left)
    → MethodStands text (record { parameters = s.types; returns = r }) left
stands_of text inner middle left n r e s h =
    method_stands text inner middle left s.types r (after_byte_is opening text inner e) s.stand h

pub trailing_none : (text inner middle left : List ℕ) (n : ℕ) (r : Option FieldType)
    → after_byte opening text ≡ Some inner → SlotsStand inner n (closing ∷ middle) → return_at middle ≡ Ok (r, left)
    → eqb (length left) 0 ≡ false → ¬ IsMethodDescriptor text
trailing_none text inner middle left n r e s h some = λ d.
    (method_trailing text left (record { parameters = s.types; returns = r })
    (stands_of text inner middle left n r e s h) some).none (grammar_of text d)

pub whole_slots : (text inner middle left : List ℕ) (n : ℕ) (r : Option FieldType)
    → after_byte opening text ≡ Some inner → SlotsStand inner n (closing ∷ middle) → return_at middle ≡ Ok (r, left)
    → eqb (length left) 0 ≡ true → (n ≤ 255) × TakesSlots text n
whole_slots text inner middle left n r e s h none =
    let m : Signature = record { parameters = s.types; returns = r } in
    let w = method_whole text left m (stands_of text inner middle left n r e s h) none in
    (s.few, (m, w.0, w.1, s.slots_is))
