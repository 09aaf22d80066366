-- What a text may stand for, found by reading it, is what the definitions say.
use Rattle.std.proofs.Common.{◌≡◌, ℕ, ◌+◌, ◌<◌, ◌≤◌, Bool, true, false, eqb, not, List, [], ◌∷◌, length, Option, Some, None, Result}
use Rattle.std.proofs.Common.{Ok, Err, refl, sym, ap, ◌∙◌, arith}
use Rattle.jl_names.specs.declared.fault.NameFault.{NameFault}
use Rattle.jl_names.specs.declared.fault.NameFault.TheVariants.{BadByte, Truncated, BadDescriptor, TooManySlots, Memory}
use Rattle.std.specs.Prelude.{IfOk, IfErr, is_ok, MatchBool, MatchOption, Decides, nat_le, if◌then◌else◌}
use Rattle.std.specs.Option.{option_and_then}
use Rattle.std.specs.List.{AllByRecursion, list_all}
use Rattle.std.proofs.lemmas.List.Elements.{All-from_recursion}
use Rattle.std.proofs.lemmas.List.Splits.{slice_split_none}
use Rattle.jl_names.specs.ClassNames.{is_reserved, is_unqualified, is_class_name}
use Rattle.std.proofs.lemmas.Bool.{false_from_ne_true, and_parts}
use Rattle.std.proofs.lemmas.Bool.Decides.{nat_tests}
use Rattle.jl_names.specs.declared.descriptor.FieldType.{FieldType}
use Rattle.jl_names.specs.Descriptors.{field_text, IsFieldType, IsFieldDescriptor, IsFieldFault}
use Rattle.jl_names.specs.MethodTypes.{IsMethodDescriptor, TakesSlots, slots_of}
use Rattle.jl_names.specs.ForProofs.Descriptors.{field_at}
use Rattle.jl_names.specs.ForProofs.MethodTypes.{after_byte, return_at, SlotsStand, FewSlots}
use Rattle.jl_names.proofs.Tests.{told-decides}
use Rattle.jl_names.proofs.DescriptorLaws.{field_whole, field_fault, field_trailing, field_less}
use Rattle.jl_names.proofs.MethodLaws.{method_one}
use Rattle.jl_names.proofs.SlotLaws.{SlotsStand-more, SlotsStand-closed, stopped_none, over_none, unopened_none, many_none, result_none}
use Rattle.jl_names.proofs.SlotLaws.{trailing_none, whole_slots}
use Rattle.jl_pool.specs.ForProofs.Forms.{is_whole, is_field, at_close, at_type, slots_from, if_whole, slots_after, method_slots}

-- ---- field descriptors

whole_is : (text : List ℕ) (read : Result (FieldType × List ℕ) (List ℕ)) → field_at text ≡ read
    → MatchBool (is_whole read) (IsFieldDescriptor text) (¬ IsFieldDescriptor text)
whole_is text (Err left) e = (field_fault text left e).none
whole_is text (Ok x) e = by_rest (eqb (length x.1) 0) refl where
  by_rest : (b : Bool) → eqb (length x.1) 0 ≡ b → MatchBool b (IsFieldDescriptor text) (¬ IsFieldDescriptor text)
  by_rest true none = let w = field_whole text x.1 x.0 e none in (x.0, w.0, w.1)
  by_rest false some = (field_trailing text x.1 x.0 e some).none

pub is_field-is : (text : List ℕ) → Decides (is_field text) (IsFieldDescriptor text)
unfolding is_field
is_field-is text = told-decides (is_whole (field_at text)) (whole_is text (field_at text) refl)

-- ---- slots

-- what slots_from has to give
abbrev SlotsFound : List ℕ → Option (ℕ × List ℕ) → Type 0
SlotsFound text found = MatchOption found (¬ FewSlots text) (λ x. (x.0 ≤ 255) × SlotsStand text x.0 (41 ∷ x.1))

from_is : (turns : List ℕ) (text : List ℕ) (n : ℕ) (rest : List ℕ) → length rest < length turns → n ≤ 255 → SlotsStand text n rest
    → SlotsFound text (slots_from turns n rest)
unfolding slots_from
from_is [] text n rest short few s = absurd (omega arith)
from_is (turn ∷ turns) text n rest short few s =
    at_bracket
    (λ x e fits.
    from_is turns text (n + slots_of x.0) x.1 (let less = field_less rest x.1 x.0 e in omega (arith, less, short)) fits
    (SlotsStand-more text n rest x.0 x.1 s e (omega (arith, fits))))
    (after_byte 41 rest) refl where
      at_sum : ((x : FieldType × List ℕ) → field_at rest ≡ Ok x → n + slots_of x.0 ≤ 255 → SlotsFound text (slots_from turns (n + slots_of x.0) x.1))
          → (x : FieldType × List ℕ) → field_at rest ≡ Ok x → (b : Bool) → nat_le (n + slots_of x.0) 255 ≡ b
          → SlotsFound text (if b then slots_from turns (n + slots_of x.0) x.1 else None)
      at_sum next x e true fits = next x e (grind (arith, nat_tests))
      at_sum next x e false over = over_none text n rest x.0 x.1 s e (grind (arith, nat_tests))

      at_field : ((x : FieldType × List ℕ) → field_at rest ≡ Ok x → n + slots_of x.0 ≤ 255 → SlotsFound text (slots_from turns (n + slots_of x.0) x.1))
          → after_byte 41 rest ≡ None → (read : Result (FieldType × List ℕ) (List ℕ)) → field_at rest ≡ read
          → SlotsFound text (at_type (slots_from turns) n read)
      at_field next unclosed (Err left) e = stopped_none text n rest left s unclosed e
      at_field next unclosed (Ok x) e = at_sum next x e (nat_le (n + slots_of x.0) 255) refl

      at_bracket : ((x : FieldType × List ℕ) → field_at rest ≡ Ok x → n + slots_of x.0 ≤ 255 → SlotsFound text (slots_from turns (n + slots_of x.0) x.1))
          → (o : Option (List ℕ)) → after_byte 41 rest ≡ o → SlotsFound text (at_close n o (at_type (slots_from turns) n (field_at rest)))
      at_bracket next (Some after) e = (few, SlotsStand-closed text n rest after s e)
      at_bracket next None e = at_field next e (field_at rest) refl

pub record IsSlots (text : List ℕ) (n : ℕ) : Type 0 where
  pub few : n ≤ 255
  pub takes : TakesSlots text n

abbrev pub SlotsAre : List ℕ → Option ℕ → Type 0
SlotsAre text found = MatchOption found (¬ IsMethodDescriptor text) (IsSlots text)

none_before : (inner : List ℕ) → SlotsStand inner 0 inner
none_before inner = record { types = []; stand = record { each = tt; bytes = refl }; slots_is = refl; few = omega arith }

method_slots-at : (text : List ℕ) (opened : Option (List ℕ)) → after_byte 40 text ≡ opened → SlotsAre text (option_and_then slots_after opened)
method_slots-at text None e = unopened_none text e
method_slots-at text (Some inner) e = at_parameters (slots_from (0 ∷ inner) 0 inner)
    (from_is (0 ∷ inner) inner 0 inner (omega arith) (omega arith) (none_before inner)) where
      at_end : (n : ℕ) (middle left : List ℕ) (r : Option FieldType) → n ≤ 255 → SlotsStand inner n (41 ∷ middle) → return_at middle ≡ Ok (r, left)
          → (b : Bool) → eqb (length left) 0 ≡ b → SlotsAre text (if b then Some n else None)
      at_end n middle left r few s h true none = record { few = few; takes = (whole_slots text inner middle left n r e s h none).1 }
      at_end n middle left r few s h false some = trailing_none text inner middle left n r e s h some

      at_return : (n : ℕ) (middle : List ℕ) → n ≤ 255 → SlotsStand inner n (41 ∷ middle) → (read : Result (Option FieldType × List ℕ) (List ℕ))
          → return_at middle ≡ read → SlotsAre text (if_whole n read)
      at_return n middle few s (Err left) h = result_none text inner middle left n e s h
      at_return n middle few s (Ok x) h = at_end n middle x.1 x.0 few s h (eqb (length x.1) 0) refl

      at_parameters : (found : Option (ℕ × List ℕ)) → SlotsFound inner found → SlotsAre text (option_and_then (λ x. if_whole x.0 (return_at x.1)) found)
      at_parameters None many = many_none text inner e many
      at_parameters (Some x) h = at_return x.0 x.1 h.0 h.1 (return_at x.1) refl

pub method_slots-is : (text : List ℕ) → SlotsAre text (method_slots text)
unfolding method_slots
method_slots-is text = method_slots-at text (after_byte 40 text) refl

-- a text takes one number of slots
pub one_slots : (text : List ℕ) (m n : ℕ) → TakesSlots text m → TakesSlots text n → m ≡ n
one_slots text m n a b = let same = method_one a.0 b.0 a.1 b.1 (sym a.2 ∙ b.2) in cc (same, a.3, b.3)

-- ---- what the functions found

pub parsed : (text : List ℕ) (r : Result FieldType NameFault) → IfOk r (λ ty. IsFieldType ty × (text ≡ field_text ty)) → IfErr r (IsFieldFault text)
    → is_ok r ≡ is_field text
parsed text (Ok ty) ok fault = sym ((is_field-is text).1 (ty, ok.0, ok.1))
parsed text (Err (BadDescriptor at)) ok fault = sym (false_from_ne_true (is_field text) (λ e. fault.none ((is_field-is text).0 e)))
parsed text (Err (BadByte at)) ok fault = absurd fault
parsed text (Err Truncated) ok fault = absurd fault
parsed text (Err TooManySlots) ok fault = absurd fault
parsed text (Err Memory) ok fault = absurd fault

same_slots : (text : List ℕ) (a b : Option ℕ) → SlotsAre text a → SlotsAre text b → a ≡ b
same_slots text None None g h = refl
same_slots text None (Some n) g h = absurd (g (n, h.few, h.takes))
same_slots text (Some n) None g h = absurd (h (n, g.few, g.takes))
same_slots text (Some m) (Some n) g h = ap (λ (k : ℕ). Some k) (one_slots text m n g.takes h.takes)

slots_of_found : (text : List ℕ) (found : Option ℕ) → MatchOption found (¬ IsMethodDescriptor text) (λ n. (n ≤ 255) × TakesSlots text n) → SlotsAre text found
slots_of_found text None h = h
slots_of_found text (Some n) h = record { few = h.0; takes = h.1 }

pub counted : (text : List ℕ) (found : Option ℕ) → MatchOption found (¬ IsMethodDescriptor text) (λ n. (n ≤ 255) × TakesSlots text n)
    → found ≡ method_slots text
counted text found h = same_slots text found (method_slots text) (slots_of_found text found h) (method_slots-is text)

-- ---- names

reserves_slash : (b : ℕ) → not (is_reserved b) ≡ true → eqb b 47 ≡ false
reserves_slash b h = grind (arith, nat_tests)

no_slash : (text : List ℕ) → list_all (λ c. not (is_reserved c)) text ≡ true → AllByRecursion (λ b. eqb b 47 ≡ false) text
no_slash [] h = tt
no_slash (b ∷ text) h = let both = and_parts (not (is_reserved b)) (list_all (λ c. not (is_reserved c)) text) h in
    (reserves_slash b both.0, no_slash text both.1)

-- an unqualified name is a class name, of one part
pub class_name_of : (text : List ℕ) → is_unqualified text ≡ true → is_class_name text ≡ true
class_name_of [] h = absurd cc
class_name_of (b ∷ text) h =
    let one = slice_split_none (λ c. eqb c 47) (b ∷ text) (All-from_recursion (λ c. eqb c 47 ≡ false) (b ∷ text) (no_slash (b ∷ text) h)) in
    ap (list_all is_unqualified) one ∙ rw h refl
