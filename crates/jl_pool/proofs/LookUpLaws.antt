-- The slots of what a constant names.
use Rattle.std.proofs.Common.{◌≡◌, ℕ, ◌≤◌, List, Option, Some, None, refl, sym, subst}
use Rattle.std.specs.Prelude.{option_map, MatchOption, IfSome}
use Rattle.std.specs.Option.{option_and_then, IsSomeAnd}
use Rattle.jl_names.specs.MethodTypes.{IsMethodDescriptor, TakesSlots}
use Rattle.jl_pool.specs.declared.form.Form.{Form}
use Rattle.jl_pool.specs.ForProofs.Forms.{form_of, method_slots}
use Rattle.jl_pool.proofs.FormLaws.{SlotsAre, method_slots-is, counted}

-- what the slots are to a descriptor that may be there
abbrev pub AreSlotsOf : Option (List ℕ) → Option ℕ → Type 0
AreSlotsOf ty found = MatchOption found (IfSome ty (λ text. ¬ IsMethodDescriptor text)) (λ n. (n ≤ 255) × IsSomeAnd ty (λ text. TakesSlots text n))

form_slots : (ty : Option (List ℕ)) → option_and_then (λ (f : Form). f.slots) (option_map form_of ty) ≡ option_and_then method_slots ty
unfolding form_of
form_slots None = refl
form_slots (Some text) = refl

told : (ty : Option (List ℕ)) → AreSlotsOf ty (option_and_then method_slots ty)
told None = tt
told (Some text) = by_found (method_slots text) (method_slots-is text) where
  by_found : (found : Option ℕ) → SlotsAre text found → AreSlotsOf (Some text) found
  by_found None h = h
  by_found (Some n) h = (h.few, h.takes)

-- the form of the descriptor tells them
pub slots_told : (ty : Option (List ℕ)) → AreSlotsOf ty (option_and_then (λ (f : Form). f.slots) (option_map form_of ty))
slots_told ty = subst (λ (found : Option ℕ). AreSlotsOf ty found) (sym (form_slots ty)) (told ty)

found_is : (ty : Option (List ℕ)) (found : Option ℕ) → AreSlotsOf ty found → found ≡ option_and_then method_slots ty
found_is None None h = refl
found_is None (Some n) h = absurd h.1
found_is (Some text) None h = counted text None h
found_is (Some text) (Some n) h = counted text (Some n) h
