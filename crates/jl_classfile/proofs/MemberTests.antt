-- The tests of one field and of one method say what the definitions say.
use Rattle.std.proofs.Common.{◌≡◌, ℕ, ◌+◌, ◌≤◌, Bool, true, false, not, ◌&&◌, List}
use Rattle.std.proofs.Common.{Option, Some, None, sym, subst, ◌∙◌, arith}
use Rattle.std.specs.Prelude.{IfSome, IsTrue, nat_le, Decides}
use Rattle.std.proofs.lemmas.Bool.Decides.{Decides-and, Decides-like}
use Rattle.jl_names.proofs.Tests.{told-decides}
use Rattle.std.specs.Option.{option_map_or}
use Rattle.std.proofs.lemmas.Bool.Decides.{nat_tests}
use Rattle.jl_names.specs.ClassNames.{is_unqualified}
use Rattle.jl_names.specs.Descriptors.{IsFieldDescriptor}
use Rattle.jl_classfile.specs.declared.body.Member.{Member}
use Rattle.jl_pool.specs.Pools.{Pool, text_at}
use Rattle.jl_classfile.specs.Conditions.{one_if, is_method_name, flags_fit, TakesFew, FieldFits, MethodFits}
use Rattle.jl_class.specs.Flags.{has_flag, STATIC}
use Rattle.jl_pool.specs.ForProofs.Forms.{is_field, method_slots}
use Rattle.jl_classfile.specs.ForProofs.Members.{on_text, field_fits, takes_few, method_fits}
use Rattle.jl_pool.proofs.FormLaws.{is_field-is, SlotsAre, method_slots-is, one_slots}

decides_on : (test : List ℕ → Bool) (IsKind : List ℕ → Type 0) → ((text : List ℕ) → Decides (test text) (IsKind text)) → (text : Option (List ℕ))
    → Decides (on_text test text) (IfSome text IsKind)
decides_on test IsKind h None = told-decides true tt
decides_on test IsKind h (Some text) = h text

decides_so : (test : List ℕ → Bool) (text : Option (List ℕ)) → Decides (on_text test text) (IfSome text (λ t. IsTrue (test t)))
decides_so test text = decides_on test (λ t. IsTrue (test t)) (λ t. (λ e. e, λ h. h)) text

pub yes_when : (b : Bool) (P : Type 0) → Decides b P → b ≡ true → P
yes_when b P d e = d.0 e

pub not_when : (b : Bool) (P : Type 0) → Decides b P → b ≡ false → ¬ P
not_when b P d e = λ p. let clash : false ≡ true = sym e ∙ d.1 p in cc

pub field_fits-is : (pool : Pool) (m : Member) → Decides (field_fits pool m) (FieldFits pool m)
field_fits-is pool m =
    Decides-like (field_fits pool m) (λ p. record { name = p.0; descriptor = p.1 }) (λ f. (f.name, f.descriptor))
    (Decides-and (on_text is_unqualified (text_at pool m.name)) (on_text is_field (text_at pool m.descriptor))
    (decides_so is_unqualified (text_at pool m.name)) (decides_on is_field IsFieldDescriptor is_field-is (text_at pool m.descriptor)))

few_is : (flags n : ℕ) → nat_le (n + one_if (not (has_flag flags STATIC))) 255 ≡ true → n + one_if (not (has_flag flags STATIC)) ≤ 255
few_is flags n e = grind (arith, nat_tests)

few_test : (flags n : ℕ) → n + one_if (not (has_flag flags STATIC)) ≤ 255 → nat_le (n + one_if (not (has_flag flags STATIC))) 255 ≡ true
few_test flags n e = grind (arith, nat_tests)

takes_few-is : (flags : ℕ) (text : List ℕ) → Decides (takes_few flags text) (TakesFew flags text)
takes_few-is flags text = by_slots (method_slots text) (method_slots-is text) where
  by_slots : (found : Option ℕ) → SlotsAre text found → Decides (option_map_or (λ n. nat_le (n + one_if (not (has_flag flags STATIC))) 255) found false)
      (TakesFew flags text)
  by_slots None none = told-decides false (λ few. none (few.0, (let low = few.1 in omega (arith, low)), few.2))
  by_slots (Some n) h = (
    λ e. (n, few_is flags n e, h.takes),
    λ few.
        subst (λ (k : ℕ). nat_le (k + one_if (not (has_flag flags STATIC))) 255 ≡ true) (sym (one_slots text n few.0 h.takes few.2))
        (few_test flags few.0 few.1),
  )

pub method_fits-is : (pool : Pool) (interface : Bool) (m : Member) → Decides (method_fits pool interface m) (MethodFits pool interface m)
method_fits-is pool interface m =
    let name = text_at pool m.name in
    let descriptor = text_at pool m.descriptor in
    Decides-like (method_fits pool interface m) (λ p. record { name = p.0.0; descriptor = p.1; flags = p.0.1 }) (λ f. ((f.name, f.flags), f.descriptor))
    (Decides-and (on_text is_method_name name && on_text (flags_fit interface m.flags) name) (on_text (takes_few m.flags) descriptor)
    (Decides-and (on_text is_method_name name) (on_text (flags_fit interface m.flags) name) (decides_so is_method_name name)
    (decides_so (flags_fit interface m.flags) name))
    (decides_on (takes_few m.flags) (TakesFew m.flags) (takes_few-is m.flags) descriptor))
