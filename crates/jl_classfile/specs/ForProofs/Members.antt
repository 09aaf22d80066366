-- The tests of a field and of a method, and what they find out. No public clause cites this.
use Rattle.std.specs.Prelude.{◌≡◌, ℕ, ◌+◌, ◌<◌, ◌≤◌, ◌==◌, Bool, true, false, not, ◌&&◌, nat_le, IsTrue, List, length, Option, Some, None, slice_get}
use Rattle.std.specs.Option.{option_map_or}
use Rattle.std.specs.List.{Contains}
use Rattle.std.specs.Borrow.{Bor}
use Rattle.jl_names.specs.ClassNames.{is_unqualified}
use Rattle.jl_names.specs.Repeats.{text_at as text_of_number}
use Rattle.jl_names.specs.ForProofs.Prints.{print_from}
use Rattle.jl_classfile.specs.declared.body.Member.{Member}
use Rattle.jl_classfile.specs.declared.fault.ClassFault.{ClassFault}
use Rattle.jl_classfile.specs.declared.fault.ClassFault.TheVariants.{BadLink, BadMember, DuplicateMethod, TwoCodes}
use Rattle.jl_pool.specs.Pools.{Pool, text_at}
use Rattle.jl_classfile.specs.Conditions.{one_if, is_method_name, flags_fit, IsTextNumber, MemberLinks, member_numbers, FieldFits, MethodFits}
use Rattle.jl_classfile.specs.Conditions.{same_method, codes_of}
use Rattle.jl_class.specs.Flags.{has_flag, STATIC}
use Rattle.jl_pool.specs.ForProofs.Forms.{is_field, method_slots}
pub use Rattle.jl_pool.specs.ForProofs.Forms.{form_of}

-- whether the test holds of the text, if one stands there
abbrev pub on_text : (List ℕ → Bool) → Option (List ℕ) → Bool
on_text test text = option_map_or test text true

abbrev pub field_fits : Pool → Member → Bool
field_fits pool m = on_text is_unqualified (text_at pool m.name) && on_text is_field (text_at pool m.descriptor)

abbrev pub takes_few : ℕ → List ℕ → Bool
takes_few flags text = option_map_or (λ n. nat_le (n + one_if (not (has_flag flags STATIC))) 255) (method_slots text) false

abbrev pub method_fits : Pool → Bool → Member → Bool
method_fits pool interface m =
    (on_text is_method_name (text_at pool m.name) && on_text (flags_fit interface m.flags) (text_at pool m.name))
    && on_text (takes_few m.flags) (text_at pool m.descriptor)

abbrev pub is_at : Option ℕ → ℕ → Bool
is_at None place = false
is_at (Some found) place = found == place

pub record FieldTested (pool : Pool) (m : Member) : Type 0 where
  pub links : MemberLinks pool m
  pub fits : FieldFits pool m

pub record MethodTested (pool : Pool) (interface : Bool) (m : Member) : Type 0 where
  pub links : MemberLinks pool m
  pub fits : MethodFits pool interface m
  pub one_code : length (codes_of pool m) ≤ 1

abbrev pub IsFieldFault : Pool → ℕ → Member → ClassFault → Type 0
IsFieldFault pool place m (BadLink n) = Contains (member_numbers m) n × ¬ IsTextNumber pool n
IsFieldFault pool place m (BadMember k) = (k ≡ place) × ¬ FieldFits pool m
IsFieldFault pool place m _ = ⊥

abbrev pub IsMethodFault : Pool → Bool → ℕ → ℕ → Bool → Member → ClassFault → Type 0
IsMethodFault pool interface place index twin m (BadLink n) = Contains (member_numbers m) n × ¬ IsTextNumber pool n
IsMethodFault pool interface place index twin m (BadMember k) = (k ≡ place) × ¬ MethodFits pool interface m
IsMethodFault pool interface place index twin m (DuplicateMethod i) = (i ≡ index) × (twin ≡ true)
IsMethodFault pool interface place index twin m (TwoCodes i) = (i ≡ index) × (2 ≤ length (codes_of pool m))
IsMethodFault pool interface place index twin m _ = ⊥

-- method i has the name and the descriptor of an earlier one
pub record IsTwin (pool : Pool) (ms : List Member) (i : ℕ) : Type 0 where
  pub earlier : ℕ
  pub before : earlier < i
  pub one : Member
  pub other : Member
  pub one_stands : slice_get ms earlier ≡ Some one
  pub other_stands : slice_get ms i ≡ Some other
  pub same : IsTrue (same_method pool other one)

pub record IsFirstTwin (pool : Pool) (ms : List Member) (i : ℕ) : Type 0 where
  pub twin : IsTwin pool ms i
  pub first : (k : ℕ) → k < i → ¬ IsTwin pool ms k

-- the text that is kept for a number is the one that stands there, if one does
abbrev pub IsTextAt : List (Option (Bor (List ℕ))) → Pool → ℕ → Type 0
IsTextAt texts pool n = text_of_number texts n ≡ text_at pool n

abbrev pub AreTexts : List (Option (Bor (List ℕ))) → Pool → Member → Type 0
AreTexts texts pool m = IsTextAt texts pool m.name × IsTextAt texts pool m.descriptor

-- what a text makes of a print, if there is one
abbrev pub print_onto : ℕ → Option (List ℕ) → ℕ
print_onto before text = option_map_or (print_from before) text before

-- the print of a method's name and descriptor
abbrev pub print_of : Pool → Member → ℕ
print_of pool m = print_onto (print_onto 0 (text_at pool m.name)) (text_at pool m.descriptor)
