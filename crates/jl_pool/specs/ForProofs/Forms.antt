-- What a text of a pool may stand for, as functions on lists.
use Rattle.std.specs.Prelude.{ℕ, ◌+◌, ◌==◌, nat_le, Bool, true, false, not, ◌&&◌, ◌||◌, is_some, if◌then◌else◌, List, [], ◌∷◌, length, map, Option}
use Rattle.std.specs.Prelude.{Some, None, Result, Ok, Err, option_map}
use Rattle.std.specs.Option.{option_and_then, option_map_or}
use Rattle.std.specs.Str.{byte}
use Rattle.jl_names.specs.declared.descriptor.FieldType.{FieldType}
use Rattle.jl_names.specs.ClassNames.{is_class_name, is_unqualified}
use Rattle.jl_names.specs.MethodTypes.{slots_of}
use Rattle.jl_names.specs.ForProofs.Descriptors.{field_at}
use Rattle.jl_names.specs.ForProofs.MethodTypes.{after_byte, return_at}
use Rattle.jl_pool.specs.declared.constant.Constant.{Constant}
use Rattle.jl_pool.specs.declared.constant.Constant.TheVariants.{Class, Fieldref, Methodref, InterfaceMethodref, NameAndType, MethodType, Dynamic}
use Rattle.jl_pool.specs.declared.constant.Constant.TheVariants.{InvokeDynamic}
use Rattle.jl_pool.specs.declared.form.Form.{Form}
use Rattle.jl_pool.specs.Pools.{Pool, Signed, text_of, text_at, descriptor_at, named_descriptor, begins_array, has_angle}

-- something was read, and nothing is left
abbrev pub is_whole : {X : Type 0} → Result (X × List ℕ) (List ℕ) → Bool
is_whole (Ok x) = length x.1 == 0
is_whole (Err left) = false

unfoldable pub is_field : List ℕ → Bool
is_field text = is_whole (field_at text)

abbrev pub at_close : ℕ → Option (List ℕ) → Option (ℕ × List ℕ) → Option (ℕ × List ℕ)
at_close n (Some after) more = Some (n, after)
at_close n None more = more

abbrev pub at_type : (ℕ → List ℕ → Option (ℕ × List ℕ)) → ℕ → Result (FieldType × List ℕ) (List ℕ) → Option (ℕ × List ℕ)
at_type next n (Ok x) = if nat_le (n + slots_of x.0) 255 then next (n + slots_of x.0) x.1 else None
at_type next n (Err left) = None

-- the slots of types up to the bracket that closes them, n before them, and what comes after it; the first list counts turns
unfoldable pub slots_from : List ℕ → ℕ → List ℕ → Option (ℕ × List ℕ)
slots_from [] n text = None
slots_from (turn ∷ turns) n text = at_close n (after_byte (byte ")") text) (at_type (slots_from turns) n (field_at text))

abbrev pub if_whole : {X : Type 0} → ℕ → Result (X × List ℕ) (List ℕ) → Option ℕ
if_whole n read = if is_whole read then Some n else None

abbrev pub slots_after : List ℕ → Option ℕ
slots_after inner = option_and_then (λ x. if_whole x.0 (return_at x.1)) (slots_from (0 ∷ inner) 0 inner)

-- the slots of a method descriptor's parameters, 255 at most
unfoldable pub method_slots : List ℕ → Option ℕ
method_slots text = option_and_then slots_after (after_byte (byte "(") text)

unfoldable pub form_of : List ℕ → Form
form_of text = record {
  class_name = is_class_name text;
  unqualified = is_unqualified text;
  plain = is_unqualified text
      && not (has_angle text);
  field = is_field text;
  slots = method_slots text;
}

-- by number, the forms of the texts
abbrev pub forms_of : Pool → List (Option Form)
forms_of pool = map (λ place. option_map form_of (option_and_then text_of place)) pool

-- ---- what the texts that a constant names may stand for, as a test

abbrev pub is_descriptor : Option (List ℕ) → (Form → Bool) → Bool
is_descriptor text test = option_map_or (λ t. test (form_of t)) text false

abbrev pub takes_slots : Form → Bool
takes_slots form = is_some form.slots

abbrev pub is_class_text : List ℕ → Bool
is_class_text text = is_class_name text || (is_field text && begins_array text)

abbrev pub is_typed : Pool → Constant → Bool
is_typed pool (Class name) = option_map_or is_class_text (text_at pool name) false
is_typed pool (NameAndType name ty) = is_descriptor (text_at pool ty) (λ form. form.field || takes_slots form)
is_typed pool (Fieldref owner name_and_type) = is_descriptor (descriptor_at pool name_and_type) (λ form. form.field)
is_typed pool (Dynamic bootstrap name_and_type) = is_descriptor (descriptor_at pool name_and_type) (λ form. form.field)
is_typed pool (Methodref owner name_and_type) = is_descriptor (descriptor_at pool name_and_type) takes_slots
is_typed pool (InterfaceMethodref owner name_and_type) = is_descriptor (descriptor_at pool name_and_type) takes_slots
is_typed pool (InvokeDynamic bootstrap name_and_type) = is_descriptor (descriptor_at pool name_and_type) takes_slots
is_typed pool (MethodType ty) = is_descriptor (text_at pool ty) takes_slots
is_typed pool _ = true

-- the slots of the method or call site that the constant at a number names
abbrev pub slots_at : Pool → ℕ → Option ℕ
slots_at pool n = option_and_then method_slots (named_descriptor pool n)

-- two texts, as a name with its descriptor
abbrev pub signed_names : List ℕ × List ℕ → Signed
signed_names x = record { name = x.0; ty = x.1 }
