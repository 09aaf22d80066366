-- The test of the descriptors that a constant names says what the definition says.
use Rattle.std.proofs.Common.{ℕ, Bool, true, false, ◌||◌, ◌&&◌, List, Option, Some, None}
use Rattle.std.specs.Prelude.{MatchOption, ◌⊎◌, is_some, Decides}
use Rattle.std.specs.Option.{IsSomeAnd}
use Rattle.std.proofs.lemmas.Bool.Decides.{Decides-and, Decides-or, Decides-like}
use Rattle.jl_names.specs.ClassNames.{is_class_name}
use Rattle.jl_names.specs.Descriptors.{IsFieldDescriptor}
use Rattle.jl_names.specs.MethodTypes.{IsMethodDescriptor}
use Rattle.jl_names.proofs.Tests.{told-decides}
use Rattle.jl_pool.specs.declared.constant.Constant.{Constant}
use Rattle.jl_pool.specs.declared.constant.Constant.TheVariants.{Utf8, Integer, Float, Long, Double, Class, String, Fieldref, Methodref}
use Rattle.jl_pool.specs.declared.constant.Constant.TheVariants.{InterfaceMethodref, NameAndType}
use Rattle.jl_pool.specs.declared.constant.Constant.TheVariants.{MethodHandle, MethodType, Dynamic, InvokeDynamic, Module, Package}
use Rattle.jl_pool.specs.Pools.{Pool, text_at, descriptor_at, begins_array, IsClassText, IsTyped}
use Rattle.jl_pool.specs.ForProofs.Forms.{is_field, method_slots, form_of, is_class_text, takes_slots, is_typed}
use Rattle.jl_pool.proofs.FormLaws.{is_field-is, IsSlots, method_slots-is}

is_method-is : (text : List ℕ) → Decides (is_some (method_slots text)) (IsMethodDescriptor text)
is_method-is text = by_found (method_slots text) (method_slots-is text) where
  by_found : (found : Option ℕ) → MatchOption found (¬ IsMethodDescriptor text) (IsSlots text) → Decides (is_some found) (IsMethodDescriptor text)
  by_found None h = told-decides false h
  by_found (Some n) h = told-decides true (n, h.few, h.takes)

is_class_text-is : (text : List ℕ) → Decides (is_class_text text) (IsClassText text)
is_class_text-is text =
    Decides-or (is_class_name text) (is_field text && begins_array text) (λ e. e, λ h. h)
    (Decides-like (is_field text && begins_array text) (λ h. (h.1, h.0)) (λ h. (h.1, h.0))
    (Decides-and (is_field text) (begins_array text) (is_field-is text) (λ e. e, λ h. h)))

decides_text : (test : List ℕ → Bool) (IsKind : List ℕ → Type 0) → ((text : List ℕ) → Decides (test text) (IsKind text)) → (text : Option (List ℕ))
    → Decides (Rattle.std.specs.Option.option_map_or test text false) (IsSomeAnd text IsKind)
decides_text test IsKind h None = told-decides false (λ x. x)
decides_text test IsKind h (Some text) = h text

either_type : (text : List ℕ) → Decides ((form_of text).field || takes_slots (form_of text)) (IsFieldDescriptor text ⊎ IsMethodDescriptor text)
unfolding form_of
either_type text = Decides-or (is_field text) (is_some (method_slots text)) (is_field-is text) (is_method-is text)

field_type : (text : List ℕ) → Decides (form_of text).field (IsFieldDescriptor text)
unfolding form_of
field_type text = is_field-is text

method_type : (text : List ℕ) → Decides (takes_slots (form_of text)) (IsMethodDescriptor text)
unfolding form_of
method_type text = is_method-is text

pub is_typed-is : (pool : Pool) (c : Constant) → Decides (is_typed pool c) (IsTyped pool c)
is_typed-is pool (Class name) = decides_text is_class_text IsClassText is_class_text-is (text_at pool name)
is_typed-is pool (NameAndType name ty) = decides_text (λ t. (form_of t).field || takes_slots (form_of t)) (λ t. IsFieldDescriptor t
    ⊎ IsMethodDescriptor t) either_type (text_at pool ty)
is_typed-is pool (Fieldref owner nt) = decides_text (λ t. (form_of t).field) IsFieldDescriptor field_type (descriptor_at pool nt)
is_typed-is pool (Dynamic bootstrap nt) = decides_text (λ t. (form_of t).field) IsFieldDescriptor field_type (descriptor_at pool nt)
is_typed-is pool (Methodref owner nt) = decides_text (λ t. takes_slots (form_of t)) IsMethodDescriptor method_type (descriptor_at pool nt)
is_typed-is pool (InterfaceMethodref owner nt) = decides_text (λ t. takes_slots (form_of t)) IsMethodDescriptor method_type (descriptor_at pool nt)
is_typed-is pool (InvokeDynamic bootstrap nt) = decides_text (λ t. takes_slots (form_of t)) IsMethodDescriptor method_type (descriptor_at pool nt)
is_typed-is pool (MethodType ty) = decides_text (λ t. takes_slots (form_of t)) IsMethodDescriptor method_type (text_at pool ty)
is_typed-is pool (Utf8 bytes) = told-decides true tt
is_typed-is pool (Integer bits) = told-decides true tt
is_typed-is pool (Float bits) = told-decides true tt
is_typed-is pool (Long bits) = told-decides true tt
is_typed-is pool (Double bits) = told-decides true tt
is_typed-is pool (String text) = told-decides true tt
is_typed-is pool (MethodHandle kind reference) = told-decides true tt
is_typed-is pool (Module name) = told-decides true tt
is_typed-is pool (Package name) = told-decides true tt
