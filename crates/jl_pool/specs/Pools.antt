-- The constant pool (JVMS 4.4): constants by number, and what a pool has to meet.
use Rattle.std.specs.Prelude.{ℕ, ◌<◌, ◌^◌, Bool, false, ◌==◌, ◌||◌, IsTrue, List, [], ◌∷◌, ◌++◌, length, slice_get, Option, Some, None, ⊤, ◌⊎◌}
use Rattle.std.specs.Prelude.{if◌then◌else◌, true, option_map}
use Rattle.std.specs.Option.{option_and_then, option_map_or, IsSomeAnd}
use Rattle.std.specs.List.{flat_map, list_all, list_any, AllByRecursion}
use Rattle.std.specs.Str.{byte}
use Rattle.jl_names.specs.Mutf8.{IsMutf8}
use Rattle.jl_names.specs.ClassNames.{is_class_name}
use Rattle.jl_names.specs.Descriptors.{IsFieldDescriptor}
use Rattle.jl_names.specs.MethodTypes.{IsMethodDescriptor}
use Rattle.jl_pool.specs.declared.constant.Constant.{Constant}
use Rattle.jl_pool.specs.declared.constant.Constant.TheVariants.{Utf8, Class, Fieldref, Methodref, InterfaceMethodref, NameAndType, MethodType}
use Rattle.jl_pool.specs.declared.constant.Constant.TheVariants.{Dynamic, InvokeDynamic}
use Rattle.jl_pool.specs.declared.reference.Reference.{Reference}
use Rattle.jl_pool.specs.declared.reference.CallSiteSpecifier.{CallSiteSpecifier}
use Rattle.jl_pool.specs.Numbers.{u2}
use Rattle.jl_pool.specs.Constants.{tag, constant_text, IsSized, is_double, names}

-- A pool by number. Number 0 and the second number of a long or a double hold nothing.
abbrev pub Pool : Type 0
Pool = List (Option Constant)

-- the numbers that a constant takes
abbrev pub places_of : Constant → List (Option Constant)
places_of c = Some c ∷ (if is_double c then None ∷ [] else [])

abbrev pub places : List Constant → Pool
places cs = None ∷ flat_map places_of cs

-- the count of numbers, and the constants
abbrev pub pool_text : List Constant → List ℕ
pool_text cs = u2 (length (places cs)) ++ flat_map constant_text cs

-- < or > stands in it, as in the names that no method has but <init> and <clinit> (JVMS 4.2.2)
abbrev pub has_angle : List ℕ → Bool
has_angle text = list_any (λ b. (b == byte "<") || (b == byte ">")) text

-- ---- what stands at a number

abbrev pub constant_at : Pool → ℕ → Option Constant
constant_at pool n = option_and_then (λ place. place) (slice_get pool n)

-- something of one of these tags
abbrev pub has_tag : Pool → List ℕ → ℕ → Bool
has_tag pool tags n = option_map_or (λ c. list_any (λ t. t == tag c) tags) (constant_at pool n) false

abbrev pub text_of : Constant → Option (List ℕ)
text_of (Utf8 bytes) = Some bytes
text_of _ = None

-- the text of the Utf8 at a number
abbrev pub text_at : Pool → ℕ → Option (List ℕ)
text_at pool n = option_and_then text_of (constant_at pool n)

abbrev pub class_text_of : Pool → Constant → Option (List ℕ)
class_text_of pool (Class name) = text_at pool name
class_text_of pool _ = None

-- the text of the Class at a number: a class name, or an array's descriptor
abbrev pub class_text_at : Pool → ℕ → Option (List ℕ)
class_text_at pool n = option_and_then (class_text_of pool) (constant_at pool n)

-- the name of the Class at a number, if it is no array's
abbrev pub class_at : Pool → ℕ → Option (List ℕ)
class_at pool n = option_and_then (λ text. if is_class_name text then Some text else None) (class_text_at pool n)

abbrev pub descriptor_of : Pool → Constant → Option (List ℕ)
descriptor_of pool (NameAndType name ty) = text_at pool ty
descriptor_of pool _ = None

-- the descriptor of the NameAndType at a number
abbrev pub descriptor_at : Pool → ℕ → Option (List ℕ)
descriptor_at pool n = option_and_then (descriptor_of pool) (constant_at pool n)

abbrev pub named_descriptor_of : Pool → Constant → Option (List ℕ)
named_descriptor_of pool (Methodref owner name_and_type) = descriptor_at pool name_and_type
named_descriptor_of pool (InterfaceMethodref owner name_and_type) = descriptor_at pool name_and_type
named_descriptor_of pool (InvokeDynamic bootstrap name_and_type) = descriptor_at pool name_and_type
named_descriptor_of pool _ = None

-- the descriptor of the method or the call site that the constant at a number names
abbrev pub named_descriptor : Pool → ℕ → Option (List ℕ)
named_descriptor pool n = option_and_then (named_descriptor_of pool) (constant_at pool n)

-- what is made of both values, if both are there
abbrev pub both : {X Y Z : Type 0} → (X → Y → Z) → Option X → Option Y → Option Z
both f None y = None
both f (Some x) None = None
both f (Some x) (Some y) = Some (f x y)

-- a name with its descriptor
pub record Signed : Type 0 where
  pub name : List ℕ
  pub ty : List ℕ

abbrev pub signed_of : Pool → Constant → Option Signed
signed_of pool (NameAndType name ty) = both (λ n t. record { name = n; ty = t }) (text_at pool name) (text_at pool ty)
signed_of pool _ = None

-- the name and the descriptor of the NameAndType at a number
abbrev pub signed_at : Pool → ℕ → Option Signed
signed_at pool n = option_and_then (signed_of pool) (constant_at pool n)

abbrev pub reference : Bool → List ℕ → Signed → Reference (List ℕ)
reference itf owner s = record { itf = itf; owner = owner; name = s.name; ty = s.ty }

-- the method that a Methodref or an InterfaceMethodref names
abbrev pub reference_of : Pool → Constant → Option (Reference (List ℕ))
reference_of pool (Methodref owner name_and_type) = both (reference false) (class_text_at pool owner) (signed_at pool name_and_type)
reference_of pool (InterfaceMethodref owner name_and_type) = both (reference true) (class_text_at pool owner) (signed_at pool name_and_type)
reference_of pool _ = None

abbrev pub reference_at : Pool → ℕ → Option (Reference (List ℕ))
reference_at pool n = option_and_then (reference_of pool) (constant_at pool n)

-- the call site that an InvokeDynamic gives
abbrev pub call_site_of : Pool → Constant → Option (CallSiteSpecifier (List ℕ))
call_site_of pool (InvokeDynamic bootstrap name_and_type) = option_map (λ s. record { bootstrap = bootstrap; name = s.name; ty = s.ty })
    (signed_at pool name_and_type)
call_site_of pool _ = None

abbrev pub call_site_at : Pool → ℕ → Option (CallSiteSpecifier (List ℕ))
call_site_at pool n = option_and_then (call_site_of pool) (constant_at pool n)

-- ---- conditions

-- a list of constants that a pool can hold
pub record IsPool (cs : List Constant) : Type 0 where
  pub each : AllByRecursion IsSized cs
  pub count : length (places cs) < 2 ^ 16

-- a Utf8 is modified UTF-8
abbrev pub HasText : Constant → Type 0
HasText (Utf8 bytes) = (units : List ℕ) × IsMutf8 bytes units
HasText _ = ⊤

-- each number that it names holds a constant of the right kind
abbrev pub is_linked : Pool → Constant → Bool
is_linked pool c = list_all (λ n. has_tag pool n.tags n.number) (names c)

abbrev pub begins_array : List ℕ → Bool
begins_array [] = false
begins_array (b ∷ bs) = b == byte "["

abbrev pub IsClassText : List ℕ → Type 0
IsClassText text = IsTrue (is_class_name text) ⊎ (IsTrue (begins_array text) × IsFieldDescriptor text)

-- the descriptors that it names are of the right kind
abbrev pub IsTyped : Pool → Constant → Type 0
IsTyped pool (Class name) = IsSomeAnd (text_at pool name) IsClassText
IsTyped pool (NameAndType name ty) = IsSomeAnd (text_at pool ty) (λ text. IsFieldDescriptor text ⊎ IsMethodDescriptor text)
IsTyped pool (Fieldref owner name_and_type) = IsSomeAnd (descriptor_at pool name_and_type) IsFieldDescriptor
IsTyped pool (Dynamic bootstrap name_and_type) = IsSomeAnd (descriptor_at pool name_and_type) IsFieldDescriptor
IsTyped pool (Methodref owner name_and_type) = IsSomeAnd (descriptor_at pool name_and_type) IsMethodDescriptor
IsTyped pool (InterfaceMethodref owner name_and_type) = IsSomeAnd (descriptor_at pool name_and_type) IsMethodDescriptor
IsTyped pool (InvokeDynamic bootstrap name_and_type) = IsSomeAnd (descriptor_at pool name_and_type) IsMethodDescriptor
IsTyped pool (MethodType ty) = IsSomeAnd (text_at pool ty) IsMethodDescriptor
IsTyped pool _ = ⊤

-- each Utf8 is modified UTF-8
abbrev pub HaveTexts : List Constant → Type 0
HaveTexts cs = AllByRecursion HasText cs

-- each constant names constants of the right kinds
abbrev pub AreLinked : List Constant → Type 0
AreLinked cs = AllByRecursion (λ c. IsTrue (is_linked (places cs) c)) cs

-- what a pool has to meet beyond its layout
pub record IsSoundPool (cs : List Constant) : Type 0 where
  pub texts : HaveTexts cs
  pub links : AreLinked cs
  pub types : AllByRecursion (IsTyped (places cs)) cs
