-- What the parts of a class file have to meet beyond their layout (JVMS 4.1, 4.5 to 4.9).
use Rattle.std.specs.Prelude.{◌≡◌, ℕ, ◌+◌, ◌<◌, ◌≤◌, ◌^◌, Bool, true, false, not, ◌==◌, ◌&&◌, ◌||◌, nat_le, if◌then◌else◌, IsTrue, IsFalse, IsSome}
use Rattle.std.specs.Prelude.{List, [], ◌∷◌, ◌++◌, length, filter, map, codes, Option, Some, None, ⊤, MatchOption, IfSome}
use Rattle.std.specs.Option.{option_map_or}
use Rattle.std.specs.List.{list_any, AllByRecursion}
use Rattle.std.specs.Str.{bytes_eq}
use Rattle.jl_names.specs.ClassNames.{is_unqualified}
use Rattle.jl_names.specs.Descriptors.{IsFieldDescriptor}
use Rattle.jl_names.specs.MethodTypes.{TakesSlots}
use Rattle.jl_classfile.specs.declared.body.Attribute.{Attribute}
use Rattle.jl_classfile.specs.declared.body.Member.{Member}
use Rattle.jl_classfile.specs.declared.body.Body.{Body}
use Rattle.jl_code.specs.declared.instruction.Instruction.{Instruction}
use Rattle.jl_pool.specs.Numbers.{u2, counted}
use Rattle.jl_pool.specs.Pools.{Pool, text_at, class_at, has_angle}
use Rattle.jl_classfile.specs.CodeAttributes.{IsCodeOf}
use Rattle.jl_class.specs.Flags.{has_flag, object, PUBLIC, PRIVATE, PROTECTED, STATIC, INTERFACE, ABSTRACT, MODULE}

-- ---- versions (JVMS 4.1)

-- the newest major version of SE 17
abbrev pub newest_of_17 : ℕ
newest_of_17 = 61

-- 45 to the newest one that is asked for; from 56 on without a minor
pub record IsVersionUpTo (newest minor major : ℕ) : Type 0 where
  pub from : 45 ≤ major
  pub to : major ≤ newest
  pub plain : 56 ≤ major → minor ≡ 0

-- a version of SE 17
abbrev pub IsVersion : ℕ → ℕ → Type 0
IsVersion minor major = IsVersionUpTo newest_of_17 minor major

-- ---- the class and its superclasses (JVMS 4.1)

-- a Class entry with a class name
abbrev pub IsClassNumber : Pool → ℕ → Type 0
IsClassNumber pool n = IsSome (class_at pool n)

abbrev pub is_object : Pool → ℕ → Bool
is_object pool n = option_map_or (λ text. bytes_eq text object) (class_at pool n) false

-- the number of the superclass, if there is one
abbrev pub superclass_numbers : ℕ → List ℕ
superclass_numbers n = if n == 0 then [] else n ∷ []

-- this class, its superclass, its interfaces
abbrev pub class_numbers : Body → List ℕ
class_numbers b = b.this_class ∷ (superclass_numbers b.super_class ++ b.interfaces)

abbrev pub is_interface : Body → Bool
is_interface b = has_flag b.flags INTERFACE

-- java/lang/Object alone has no superclass, and is no interface; an interface's superclass is java/lang/Object
abbrev pub super_fits : Pool → Body → Bool
super_fits pool b =
    if b.super_class == 0 then is_object pool b.this_class && not (is_interface b)
    else (not (is_object pool b.this_class) && (not (is_interface b) || is_object pool b.super_class))

abbrev pub is_module : ℕ → Body → Bool
is_module major b = has_flag b.flags MODULE && nat_le 53 major

pub record Links (major : ℕ) (pool : Pool) (b : Body) : Type 0 where
  pub no_module : IsFalse (is_module major b)
  pub classes : AllByRecursion (IsClassNumber pool) (class_numbers b)
  pub super : IsTrue (super_fits pool b)

-- ---- members (JVMS 4.2.2, 4.5, 4.6)

abbrev pub IsTextNumber : Pool → ℕ → Type 0
IsTextNumber pool n = IsSome (text_at pool n)

-- the numbers of texts: of the name, of the descriptor, and of each attribute's name
abbrev pub member_numbers : Member → List ℕ
member_numbers m = m.name ∷ m.descriptor ∷ map (λ a. a.name) m.attributes

abbrev pub MemberLinks : Pool → Member → Type 0
MemberLinks pool m = AllByRecursion (IsTextNumber pool) (member_numbers m)

abbrev pub one_if : Bool → ℕ
one_if b = if b then 1 else 0

abbrev pub is_special : List ℕ → Bool
is_special name = bytes_eq name (codes "<init>") || bytes_eq name (codes "<clinit>")

-- the name of a method: without < and >, but <init> and <clinit>
abbrev pub is_method_name : List ℕ → Bool
is_method_name name = is_unqualified name && (is_special name || not (has_angle name))

-- at most one of PUBLIC, PRIVATE and PROTECTED; ABSTRACT neither PRIVATE nor STATIC; in an interface PUBLIC or PRIVATE
abbrev pub are_method_flags : Bool → ℕ → Bool
are_method_flags interface flags =
    nat_le (one_if (has_flag flags PUBLIC) + (one_if (has_flag flags PRIVATE) + one_if (has_flag flags PROTECTED))) 1
    && ((not (has_flag flags ABSTRACT) || (not (has_flag flags PRIVATE) && not (has_flag flags STATIC)))
    && (not interface || (has_flag flags PUBLIC || has_flag flags PRIVATE)))

-- <clinit> may have any flags
abbrev pub flags_fit : Bool → ℕ → List ℕ → Bool
flags_fit interface flags name = bytes_eq name (codes "<clinit>") || are_method_flags interface flags

-- 255 slots at most, with the receiver's unless the method is static
abbrev pub TakesFew : ℕ → List ℕ → Type 0
TakesFew flags text = (n : ℕ) × (n + one_if (not (has_flag flags STATIC)) ≤ 255) × TakesSlots text n

-- the texts of a field, if they are there, may be its name and its descriptor
pub record FieldFits (pool : Pool) (m : Member) : Type 0 where
  pub name : IfSome (text_at pool m.name) (λ name. IsTrue (is_unqualified name))
  pub descriptor : IfSome (text_at pool m.descriptor) IsFieldDescriptor

pub record MethodFits (pool : Pool) (interface : Bool) (m : Member) : Type 0 where
  pub name : IfSome (text_at pool m.name) (λ name. IsTrue (is_method_name name))
  pub descriptor : IfSome (text_at pool m.descriptor) (TakesFew m.flags)
  pub flags : IfSome (text_at pool m.name) (λ name. IsTrue (flags_fit interface m.flags name))

abbrev pub is_text : Pool → ℕ → List ℕ → Bool
is_text pool n text = option_map_or (λ t. bytes_eq t text) (text_at pool n) false

abbrev pub same_place_text : Pool → ℕ → ℕ → Bool
same_place_text pool m n = option_map_or (is_text pool m) (text_at pool n) false

-- both have one name and one descriptor
abbrev pub same_method : Pool → Member → Member → Bool
same_method pool a b = same_place_text pool a.name b.name && same_place_text pool a.descriptor b.descriptor

-- none of them has the name and the descriptor of an earlier one
abbrev pub no_twins : Pool → List Member → List Member → Bool
no_twins pool earlier [] = true
no_twins pool earlier (m ∷ ms) = not (list_any (same_method pool m) earlier) && no_twins pool (m ∷ earlier) ms

abbrev pub attributes_of : Pool → List ℕ → List Attribute → List Attribute
attributes_of pool name attributes = filter (λ a. is_text pool a.name name) attributes

abbrev pub codes_of : Pool → Member → List Attribute
codes_of pool m = attributes_of pool (codes "Code") m.attributes

pub record Members (pool : Pool) (b : Body) : Type 0 where
  pub links : AllByRecursion (MemberLinks pool) (b.fields ++ b.methods)
  pub fields : AllByRecursion (FieldFits pool) b.fields
  pub methods : AllByRecursion (MethodFits pool (is_interface b)) b.methods
  pub distinct : IsTrue (no_twins pool [] b.methods)
  pub one_code : AllByRecursion (λ m. length (codes_of pool m) ≤ 1) b.methods

-- ---- class attributes (JVMS 4.7.28, 4.7.29)

-- the attributes of this name, which are read from version 55 on
abbrev pub attributes_called : List ℕ → ℕ → Pool → Body → List Attribute
attributes_called name major pool b = if nat_le 55 major then attributes_of pool name b.attributes else []

-- the bytes are the number of a class
abbrev pub IsHost : Pool → List ℕ → ℕ → Type 0
IsHost pool info n = (info ≡ u2 n) × (n < 2 ^ 16) × IsClassNumber pool n

-- the bytes are a count and so many numbers of classes
abbrev pub AreMembers : Pool → List ℕ → List ℕ → Type 0
AreMembers pool info ns = (info ≡ counted u2 ns) × (length ns < 2 ^ 16) × AllByRecursion (λ n. (n < 2 ^ 16) × IsClassNumber pool n) ns

-- there is no such attribute and no host, or one, which holds the host
abbrev pub HoldsHost : Pool → List Attribute → Option ℕ → Type 0
HoldsHost pool [] None = ⊤
HoldsHost pool (a ∷ []) (Some n) = IsHost pool a.info n
HoldsHost pool _ _ = ⊥

abbrev pub HoldsMembers : Pool → List Attribute → Option (List ℕ) → Type 0
HoldsMembers pool [] None = ⊤
HoldsMembers pool (a ∷ []) (Some ns) = AreMembers pool a.info ns
HoldsMembers pool _ _ = ⊥

pub record Nest (major : ℕ) (pool : Pool) (b : Body) (host : Option ℕ) (members : Option (List ℕ)) : Type 0 where
  pub host_holds : HoldsHost pool (attributes_called (codes "NestHost") major pool b) host
  pub members_hold : HoldsMembers pool (attributes_called (codes "NestMembers") major pool b) members
  pub not_both : MatchOption host ⊤ (λ n. members ≡ None)

abbrev pub ClassAttributeLinks : Pool → Body → Type 0
ClassAttributeLinks pool b = AllByRecursion (λ a. IsTextNumber pool a.name) b.attributes

-- ---- codes (JVMS 4.7.3)

-- no Code attribute and no code, or one and what it holds
abbrev pub HasCode : Pool → List Attribute → Option (List Instruction) → Type 0
HasCode pool [] None = ⊤
HasCode pool (a ∷ []) (Some instructions) = IsCodeOf pool a.info instructions
HasCode pool _ _ = ⊥

-- each method has the code beside it
abbrev pub HaveCodes : Pool → List Member → List (Option (List Instruction)) → Type 0
HaveCodes pool [] [] = ⊤
HaveCodes pool (m ∷ ms) (code ∷ codes) = HasCode pool (codes_of pool m) code × HaveCodes pool ms codes
HaveCodes pool _ _ = ⊥
