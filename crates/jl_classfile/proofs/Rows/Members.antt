-- Names, descriptors and flags of fields and methods (JVMS 4.2.2, 4.3.3, 4.5, 4.6).
use Rattle.std.proofs.Common.{◌≡◌, ℕ, true, false, List, [], ◌∷◌, refl, arith}
use Rattle.std.specs.Prelude.{codes, map}
use Rattle.jl_names.specs.ClassNames.{is_unqualified}
use Rattle.jl_names.specs.MethodTypes.{TakesSlots}
use Rattle.jl_pool.specs.declared.constant.Constant.TheVariants.{Utf8, Class}
use Rattle.jl_pool.specs.Pools.{Pool, places}
use Rattle.jl_pool.proofs.FormLaws.{one_slots}
use Rattle.jl_classfile.specs.declared.body.Member.{Member}
use Rattle.jl_classfile.specs.Conditions.{member_numbers, is_method_name, are_method_flags, flags_fit, TakesFew, FieldFits, MethodFits, no_twins}
use Rattle.jl_class.specs.Flags.{has_flag}

-- ---- names

method_names : map is_method_name (codes "f" ∷ codes "<init>" ∷ codes "<clinit>" ∷ []) ≡ true ∷ true ∷ true ∷ []
method_names = refl

-- < or > in any other place, and what no unqualified name has
no_method_names : map is_method_name (codes "<x>" ∷ codes "<init" ∷ codes "init>" ∷ codes "f<" ∷ codes "a.b" ∷ codes "a;" ∷ codes "a[" ∷ codes "a/b" ∷ [] ∷ [])
    ≡ false ∷ false ∷ false ∷ false ∷ false ∷ false ∷ false ∷ false ∷ false ∷ []
no_method_names = refl

-- a field may have them
field_names : map is_unqualified (codes "<x>" ∷ codes "<init>" ∷ codes "f>" ∷ codes "a.b" ∷ [] ∷ []) ≡ true ∷ true ∷ true ∷ false ∷ false ∷ []
field_names = refl

-- ---- flags: 1 PUBLIC, 2 PRIVATE, 4 PROTECTED, 8 STATIC, 0x400 ABSTRACT

flag : map (has_flag 0x0409) (1 ∷ 2 ∷ 8 ∷ 0x400 ∷ 0x800 ∷ []) ≡ true ∷ false ∷ true ∷ true ∷ false ∷ []
flag = refl

-- none, each alone, each pair, all three
access_of_classes : map (are_method_flags false) (0 ∷ 1 ∷ 2 ∷ 4 ∷ 3 ∷ 5 ∷ 6 ∷ 7 ∷ []) ≡ true ∷ true ∷ true ∷ true ∷ false ∷ false ∷ false ∷ false ∷ []
access_of_classes = refl

access_of_interfaces : map (are_method_flags true) (0 ∷ 1 ∷ 2 ∷ 4 ∷ 3 ∷ 5 ∷ 6 ∷ 7 ∷ []) ≡ false ∷ true ∷ true ∷ false ∷ false ∷ false ∷ false ∷ false ∷ []
access_of_interfaces = refl

-- ABSTRACT alone, and with PUBLIC, PROTECTED, PRIVATE, STATIC
abstract_in_classes : map (are_method_flags false) (0x400 ∷ 0x401 ∷ 0x404 ∷ 0x402 ∷ 0x408 ∷ []) ≡ true ∷ true ∷ true ∷ false ∷ false ∷ []
abstract_in_classes = refl

-- of an interface: ABSTRACT and PUBLIC, without, private, static, default, private and static
of_interfaces : map (are_method_flags true) (0x401 ∷ 0x400 ∷ 0x002 ∷ 0x009 ∷ 0x001 ∷ 0x00a ∷ []) ≡ true ∷ false ∷ true ∷ true ∷ true ∷ true ∷ []
of_interfaces = refl

-- the flags that may be whatever they are: FINAL, SYNCHRONIZED, BRIDGE, VARARGS, NATIVE, STRICT, SYNTHETIC, with or without ABSTRACT
other_flags : map (are_method_flags false) (0x19f1 ∷ 0x1df1 ∷ []) ≡ true ∷ true ∷ []
other_flags = refl

-- <clinit> has any flags, <init> and any other method not
of_class_initializers : map (λ flags. flags_fit true flags (codes "<clinit>")) (0 ∷ 3 ∷ 7 ∷ 0x408 ∷ 0x40a ∷ []) ≡ true ∷ true ∷ true ∷ true ∷ true ∷ []
of_class_initializers = refl

of_initializers : map (λ flags. flags_fit false flags (codes "<init>")) (0 ∷ 1 ∷ 3 ∷ 0x402 ∷ 0x408 ∷ []) ≡ true ∷ true ∷ false ∷ false ∷ false ∷ []
of_initializers = refl

initializer_of_an_interface : map (λ flags. flags_fit true flags (codes "<init>")) (0 ∷ 1 ∷ 4 ∷ []) ≡ false ∷ true ∷ false ∷ []
initializer_of_an_interface = refl

-- ---- slots: with the receiver's, unless STATIC is set

static_of_255 : (text : List ℕ) → TakesSlots text 255 → TakesFew 8 text
static_of_255 text takes = (255, omega arith, takes)

static_of_256 : (text : List ℕ) → TakesSlots text 256 → ¬ TakesFew 8 text
static_of_256 text takes = λ few. let same = one_slots text 256 few.0 takes few.2 in let low = few.1 in omega (arith, same, low)

of_254 : (text : List ℕ) → TakesSlots text 254 → TakesFew 0 text
of_254 text takes = (254, omega arith, takes)

of_255 : (text : List ℕ) → TakesSlots text 255 → ¬ TakesFew 0 text
of_255 text takes = λ few. let same = one_slots text 255 few.0 takes few.2 in let low = few.1 in omega (arith, same, low)

-- ---- members, over 1 f, 2 ()V, 3 I, 4 g, 5 <x>, 6 f again, 7 a Class

abbrev pool : Pool
pool = places (Utf8 (codes "f") ∷ Utf8 (codes "()V") ∷ Utf8 (codes "I") ∷ Utf8 (codes "g") ∷ Utf8 (codes "<x>") ∷ Utf8 (codes "f") ∷ Class 1 ∷ [])

abbrev member : ℕ → ℕ → ℕ → Member
member flags name descriptor = record { flags = flags; name = name; descriptor = descriptor; attributes = [] }

numbers : member_numbers (record { flags = 1; name = 2; descriptor = 3; attributes = record { name = 4; info = [] } ∷ record { name = 5; info = [] } ∷ [] }) ≡ 2
    ∷ 3 ∷ 4 ∷ 5 ∷ []
numbers = refl

void : TakesSlots (codes "()V") 0
void = (record { parameters = []; returns = Rattle.std.specs.Prelude.None }, record { parameters = tt; returns = tt }, refl, refl)

method : MethodFits pool false (member 1 1 2)
method = record { name = refl; descriptor = (0, omega arith, void); flags = refl }

-- no flags of a field are looked at
field : FieldFits pool (member 0xffff 5 3)
field = record {
  name = refl;
  descriptor = (
    record { dimensions = 0; element = Rattle.jl_names.specs.declared.descriptor.Element.TheVariants.Int },
    record { dimensions = omega arith; element = tt },
    refl,
  );
}

bad_name : ¬ MethodFits pool false (member 1 5 2)
bad_name = λ m. let good = m.name in cc

bad_flags : ¬ MethodFits pool false (member 3 1 2)
bad_flags = λ m. let good = m.flags in cc

-- of one name and one descriptor, by their texts: f:()V again, f:I, g:()V
twins : map (λ second. no_twins pool [] (member 1 1 2 ∷ second ∷ [])) (member 1 1 2 ∷ member 2 6 2 ∷ member 1 1 3 ∷ member 1 4 2 ∷ []) ≡ false ∷ false ∷ true
    ∷ true ∷ []
twins = refl

twins_apart : no_twins pool [] (member 1 1 2 ∷ member 1 4 2 ∷ member 1 6 2 ∷ []) ≡ false
twins_apart = refl
