-- Code attributes and nest attributes (JVMS 4.7.3, 4.7.28, 4.7.29).
use Rattle.std.proofs.Common.{◌≡◌, ℕ, List, [], ◌∷◌, ◌++◌, length, Some, None, refl, arith}
use Rattle.std.specs.Prelude.{codes}
use Rattle.jl_pool.specs.declared.constant.Constant.TheVariants.{Utf8, Class}
use Rattle.jl_pool.specs.Numbers.{u2, u4, counted}
use Rattle.jl_pool.specs.Pools.{Pool, places}
use Rattle.jl_classfile.specs.declared.body.Attribute.{Attribute}
use Rattle.jl_classfile.specs.declared.body.Body.{Body}
use Rattle.jl_classfile.specs.Layouts.{attribute_text}
use Rattle.jl_classfile.specs.CodeAttributes.{HoldsCode}
use Rattle.jl_classfile.specs.Conditions.{attributes_called, IsHost, AreMembers, HoldsHost, Nest}

-- ---- codes

-- max_stack 2, max_locals 3, the code b1; one exception row of 8 bytes; two attributes, of the names 4 and 5, of 1 byte and of none
with_rows_and_attributes :
    HoldsCode (0 ∷ 2 ∷ 0 ∷ 3 ∷ 0 ∷ 0 ∷ 0 ∷ 1 ∷ 0xb1 ∷ 0 ∷ 1 ∷ 9 ∷ 8 ∷ 7 ∷ 6 ∷ 5 ∷ 4 ∷ 3 ∷ 2 ∷ 0 ∷ 2 ∷ 0 ∷ 4 ∷ 0 ∷ 0 ∷ 0 ∷ 1 ∷ 0xca ∷ 0 ∷ 5 ∷ 0 ∷ 0 ∷ 0 ∷ 0 ∷ [])
    (0xb1 ∷ [])
with_rows_and_attributes = record {
  max_stack = 2;
  max_locals = 3;
  exceptions = 1;
  table = 9 ∷ 8 ∷ 7 ∷ 6 ∷ 5 ∷ 4 ∷ 3 ∷ 2 ∷ [];
  attributes = record { name = 4; info = 0xca ∷ [] } ∷ record { name = 5; info = [] } ∷ [];
  spelled = refl;
  max_stack_size = omega arith;
  max_locals_size = omega arith;
  some = omega arith;
  few = omega arith;
  exceptions_size = omega arith;
  rows = refl;
  attributes_sized = record {
    count = omega arith;
    each = (record { name = omega arith; info = omega arith }, (record { name = omega arith; info = omega arith }, tt));
  };
}

abbrev holding : List ℕ → List ℕ
holding code = u2 0 ++ (u2 0 ++ (u4 (length code) ++ (code ++ (u2 0 ++ ([] ++ counted attribute_text [])))))

of_no_bytes : (info : List ℕ) → ¬ HoldsCode info []
of_no_bytes info = λ h. let some = h.some in omega (arith, some)

of_65535_bytes : (code : List ℕ) → length code ≡ 65535 → HoldsCode (holding code) code
of_65535_bytes code so_many = record {
  max_stack = 0;
  max_locals = 0;
  exceptions = 0;
  table = [];
  attributes = [];
  spelled = refl;
  max_stack_size = omega arith;
  max_locals_size = omega arith;
  some = omega (arith, so_many);
  few = omega (arith, so_many);
  exceptions_size = omega arith;
  rows = refl;
  attributes_sized = record { count = omega arith; each = tt };
}

of_65536_bytes : (info code : List ℕ) → length code ≡ 65536 → ¬ HoldsCode info code
of_65536_bytes info code so_many = λ h. let few = h.few in omega (arith, few, so_many)

-- ---- nests, over 1 NestHost, 2 NestMembers, 3 A, 4 its Class

abbrev pool : Pool
pool = places (Utf8 (codes "NestHost") ∷ Utf8 (codes "NestMembers") ∷ Utf8 (codes "A") ∷ Class 3 ∷ [])

abbrev attribute : ℕ → List ℕ → Attribute
attribute name info = record { name = name; info = info }

abbrev with : List Attribute → Body
with attributes = record { flags = 33; this_class = 4; super_class = 0; interfaces = []; fields = []; methods = []; attributes = attributes }

abbrev host : Attribute
host = attribute 1 (0 ∷ 4 ∷ [])

abbrev members : Attribute
members = attribute 2 (0 ∷ 0 ∷ [])

-- read from version 55 on, whatever stands between
hosts_54 : attributes_called (codes "NestHost") 54 pool (with (host ∷ [])) ≡ []
hosts_54 = refl

hosts_55 : attributes_called (codes "NestHost") 55 pool (with (members ∷ host ∷ attribute 3 [] ∷ [])) ≡ host ∷ []
hosts_55 = refl

members_54 : attributes_called (codes "NestMembers") 54 pool (with (members ∷ [])) ≡ []
members_54 = refl

members_55 : attributes_called (codes "NestMembers") 55 pool (with (members ∷ host ∷ members ∷ [])) ≡ members ∷ members ∷ []
members_55 = refl

host_4 : IsHost pool (0 ∷ 4 ∷ []) 4
host_4 = (refl, omega arith, refl)

-- 3 is a text
host_3 : ¬ IsHost pool (0 ∷ 3 ∷ []) 3
host_3 = λ h. let class = h.2 in cc

member_4_twice : AreMembers pool (0 ∷ 2 ∷ 0 ∷ 4 ∷ 0 ∷ 4 ∷ []) (4 ∷ 4 ∷ [])
member_4_twice = (refl, omega arith, ((omega arith, refl), ((omega arith, refl), tt)))

two_hosts : HoldsHost pool (host ∷ host ∷ []) (Some 4) → ⊥
two_hosts h = h

-- a host or members, and not both
nest_of_a_host : Nest 61 pool (with (host ∷ [])) (Some 4) None
nest_of_a_host = record { host_holds = host_4; members_hold = tt; not_both = refl }

nest_of_members : Nest 61 pool (with (members ∷ [])) None (Some [])
nest_of_members = record { host_holds = tt; members_hold = (refl, omega arith, tt); not_both = tt }

nest_of_both : ¬ Nest 61 pool (with (host ∷ members ∷ [])) (Some 4) (Some [])
nest_of_both = λ n. let clash = n.not_both in cc
