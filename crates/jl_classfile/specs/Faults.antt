-- Why bytes are no class file: the faults by pass, in the order in which they are looked for.
use Rattle.std.specs.Prelude.{◌≡◌, ◌≢◌, ℕ, ◌+◌, ◌<◌, ◌≤◌, ◌^◌, IsTrue, IsFalse, List, [], ◌∷◌, ◌++◌, length, take, map, slice_get, Option, Some, ◌⊎◌}
use Rattle.std.specs.List.{Contains}
use Rattle.jl_pool.specs.declared.pool_fault.PoolFault.TheVariants as pool
use Rattle.jl_code.specs.declared.code_fault.CodeFault.{CodeFault}
use Rattle.jl_code.specs.declared.code_fault.CodeFault.TheVariants as code
use Rattle.jl_classfile.specs.declared.fault.ClassFault.{ClassFault}
use Rattle.jl_classfile.specs.declared.fault.ClassFault.TheVariants.{TooLarge, BadMagic, BadVersion, Truncated, Pool as InPool, ModuleFile, BadSuper}
use Rattle.jl_classfile.specs.declared.fault.ClassFault.TheVariants.{DuplicateMethod, TwoCodes, Code, TrailingBytes, BadMember, BadLink, BadNest}
use Rattle.jl_pool.specs.Numbers.{u4}
use Rattle.jl_pool.specs.Pools.{Pool}
use Rattle.jl_pool.specs.Faults.{IsPoolFault}
use Rattle.jl_code.specs.Faults.{IsScanFault}
use Rattle.jl_classfile.specs.declared.body.Attribute.{Attribute}
use Rattle.jl_classfile.specs.declared.body.Member.{Member}
use Rattle.jl_classfile.specs.declared.body.Body.{Body}
use Rattle.jl_classfile.specs.Layouts.{Layout, head_text, file_text, IsLayout}
use Rattle.jl_classfile.specs.CodeAttributes.{HoldsCode}
use Rattle.jl_classfile.specs.Conditions.{newest_of_17, IsVersionUpTo, is_interface, class_numbers, IsClassNumber}
use Rattle.jl_classfile.specs.Conditions.{super_fits, is_module, IsTextNumber, member_numbers}
use Rattle.jl_classfile.specs.Conditions.{FieldFits, MethodFits, same_method, codes_of, Nest}
use Rattle.jl_classfile.specs.ClassFiles.{most_bytes, pool_of}

-- ---- 1: size

abbrev pub SizeFault : List ℕ → ClassFault → Type 0
SizeFault bytes TooLarge = most_bytes < length bytes
SizeFault bytes _ = ⊥

-- ---- 2: the first eight bytes

abbrev pub HeadFault : ℕ → List ℕ → ClassFault → Type 0
HeadFault newest bytes Truncated = length bytes < 8
HeadFault newest bytes BadMagic = (4 ≤ length bytes) × (take 4 bytes ≢ u4 0xcafebabe)
HeadFault newest bytes BadVersion = (minor : ℕ) × (major : ℕ) × (rest : List ℕ) × (bytes ≡ head_text minor major ++ rest)
    × (minor < 2 ^ 16) × (major < 2 ^ 16) × ¬ IsVersionUpTo newest minor major
HeadFault newest bytes _ = ⊥

-- ---- 3: the pool

abbrev pub PoolPass : List ℕ → ClassFault → Type 0
PoolPass bytes (InPool f) = (minor : ℕ) × (major : ℕ) × (text : List ℕ) × (bytes ≡ head_text minor major ++ text) × (f ≢ pool.Memory) × IsPoolFault text f
PoolPass bytes _ = ⊥

-- ---- 4: the layout of the rest

abbrev pub LayoutFault : List ℕ → ClassFault → Type 0
LayoutFault bytes Truncated = (l : Layout) (left : List ℕ) → IsLayout l → bytes ≢ file_text l ++ left
LayoutFault bytes TrailingBytes = (l : Layout) × (left : List ℕ) × IsLayout l × (left ≢ []) × (bytes ≡ file_text l ++ left)
LayoutFault bytes _ = ⊥

-- ---- 5: the class and its superclasses

abbrev pub LinksFault : ℕ → Pool → Body → ClassFault → Type 0
LinksFault major pool b ModuleFile = IsTrue (is_module major b)
LinksFault major pool b (BadLink n) = Contains (class_numbers b) n × ¬ IsClassNumber pool n
LinksFault major pool b BadSuper = IsFalse (super_fits pool b)
LinksFault major pool b _ = ⊥

-- ---- 6: members

abbrev pub MembersFault : Pool → Body → ClassFault → Type 0
MembersFault pool b (BadLink n) = (m : Member) × Contains (b.fields ++ b.methods) m × Contains (member_numbers m) n × ¬ IsTextNumber pool n
MembersFault pool b (BadMember k) =
    ((m : Member) × (slice_get b.fields k ≡ Some m) × ¬ FieldFits pool m)
    ⊎ ((i : ℕ) × (m : Member) × (k ≡ length b.fields + i) × (slice_get b.methods i ≡ Some m) × ¬ MethodFits pool (is_interface b) m)
MembersFault pool b (DuplicateMethod i) = (j : ℕ) × (earlier : Member) × (later : Member) × (j < i)
    × (slice_get b.methods j ≡ Some earlier) × (slice_get b.methods i ≡ Some later) × IsTrue (same_method pool later earlier)
MembersFault pool b (TwoCodes i) = (m : Member) × (slice_get b.methods i ≡ Some m) × (2 ≤ length (codes_of pool m))
MembersFault pool b _ = ⊥

-- ---- 7: class attributes

abbrev pub AttributesFault : ℕ → Pool → Body → ClassFault → Type 0
AttributesFault major pool b (BadLink n) = Contains (map (λ a. a.name) b.attributes) n × ¬ IsTextNumber pool n
AttributesFault major pool b BadNest = (host : Option ℕ) (members : Option (List ℕ)) → ¬ Nest major pool b host members
AttributesFault major pool b _ = ⊥

-- ---- 8: codes

-- the bytes are those of a Code attribute
abbrev pub IsCodeFault : Pool → List ℕ → CodeFault → Type 0
IsCodeFault p info code.BadLayout = (bytes : List ℕ) → ¬ HoldsCode info bytes
IsCodeFault p info f = (bytes : List ℕ) × HoldsCode info bytes × IsScanFault p bytes f

abbrev pub CodesFault : Pool → Body → ClassFault → Type 0
CodesFault pool b (Code i f) = (m : Member) × (a : Attribute) × (slice_get b.methods i ≡ Some m) × (codes_of pool m ≡ a ∷ [])
    × (f ≢ code.Memory) × IsCodeFault pool a.info f
CodesFault pool b _ = ⊥

-- ---- the order

pub data Pass : Type 0 where
  Sizing : Pass
  Heading : Pass
  Pooling : Pass
  Laying : Pass
  Linking : Pass
  Membership : Pass
  Attribution : Pass
  Coding : Pass

abbrev pub rank : Pass → ℕ
rank Sizing = 1
rank Heading = 2
rank Pooling = 3
rank Laying = 4
rank Linking = 5
rank Membership = 6
rank Attribution = 7
rank Coding = 8

-- the bytes are the text of a layout, which has this fault
abbrev pub LaidFault : (ℕ → Pool → Body → ClassFault → Type 0) → List ℕ → ClassFault → Type 0
LaidFault Fault bytes f = (l : Layout) × IsLayout l × (bytes ≡ file_text l) × Fault l.major (pool_of l) l.body f

abbrev pub FailsWith : ℕ → Pass → List ℕ → ClassFault → Type 0
FailsWith newest Sizing bytes f = SizeFault bytes f
FailsWith newest Heading bytes f = HeadFault newest bytes f
FailsWith newest Pooling bytes f = PoolPass bytes f
FailsWith newest Laying bytes f = LayoutFault bytes f
FailsWith newest Linking bytes f = LaidFault LinksFault bytes f
FailsWith newest Membership bytes f = LaidFault (λ major. MembersFault) bytes f
FailsWith newest Attribution bytes f = LaidFault AttributesFault bytes f
FailsWith newest Coding bytes f = LaidFault (λ major. CodesFault) bytes f

-- the pass fails with the fault, and no earlier pass fails
pub record IsFaultUpTo (newest : ℕ) (bytes : List ℕ) (f : ClassFault) : Type 0 where
  pub pass : Pass
  pub fails : FailsWith newest pass bytes f
  pub first : (earlier : Pass) (g : ClassFault) → rank earlier < rank pass → ¬ FailsWith newest earlier bytes g

-- why the bytes are no class file of SE 17
abbrev pub IsFault : List ℕ → ClassFault → Type 0
IsFault bytes f = IsFaultUpTo newest_of_17 bytes f
