-- A class file as it lies: its parts and their text (JVMS 4.1, 4.5, 4.6, 4.7).
use Rattle.std.specs.Prelude.{ℕ, ◌<◌, ◌^◌, List, ◌++◌, length}
use Rattle.std.specs.List.{AllByRecursion}
use Rattle.jl_pool.specs.declared.constant.Constant.{Constant}
use Rattle.jl_classfile.specs.declared.body.Attribute.{Attribute}
use Rattle.jl_classfile.specs.declared.body.Member.{Member}
use Rattle.jl_classfile.specs.declared.body.Body.{Body}
use Rattle.jl_pool.specs.Numbers.{u2, u4, counted}
use Rattle.jl_pool.specs.Pools.{pool_text, IsPool}

abbrev pub attribute_text : Attribute → List ℕ
attribute_text a = u2 a.name ++ (u4 (length a.info) ++ a.info)

-- a field or a method
abbrev pub member_text : Member → List ℕ
member_text m = u2 m.flags ++ (u2 m.name ++ (u2 m.descriptor ++ counted attribute_text m.attributes))

-- what follows the pool
abbrev pub body_text : Body → List ℕ
body_text b =
    u2 b.flags ++ (u2 b.this_class ++ (u2 b.super_class ++ (counted u2 b.interfaces
    ++ (counted member_text b.fields ++ (counted member_text b.methods ++ counted attribute_text b.attributes)))))

pub record Layout : Type 0 where
  pub minor : ℕ
  pub major : ℕ
  pub constants : List Constant
  pub body : Body

-- the magic number and the version
abbrev pub head_text : ℕ → ℕ → List ℕ
head_text minor major = u4 0xcafebabe ++ (u2 minor ++ u2 major)

abbrev pub file_text : Layout → List ℕ
file_text l = head_text l.minor l.major ++ (pool_text l.constants ++ body_text l.body)

-- ---- each number is of the size that it is written in

pub record AttributeSized (a : Attribute) : Type 0 where
  pub name : a.name < 2 ^ 16
  pub info : length a.info < 2 ^ 32

-- the items are few enough for their count, and each is so
pub record Countable {X : Type 0} (IsSo : X → Type 0) (xs : List X) : Type 0 where
  pub count : length xs < 2 ^ 16
  pub each : AllByRecursion IsSo xs

pub record MemberSized (m : Member) : Type 0 where
  pub flags : m.flags < 2 ^ 16
  pub name : m.name < 2 ^ 16
  pub descriptor : m.descriptor < 2 ^ 16
  pub attributes : Countable AttributeSized m.attributes

pub record BodySized (b : Body) : Type 0 where
  pub flags : b.flags < 2 ^ 16
  pub this_class : b.this_class < 2 ^ 16
  pub super_class : b.super_class < 2 ^ 16
  pub interfaces : Countable (λ n. n < 2 ^ 16) b.interfaces
  pub fields : Countable MemberSized b.fields
  pub methods : Countable MemberSized b.methods
  pub attributes : Countable AttributeSized b.attributes

pub record IsLayout (l : Layout) : Type 0 where
  pub minor : l.minor < 2 ^ 16
  pub major : l.major < 2 ^ 16
  pub pool : IsPool l.constants
  pub body : BodySized l.body
