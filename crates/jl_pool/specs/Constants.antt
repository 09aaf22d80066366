-- Constants and their texts (JVMS 4.4).
use Rattle.std.specs.Prelude.{ℕ, ◌<◌, ◌^◌, Bool, true, false, if◌then◌else◌, ◌==◌, ◌&&◌, nat_le, List, [], ◌∷◌, ◌++◌, length}
use Rattle.jl_pool.specs.declared.constant.Constant.{Constant}
use Rattle.jl_pool.specs.declared.constant.Constant.TheVariants.{Utf8, Integer, Float, Long, Double, Class, String, Fieldref, Methodref}
use Rattle.jl_pool.specs.declared.constant.Constant.TheVariants.{InterfaceMethodref, NameAndType, MethodHandle, MethodType, Dynamic, InvokeDynamic}
use Rattle.jl_pool.specs.declared.constant.Constant.TheVariants.{Module, Package}
use Rattle.jl_pool.specs.Numbers.{u1, u2, u4, u8}

abbrev pub tag : Constant → ℕ
tag (Utf8 bytes) = 1
tag (Integer bits) = 3
tag (Float bits) = 4
tag (Long bits) = 5
tag (Double bits) = 6
tag (Class name) = 7
tag (String text) = 8
tag (Fieldref owner name_and_type) = 9
tag (Methodref owner name_and_type) = 10
tag (InterfaceMethodref owner name_and_type) = 11
tag (NameAndType name ty) = 12
tag (MethodHandle kind reference) = 15
tag (MethodType ty) = 16
tag (Dynamic bootstrap name_and_type) = 17
tag (InvokeDynamic bootstrap name_and_type) = 18
tag (Module name) = 19
tag (Package name) = 20

-- what follows the tag
abbrev pub payload : Constant → List ℕ
payload (Utf8 bytes) = u2 (length bytes) ++ bytes
payload (Integer bits) = u4 bits
payload (Float bits) = u4 bits
payload (Long bits) = u8 bits
payload (Double bits) = u8 bits
payload (Class name) = u2 name
payload (String text) = u2 text
payload (Fieldref owner name_and_type) = u2 owner ++ u2 name_and_type
payload (Methodref owner name_and_type) = u2 owner ++ u2 name_and_type
payload (InterfaceMethodref owner name_and_type) = u2 owner ++ u2 name_and_type
payload (NameAndType name ty) = u2 name ++ u2 ty
payload (MethodHandle kind reference) = u1 kind ++ u2 reference
payload (MethodType ty) = u2 ty
payload (Dynamic bootstrap name_and_type) = u2 bootstrap ++ u2 name_and_type
payload (InvokeDynamic bootstrap name_and_type) = u2 bootstrap ++ u2 name_and_type
payload (Module name) = u2 name
payload (Package name) = u2 name

abbrev pub constant_text : Constant → List ℕ
constant_text c = u1 (tag c) ++ payload c

-- its numbers are of the size that they are written in
abbrev pub IsSized : Constant → Type 0
IsSized (Utf8 bytes) = length bytes < 2 ^ 16
IsSized (Integer bits) = bits < 2 ^ 32
IsSized (Float bits) = bits < 2 ^ 32
IsSized (Long bits) = bits < 2 ^ 64
IsSized (Double bits) = bits < 2 ^ 64
IsSized (Class name) = name < 2 ^ 16
IsSized (String text) = text < 2 ^ 16
IsSized (Fieldref owner name_and_type) = (owner < 2 ^ 16) × (name_and_type < 2 ^ 16)
IsSized (Methodref owner name_and_type) = (owner < 2 ^ 16) × (name_and_type < 2 ^ 16)
IsSized (InterfaceMethodref owner name_and_type) = (owner < 2 ^ 16) × (name_and_type < 2 ^ 16)
IsSized (NameAndType name ty) = (name < 2 ^ 16) × (ty < 2 ^ 16)
IsSized (MethodHandle kind reference) = (kind < 2 ^ 8) × (reference < 2 ^ 16)
IsSized (MethodType ty) = ty < 2 ^ 16
IsSized (Dynamic bootstrap name_and_type) = (bootstrap < 2 ^ 16) × (name_and_type < 2 ^ 16)
IsSized (InvokeDynamic bootstrap name_and_type) = (bootstrap < 2 ^ 16) × (name_and_type < 2 ^ 16)
IsSized (Module name) = name < 2 ^ 16
IsSized (Package name) = name < 2 ^ 16

-- a long and a double take two numbers
abbrev pub is_double : Constant → Bool
is_double (Long bits) = true
is_double (Double bits) = true
is_double _ = false

-- ---- what a constant names

-- the references that a kind of method handle may have, by tag (JVMS 4.4.8)
abbrev pub handle_tags : ℕ → List ℕ
handle_tags kind =
    if nat_le 1 kind && nat_le kind 4 then 9 ∷ []
    else (if (kind == 5) then 10 ∷ []
    else (if nat_le 6 kind && nat_le kind 7 then 10 ∷ 11 ∷ []
    else (if kind == 8 then 10 ∷ []
    else (if kind == 9 then 11 ∷ [] else []))))

-- a number in the pool, and the tags of what may stand there
pub record Naming : Type 0 where
  pub number : ℕ
  pub tags : List ℕ

abbrev pub naming : ℕ → List ℕ → Naming
naming n tags = record { number = n; tags = tags }

abbrev pub names : Constant → List Naming
names (Class name) = naming name (1 ∷ []) ∷ []
names (String text) = naming text (1 ∷ []) ∷ []
names (Fieldref owner name_and_type) = naming owner (7 ∷ []) ∷ naming name_and_type (12 ∷ []) ∷ []
names (Methodref owner name_and_type) = naming owner (7 ∷ []) ∷ naming name_and_type (12 ∷ []) ∷ []
names (InterfaceMethodref owner name_and_type) = naming owner (7 ∷ []) ∷ naming name_and_type (12 ∷ []) ∷ []
names (NameAndType name ty) = naming name (1 ∷ []) ∷ naming ty (1 ∷ []) ∷ []
names (MethodHandle kind reference) = naming reference (handle_tags kind) ∷ []
names (MethodType ty) = naming ty (1 ∷ []) ∷ []
names (Dynamic bootstrap name_and_type) = naming name_and_type (12 ∷ []) ∷ []
names (InvokeDynamic bootstrap name_and_type) = naming name_and_type (12 ∷ []) ∷ []
names (Module name) = naming name (1 ∷ []) ∷ []
names (Package name) = naming name (1 ∷ []) ∷ []
names _ = []
