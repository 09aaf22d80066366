-- The size of a file, its version (JVMS 4.1, table 4.1-A), and the files of modules.
use Rattle.std.proofs.Common.{◌≡◌, ℕ, true, false, List, [], ◌∷◌, length, refl, arith}
use Rattle.jl_classfile.specs.declared.body.Body.{Body}
use Rattle.jl_classfile.specs.declared.fault.ClassFault.TheVariants.{TooLarge}
use Rattle.jl_classfile.specs.Layouts.{head_text}
use Rattle.jl_classfile.specs.Conditions.{newest_of_17, IsVersion, IsVersionUpTo, is_module}
use Rattle.jl_classfile.specs.Faults.{SizeFault}

a_million : (bytes : List ℕ) → length bytes ≡ 1000000 → ¬ SizeFault bytes TooLarge
a_million bytes so_many = λ more. omega (arith, so_many, more)

a_million_and_one : (bytes : List ℕ) → length bytes ≡ 1000001 → SizeFault bytes TooLarge
a_million_and_one bytes so_many = omega (arith, so_many)

-- cafebabe, the minor version, the major version
head : head_text 3 45 ≡ 0xca ∷ 0xfe ∷ 0xba ∷ 0xbe ∷ 0 ∷ 3 ∷ 0 ∷ 45 ∷ []
head = refl

head_65 : head_text 0 65 ≡ 0xca ∷ 0xfe ∷ 0xba ∷ 0xbe ∷ 0 ∷ 0 ∷ 0 ∷ 65 ∷ []
head_65 = refl

head_69 : head_text 0 69 ≡ 0xca ∷ 0xfe ∷ 0xba ∷ 0xbe ∷ 0 ∷ 0 ∷ 0 ∷ 69 ∷ []
head_69 = refl

version_44_0 : ¬ IsVersion 0 44
version_44_0 = λ v. let from = v.from in omega (arith, from)

version_45_3 : IsVersion 3 45
version_45_3 = record { from = omega arith; to = omega arith; plain = λ late. absurd (omega (arith, late)) }

version_55_65535 : IsVersion 65535 55
version_55_65535 = record { from = omega arith; to = omega arith; plain = λ late. absurd (omega (arith, late)) }

version_56_0 : IsVersion 0 56
version_56_0 = record { from = omega arith; to = omega arith; plain = λ _. refl }

version_56_1 : ¬ IsVersion 1 56
version_56_1 = λ v. let none = v.plain (omega arith) in omega (arith, none)

version_61_0 : IsVersion 0 61
version_61_0 = record { from = omega arith; to = omega arith; plain = λ _. refl }

-- that of preview features
version_61_65535 : ¬ IsVersion 65535 61
version_61_65535 = λ v. let none = v.plain (omega arith) in omega (arith, none)

version_62_0 : ¬ IsVersion 0 62
version_62_0 = λ v. let to = v.to in omega (arith, to)

of_17 : newest_of_17 ≡ 61
of_17 = refl

-- later heads up to the newest of SE 17
version_65_0 : ¬ IsVersion 0 65
version_65_0 = λ v. let to = v.to in omega (arith, to)

version_69_0 : ¬ IsVersion 0 69
version_69_0 = λ v. let to = v.to in omega (arith, to)

version_69_65535 : ¬ IsVersion 65535 69
version_69_65535 = λ v. let to = v.to in omega (arith, to)

version_70_0 : ¬ IsVersion 0 70
version_70_0 = λ v. let to = v.to in omega (arith, to)

-- up to that of SE 21
up_to_65_61_0 : IsVersionUpTo 65 0 61
up_to_65_61_0 = record { from = omega arith; to = omega arith; plain = λ _. refl }

up_to_65_62_0 : IsVersionUpTo 65 0 62
up_to_65_62_0 = record { from = omega arith; to = omega arith; plain = λ _. refl }

up_to_65_65_0 : IsVersionUpTo 65 0 65
up_to_65_65_0 = record { from = omega arith; to = omega arith; plain = λ _. refl }

up_to_65_65_65535 : ¬ IsVersionUpTo 65 65535 65
up_to_65_65_65535 = λ v. let none = v.plain (omega arith) in omega (arith, none)

up_to_65_66_0 : ¬ IsVersionUpTo 65 0 66
up_to_65_66_0 = λ v. let to = v.to in omega (arith, to)

up_to_65_69_0 : ¬ IsVersionUpTo 65 0 69
up_to_65_69_0 = λ v. let to = v.to in omega (arith, to)

up_to_65_69_65535 : ¬ IsVersionUpTo 65 65535 69
up_to_65_69_65535 = λ v. let to = v.to in omega (arith, to)

up_to_65_70_0 : ¬ IsVersionUpTo 65 0 70
up_to_65_70_0 = λ v. let to = v.to in omega (arith, to)

-- up to that of SE 25
up_to_69_44_0 : ¬ IsVersionUpTo 69 0 44
up_to_69_44_0 = λ v. let from = v.from in omega (arith, from)

up_to_69_61_0 : IsVersionUpTo 69 0 61
up_to_69_61_0 = record { from = omega arith; to = omega arith; plain = λ _. refl }

up_to_69_61_65535 : ¬ IsVersionUpTo 69 65535 61
up_to_69_61_65535 = λ v. let none = v.plain (omega arith) in omega (arith, none)

up_to_69_62_0 : IsVersionUpTo 69 0 62
up_to_69_62_0 = record { from = omega arith; to = omega arith; plain = λ _. refl }

up_to_69_65_0 : IsVersionUpTo 69 0 65
up_to_69_65_0 = record { from = omega arith; to = omega arith; plain = λ _. refl }

up_to_69_69_0 : IsVersionUpTo 69 0 69
up_to_69_69_0 = record { from = omega arith; to = omega arith; plain = λ _. refl }

up_to_69_69_65535 : ¬ IsVersionUpTo 69 65535 69
up_to_69_69_65535 = λ v. let none = v.plain (omega arith) in omega (arith, none)

up_to_69_70_0 : ¬ IsVersionUpTo 69 0 70
up_to_69_70_0 = λ v. let to = v.to in omega (arith, to)

abbrev flagged : ℕ → Body
flagged flags = record { flags = flags; this_class = 0; super_class = 0; interfaces = []; fields = []; methods = []; attributes = [] }

module_52 : is_module 52 (flagged 0x8000) ≡ false
module_52 = refl

module_53 : is_module 53 (flagged 0x8000) ≡ true
module_53 = refl

-- with PUBLIC and SUPER, and these alone
module_among_others : is_module 61 (flagged 0x8021) ≡ true
module_among_others = refl

no_module : is_module 61 (flagged 0x7fff) ≡ false
no_module = refl
