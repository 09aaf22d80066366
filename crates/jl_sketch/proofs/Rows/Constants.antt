-- Which constants are equal, where they go, and what enters them.
use Rattle.std.specs.Prelude.{◌≡◌, ℕ, Bool, true, false, List, [], ◌∷◌, map, codes, refl}
use Rattle.jl_pool.specs.declared.constant.Constant.{Constant}
use Rattle.jl_pool.specs.declared.constant.Constant.TheVariants.{Utf8, Class, NameAndType, Methodref, InterfaceMethodref, InvokeDynamic}
use Rattle.jl_sketch.specs.declared.sketch.SketchMethod.{SketchMethod}
use Rattle.jl_sketch.specs.declared.sketch.Call.{Call}
use Rattle.jl_sketch.specs.declared.sketch.Call.TheVariants.{Virtual, Special, Static, Interface, Dynamic}
use Rattle.jl_sketch.specs.Constants.{same_constant, enter, number, call_constant, with_call, has_code, with_declared}
use Rattle.jl_sketch.proofs.Rows.Sketches.{f_of_A}

-- ---- equal constants

same_text : map (same_constant (Utf8 (codes "ab"))) (Utf8 (codes "ab") ∷ Utf8 (codes "ac") ∷ Utf8 (codes "cb") ∷ Utf8 (codes "a") ∷ Utf8 (codes "abc") ∷ [])
    ≡ true ∷ false ∷ false ∷ false ∷ false ∷ []
same_text = refl

same_class : map (same_constant (Class 1)) (Class 1 ∷ Class 2 ∷ []) ≡ true ∷ false ∷ []
same_class = refl

abbrev of_pairs : (ℕ → ℕ → Constant) → List Constant
of_pairs make = make 1 2 ∷ make 1 3 ∷ make 3 2 ∷ make 2 1 ∷ []

abbrev first_alone : List Bool
first_alone = true ∷ false ∷ false ∷ false ∷ []

same_signed : map (same_constant (NameAndType 1 2)) (of_pairs NameAndType) ≡ first_alone
same_signed = refl

same_method : map (same_constant (Methodref 1 2)) (of_pairs Methodref) ≡ first_alone
same_method = refl

same_interface_method : map (same_constant (InterfaceMethodref 1 2)) (of_pairs InterfaceMethodref) ≡ first_alone
same_interface_method = refl

same_call_site : map (same_constant (InvokeDynamic 1 2)) (of_pairs InvokeDynamic) ≡ first_alone
same_call_site = refl

abbrev one_of_each : List Constant
one_of_each = Utf8 (1 ∷ 2 ∷ []) ∷ Class 1 ∷ NameAndType 1 2 ∷ Methodref 1 2 ∷ InterfaceMethodref 1 2 ∷ InvokeDynamic 1 2 ∷ []

-- no two kinds are the same
each_is_itself : map (λ c. map (same_constant c) one_of_each) one_of_each ≡
    (true ∷ false ∷ false ∷ false ∷ false ∷ false ∷ [])
    ∷ (false ∷ true ∷ false ∷ false ∷ false ∷ false ∷ [])
    ∷ (false ∷ false ∷ true ∷ false ∷ false ∷ false ∷ [])
    ∷ (false ∷ false ∷ false ∷ true ∷ false ∷ false ∷ [])
    ∷ (false ∷ false ∷ false ∷ false ∷ true ∷ false ∷ [])
    ∷ (false ∷ false ∷ false ∷ false ∷ false ∷ true ∷ []) ∷ []
each_is_itself = refl

-- ---- places and numbers

goes_last : enter (Class 1 ∷ Class 2 ∷ []) (Class 3) ≡ Class 1 ∷ Class 2 ∷ Class 3 ∷ []
unfolding enter
goes_last = refl

is_there : enter (Class 1 ∷ Class 2 ∷ []) (Class 1) ≡ Class 1 ∷ Class 2 ∷ []
unfolding enter
is_there = refl

numbers : map (number (Class 7 ∷ Class 8 ∷ Class 7 ∷ [])) (Class 7 ∷ Class 8 ∷ Class 9 ∷ []) ≡ 1 ∷ 2 ∷ 0 ∷ []
unfolding number
numbers = refl

-- ---- what a call names

abbrev of_methods : List Call
of_methods = Virtual f_of_A ∷ Special false f_of_A ∷ Special true f_of_A ∷ Static false f_of_A ∷ Static true f_of_A ∷ Interface f_of_A ∷ []

-- this one of A.f:()V at the end
abbrev with_parts : Constant → List Constant
with_parts last = Utf8 (codes "A") ∷ Class 1 ∷ Utf8 (codes "f") ∷ Utf8 (codes "()V") ∷ NameAndType 3 4 ∷ last ∷ []

abbrev named : List Constant
named = Methodref 2 5 ∷ Methodref 2 5 ∷ InterfaceMethodref 2 5 ∷ Methodref 2 5 ∷ InterfaceMethodref 2 5 ∷ InterfaceMethodref 2 5 ∷ []

calls_enter : map (with_call []) of_methods ≡ map with_parts named
unfolding enter number
calls_enter = refl

calls_name : map (call_constant (with_parts (Class 9))) of_methods ≡ named
unfolding number
calls_name = refl

call_sites_enter : with_call [] (Dynamic (codes "f") (codes "()V")) ≡ Utf8 (codes "f") ∷ Utf8 (codes "()V") ∷ NameAndType 1 2 ∷ InvokeDynamic 0 3 ∷ []
unfolding enter number
call_sites_enter = refl

-- ---- codes

-- the last two have every flag but NATIVE or but ABSTRACT, and the one before them every other flag
codes_of_flags : map has_code (0 ∷ 9 ∷ 0x0100 ∷ 0x0400 ∷ 0xfaff ∷ 0xfeff ∷ 0xfbff ∷ []) ≡ true ∷ true ∷ false ∷ false ∷ true ∷ false ∷ false ∷ []
codes_of_flags = refl

abbrev run : ℕ → SketchMethod
run flags = record { name = codes "run"; ty = codes "()V"; flags = flags; calls = [] }

with_code : with_declared [] (run 1) ≡ Utf8 (codes "run") ∷ Utf8 (codes "()V") ∷ Utf8 (codes "Code") ∷ []
unfolding enter
with_code = refl

without_code : map (λ flags. with_declared [] (run flags)) (0x0401 ∷ 0x0101 ∷ []) ≡ (Utf8 (codes "run") ∷ Utf8 (codes "()V") ∷ [])
    ∷ (Utf8 (codes "run") ∷ Utf8 (codes "()V") ∷ []) ∷ []
unfolding enter
without_code = refl
