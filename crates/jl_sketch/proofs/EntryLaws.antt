-- Entries, and the constants that they stand for.
use Rattle.std.proofs.Common.{◌≡◌, ◌+◌, Bool, List, [], ◌∷◌, ◌++◌, map, refl, ap, ◌∙◌, if◌then◌else◌}
use Rattle.std.specs.List.{list_any, position}
use Rattle.std.specs.Option.{option_map_or}
use Rattle.jl_pool.specs.declared.constant.Constant.{Constant}
use Rattle.jl_sketch.specs.declared.constants.NewConstant.{NewConstant}
use Rattle.jl_sketch.specs.declared.constants.NewConstant.TheVariants.{Utf8, Class, NameAndType, Methodref, InterfaceMethodref, InvokeDynamic}
use Rattle.jl_sketch.specs.contracts.constants.NewConstantPartialEq.TheImpl.{eq-value}
use Rattle.jl_sketch.specs.Constants.{same_constant, enter, number}
use Rattle.jl_sketch.specs.ForProofs.Entries.{constant_of}
use Rattle.jl_sketch.proofs.Positions.{any_by, position_by, map_unless}

abbrev same_entry : NewConstant → NewConstant → Bool
same_entry a b = eq-value.it a b

same : (a b : NewConstant) → same_entry a b ≡ same_constant (constant_of a) (constant_of b)
same (Utf8 s) (Utf8 t) = refl
same (Utf8 s) (Class i) = refl
same (Utf8 s) (NameAndType i j) = refl
same (Utf8 s) (Methodref i j) = refl
same (Utf8 s) (InterfaceMethodref i j) = refl
same (Utf8 s) (InvokeDynamic i) = refl
same (Class m) (Utf8 t) = refl
same (Class m) (Class i) = refl
same (Class m) (NameAndType i j) = refl
same (Class m) (Methodref i j) = refl
same (Class m) (InterfaceMethodref i j) = refl
same (Class m) (InvokeDynamic i) = refl
same (NameAndType m n) (Utf8 t) = refl
same (NameAndType m n) (Class i) = refl
same (NameAndType m n) (NameAndType i j) = refl
same (NameAndType m n) (Methodref i j) = refl
same (NameAndType m n) (InterfaceMethodref i j) = refl
same (NameAndType m n) (InvokeDynamic i) = refl
same (Methodref m n) (Utf8 t) = refl
same (Methodref m n) (Class i) = refl
same (Methodref m n) (NameAndType i j) = refl
same (Methodref m n) (Methodref i j) = refl
same (Methodref m n) (InterfaceMethodref i j) = refl
same (Methodref m n) (InvokeDynamic i) = refl
same (InterfaceMethodref m n) (Utf8 t) = refl
same (InterfaceMethodref m n) (Class i) = refl
same (InterfaceMethodref m n) (NameAndType i j) = refl
same (InterfaceMethodref m n) (Methodref i j) = refl
same (InterfaceMethodref m n) (InterfaceMethodref i j) = refl
same (InterfaceMethodref m n) (InvokeDynamic i) = refl
same (InvokeDynamic m) (Utf8 t) = refl
same (InvokeDynamic m) (Class i) = refl
same (InvokeDynamic m) (NameAndType i j) = refl
same (InvokeDynamic m) (Methodref i j) = refl
same (InvokeDynamic m) (InterfaceMethodref i j) = refl
same (InvokeDynamic m) (InvokeDynamic i) = refl

pub entered : (keys new : List NewConstant) (cs : List Constant) (e : NewConstant) → new ≡ (if list_any (same_entry e) keys then keys else keys ++ e ∷ [])
    → map constant_of keys ≡ cs → map constant_of new ≡ enter cs (constant_of e)
unfolding enter
entered keys new cs e he hcs =
    let any = any_by constant_of (same_entry e) (same_constant (constant_of e)) (same e) keys in
    let old : List Constant = map constant_of keys in
    ap (map constant_of) he ∙ map_unless constant_of (list_any (same_entry e) keys) keys e
    ∙ ap (λ (b : Bool). if b then old else old ++ constant_of e ∷ []) any ∙ ap (λ (xs : List Constant). enter xs (constant_of e)) hcs

pub numbered : (keys : List NewConstant) (cs : List Constant) (e : NewConstant) → map constant_of keys ≡ cs
    → option_map_or (λ i. i + 1) (position (same_entry e) keys) 0 ≡ number cs (constant_of e)
unfolding number
numbered keys cs e hcs =
    ap (λ o. option_map_or (λ i. i + 1) o 0) (position_by constant_of (same_entry e) (same_constant (constant_of e)) (same e) keys)
    ∙ ap (λ (xs : List Constant). number xs (constant_of e)) hcs
