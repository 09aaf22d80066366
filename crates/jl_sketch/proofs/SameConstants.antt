-- Equal constants are one constant.
use Rattle.std.proofs.Common.{◌≡◌, ℕ, true, ◌&&◌, eqb, List, refl, ap, ◌∙◌}
use Rattle.std.proofs.lemmas.Slice.Eq.{bytes_eq-Decides}
use Rattle.std.proofs.lemmas.Bool.{false≢true, eqb-true, eq-eqb, and_parts, and_from}
use Rattle.jl_pool.specs.declared.constant.Constant.{Constant}
use Rattle.jl_pool.specs.declared.constant.Constant.TheVariants.{Utf8, Integer, Float, Long, Double, Class, String, Fieldref, Methodref}
use Rattle.jl_pool.specs.declared.constant.Constant.TheVariants.{InterfaceMethodref, NameAndType}
use Rattle.jl_pool.specs.declared.constant.Constant.TheVariants.{MethodHandle, MethodType, Dynamic, InvokeDynamic, Module, Package}
use Rattle.jl_sketch.specs.Constants.{same_constant}

two_is : (f : ℕ → ℕ → Constant) (a b c d : ℕ) → (eqb a c && eqb b d) ≡ true → f a b ≡ f c d
two_is f a b c d h =
    let s = and_parts (eqb a c) (eqb b d) h in
    ap (λ n. f n b) (eqb-true a c s.0) ∙ ap (f c) (eqb-true b d s.1)

pub one_constant : (x y : Constant) → same_constant x y ≡ true → x ≡ y
one_constant (Utf8 a) (Utf8 c) h = ap Utf8 ((bytes_eq-Decides a c).0 h)
one_constant (Utf8 a) (Integer c) h = absurd (false≢true h)
one_constant (Utf8 a) (Float c) h = absurd (false≢true h)
one_constant (Utf8 a) (Long c) h = absurd (false≢true h)
one_constant (Utf8 a) (Double c) h = absurd (false≢true h)
one_constant (Utf8 a) (Class c) h = absurd (false≢true h)
one_constant (Utf8 a) (String c) h = absurd (false≢true h)
one_constant (Utf8 a) (Fieldref c d) h = absurd (false≢true h)
one_constant (Utf8 a) (Methodref c d) h = absurd (false≢true h)
one_constant (Utf8 a) (InterfaceMethodref c d) h = absurd (false≢true h)
one_constant (Utf8 a) (NameAndType c d) h = absurd (false≢true h)
one_constant (Utf8 a) (MethodHandle c d) h = absurd (false≢true h)
one_constant (Utf8 a) (MethodType c) h = absurd (false≢true h)
one_constant (Utf8 a) (Dynamic c d) h = absurd (false≢true h)
one_constant (Utf8 a) (InvokeDynamic c d) h = absurd (false≢true h)
one_constant (Utf8 a) (Module c) h = absurd (false≢true h)
one_constant (Utf8 a) (Package c) h = absurd (false≢true h)
one_constant (Integer a) y h = absurd (false≢true h)
one_constant (Float a) y h = absurd (false≢true h)
one_constant (Long a) y h = absurd (false≢true h)
one_constant (Double a) y h = absurd (false≢true h)
one_constant (Class a) (Utf8 c) h = absurd (false≢true h)
one_constant (Class a) (Integer c) h = absurd (false≢true h)
one_constant (Class a) (Float c) h = absurd (false≢true h)
one_constant (Class a) (Long c) h = absurd (false≢true h)
one_constant (Class a) (Double c) h = absurd (false≢true h)
one_constant (Class a) (Class c) h = ap Class (eqb-true a c h)
one_constant (Class a) (String c) h = absurd (false≢true h)
one_constant (Class a) (Fieldref c d) h = absurd (false≢true h)
one_constant (Class a) (Methodref c d) h = absurd (false≢true h)
one_constant (Class a) (InterfaceMethodref c d) h = absurd (false≢true h)
one_constant (Class a) (NameAndType c d) h = absurd (false≢true h)
one_constant (Class a) (MethodHandle c d) h = absurd (false≢true h)
one_constant (Class a) (MethodType c) h = absurd (false≢true h)
one_constant (Class a) (Dynamic c d) h = absurd (false≢true h)
one_constant (Class a) (InvokeDynamic c d) h = absurd (false≢true h)
one_constant (Class a) (Module c) h = absurd (false≢true h)
one_constant (Class a) (Package c) h = absurd (false≢true h)
one_constant (String a) y h = absurd (false≢true h)
one_constant (Fieldref a b) y h = absurd (false≢true h)
one_constant (Methodref a b) (Utf8 c) h = absurd (false≢true h)
one_constant (Methodref a b) (Integer c) h = absurd (false≢true h)
one_constant (Methodref a b) (Float c) h = absurd (false≢true h)
one_constant (Methodref a b) (Long c) h = absurd (false≢true h)
one_constant (Methodref a b) (Double c) h = absurd (false≢true h)
one_constant (Methodref a b) (Class c) h = absurd (false≢true h)
one_constant (Methodref a b) (String c) h = absurd (false≢true h)
one_constant (Methodref a b) (Fieldref c d) h = absurd (false≢true h)
one_constant (Methodref a b) (Methodref c d) h = two_is (λ m n. Methodref m n) a b c d h
one_constant (Methodref a b) (InterfaceMethodref c d) h = absurd (false≢true h)
one_constant (Methodref a b) (NameAndType c d) h = absurd (false≢true h)
one_constant (Methodref a b) (MethodHandle c d) h = absurd (false≢true h)
one_constant (Methodref a b) (MethodType c) h = absurd (false≢true h)
one_constant (Methodref a b) (Dynamic c d) h = absurd (false≢true h)
one_constant (Methodref a b) (InvokeDynamic c d) h = absurd (false≢true h)
one_constant (Methodref a b) (Module c) h = absurd (false≢true h)
one_constant (Methodref a b) (Package c) h = absurd (false≢true h)
one_constant (InterfaceMethodref a b) (Utf8 c) h = absurd (false≢true h)
one_constant (InterfaceMethodref a b) (Integer c) h = absurd (false≢true h)
one_constant (InterfaceMethodref a b) (Float c) h = absurd (false≢true h)
one_constant (InterfaceMethodref a b) (Long c) h = absurd (false≢true h)
one_constant (InterfaceMethodref a b) (Double c) h = absurd (false≢true h)
one_constant (InterfaceMethodref a b) (Class c) h = absurd (false≢true h)
one_constant (InterfaceMethodref a b) (String c) h = absurd (false≢true h)
one_constant (InterfaceMethodref a b) (Fieldref c d) h = absurd (false≢true h)
one_constant (InterfaceMethodref a b) (Methodref c d) h = absurd (false≢true h)
one_constant (InterfaceMethodref a b) (InterfaceMethodref c d) h = two_is (λ m n. InterfaceMethodref m n) a b c d h
one_constant (InterfaceMethodref a b) (NameAndType c d) h = absurd (false≢true h)
one_constant (InterfaceMethodref a b) (MethodHandle c d) h = absurd (false≢true h)
one_constant (InterfaceMethodref a b) (MethodType c) h = absurd (false≢true h)
one_constant (InterfaceMethodref a b) (Dynamic c d) h = absurd (false≢true h)
one_constant (InterfaceMethodref a b) (InvokeDynamic c d) h = absurd (false≢true h)
one_constant (InterfaceMethodref a b) (Module c) h = absurd (false≢true h)
one_constant (InterfaceMethodref a b) (Package c) h = absurd (false≢true h)
one_constant (NameAndType a b) (Utf8 c) h = absurd (false≢true h)
one_constant (NameAndType a b) (Integer c) h = absurd (false≢true h)
one_constant (NameAndType a b) (Float c) h = absurd (false≢true h)
one_constant (NameAndType a b) (Long c) h = absurd (false≢true h)
one_constant (NameAndType a b) (Double c) h = absurd (false≢true h)
one_constant (NameAndType a b) (Class c) h = absurd (false≢true h)
one_constant (NameAndType a b) (String c) h = absurd (false≢true h)
one_constant (NameAndType a b) (Fieldref c d) h = absurd (false≢true h)
one_constant (NameAndType a b) (Methodref c d) h = absurd (false≢true h)
one_constant (NameAndType a b) (InterfaceMethodref c d) h = absurd (false≢true h)
one_constant (NameAndType a b) (NameAndType c d) h = two_is (λ m n. NameAndType m n) a b c d h
one_constant (NameAndType a b) (MethodHandle c d) h = absurd (false≢true h)
one_constant (NameAndType a b) (MethodType c) h = absurd (false≢true h)
one_constant (NameAndType a b) (Dynamic c d) h = absurd (false≢true h)
one_constant (NameAndType a b) (InvokeDynamic c d) h = absurd (false≢true h)
one_constant (NameAndType a b) (Module c) h = absurd (false≢true h)
one_constant (NameAndType a b) (Package c) h = absurd (false≢true h)
one_constant (MethodHandle a b) y h = absurd (false≢true h)
one_constant (MethodType a) y h = absurd (false≢true h)
one_constant (Dynamic a b) y h = absurd (false≢true h)
one_constant (InvokeDynamic a b) (Utf8 c) h = absurd (false≢true h)
one_constant (InvokeDynamic a b) (Integer c) h = absurd (false≢true h)
one_constant (InvokeDynamic a b) (Float c) h = absurd (false≢true h)
one_constant (InvokeDynamic a b) (Long c) h = absurd (false≢true h)
one_constant (InvokeDynamic a b) (Double c) h = absurd (false≢true h)
one_constant (InvokeDynamic a b) (Class c) h = absurd (false≢true h)
one_constant (InvokeDynamic a b) (String c) h = absurd (false≢true h)
one_constant (InvokeDynamic a b) (Fieldref c d) h = absurd (false≢true h)
one_constant (InvokeDynamic a b) (Methodref c d) h = absurd (false≢true h)
one_constant (InvokeDynamic a b) (InterfaceMethodref c d) h = absurd (false≢true h)
one_constant (InvokeDynamic a b) (NameAndType c d) h = absurd (false≢true h)
one_constant (InvokeDynamic a b) (MethodHandle c d) h = absurd (false≢true h)
one_constant (InvokeDynamic a b) (MethodType c) h = absurd (false≢true h)
one_constant (InvokeDynamic a b) (Dynamic c d) h = absurd (false≢true h)
one_constant (InvokeDynamic a b) (InvokeDynamic c d) h = two_is (λ m n. InvokeDynamic m n) a b c d h
one_constant (InvokeDynamic a b) (Module c) h = absurd (false≢true h)
one_constant (InvokeDynamic a b) (Package c) h = absurd (false≢true h)
one_constant (Module a) y h = absurd (false≢true h)
one_constant (Package a) y h = absurd (false≢true h)

both_same : (a b : ℕ) → (eqb a a && eqb b b) ≡ true
both_same a b = and_from (eqb a a) (eqb b b) (eq-eqb a a refl) (eq-eqb b b refl)

-- a constant of these kinds is equal to itself
pub same_utf8 : (text : List ℕ) → same_constant (Utf8 text) (Utf8 text) ≡ true
same_utf8 text = (bytes_eq-Decides text text).1 refl

pub same_class : (a : ℕ) → same_constant (Class a) (Class a) ≡ true
same_class a = eq-eqb a a refl

pub same_signed : (a b : ℕ) → same_constant (NameAndType a b) (NameAndType a b) ≡ true
same_signed a b = both_same a b

pub same_methodref : (a b : ℕ) → same_constant (Methodref a b) (Methodref a b) ≡ true
same_methodref a b = both_same a b

pub same_interface_methodref : (a b : ℕ) → same_constant (InterfaceMethodref a b) (InterfaceMethodref a b) ≡ true
same_interface_methodref a b = both_same a b

pub same_dynamic : (a b : ℕ) → same_constant (InvokeDynamic a b) (InvokeDynamic a b) ≡ true
same_dynamic a b = both_same a b
