-- What the definitions give if a list is not empty, and if a method has code.
use Rattle.std.proofs.Common.{◌≡◌, ℕ, ◌+◌, ◌==◌, Bool, true, false, List, [], ◌∷◌, ◌++◌, length, map, refl, sym, ap, ◌∙◌, if◌then◌else◌, append_assoc}
use Rattle.std.proofs.Common.{suc, arith}
use Rattle.std.specs.Prelude.{fold, codes}
use Rattle.std.specs.List.{flat_map}
use Rattle.std.proofs.lemmas.Bool.{false≢true}
use Rattle.jl_pool.specs.declared.constant.Constant.{Constant}
use Rattle.jl_pool.specs.Numbers.{u2, u4, counted}
use Rattle.jl_pool.specs.Constants.{constant_text}
use Rattle.jl_pool.specs.Pools.{places, places_of, pool_text}
use Rattle.std.proofs.lemmas.List.{length-map, append-nil}
use Rattle.jl_classfile.specs.Layouts.{attribute_text}
use Rattle.jl_classfile.specs.declared.body.Attribute.{Attribute}
use Rattle.jl_sketch.specs.declared.constants.NewConstant.{NewConstant}
use Rattle.jl_sketch.specs.declared.constants.NewConstant.TheVariants.{Utf8, Class, NameAndType, Methodref, InterfaceMethodref, InvokeDynamic}
use Rattle.jl_sketch.specs.declared.sketch.SketchMethod.{SketchMethod}
use Rattle.jl_sketch.specs.Constants.{has_code, with_text, with_class, with_members, text_number, class_number}
use Rattle.jl_sketch.specs.ForProofs.Entries.{constant_of}
use Rattle.jl_sketch.specs.Layouts.{member_attributes, code_attribute, method_attributes}

pub with_some_members : (cs : List Constant) (members : List (List ℕ)) → (length members == 0) ≡ false
    → with_members cs members ≡ fold with_class (with_text cs (codes "NestMembers")) members
with_some_members cs [] h = absurd (false≢true (sym h))
with_some_members cs (m ∷ ms) h = refl

pub members_written : (cs : List Constant) (members : List (List ℕ)) (out : List ℕ) (name : ℕ) (info : List ℕ) → (length members == 0) ≡ false
    → name ≡ text_number cs (codes "NestMembers") → info ≡ counted u2 (map (class_number cs) members)
    → out ++ (u2 name ++ (u4 (length info) ++ info)) ≡ out ++ flat_map attribute_text (member_attributes cs members)
members_written cs [] out name info h hn hi = absurd (false≢true (sym h))
members_written cs (m ∷ ms) out name info h hn hi =
    let number : ℕ = text_number cs (codes "NestMembers") in
    let numbers : List ℕ = counted u2 (map (class_number cs) (m ∷ ms)) in
    ap (λ (k : ℕ). out ++ (u2 k ++ (u4 (length info) ++ info))) hn ∙ ap (λ (i : List ℕ). out ++ (u2 number ++ (u4 (length i) ++ i))) hi
    ∙ ap (λ (xs : List ℕ). out ++ xs) (sym (append-nil (u2 number ++ (u4 (length numbers) ++ numbers))))

-- each entry takes one number
pub one_place : (es : List NewConstant) → length (flat_map places_of (map constant_of es)) ≡ length es
one_place [] = refl
one_place (Utf8 s ∷ es) = ap suc (one_place es)
one_place (Class m ∷ es) = ap suc (one_place es)
one_place (NameAndType m n ∷ es) = ap suc (one_place es)
one_place (Methodref m n ∷ es) = ap suc (one_place es)
one_place (InterfaceMethodref m n ∷ es) = ap suc (one_place es)
one_place (InvokeDynamic m ∷ es) = ap suc (one_place es)

pub code_written : (cs : List Constant) (m : SketchMethod) (out before : List ℕ) → has_code m.flags ≡ true → before ≡ out ++ u2 1
    → before ++ attribute_text (code_attribute cs m.calls) ≡ out ++ counted attribute_text (method_attributes cs m)
code_written cs m out before h hb =
    let code : Attribute = code_attribute cs m.calls in
    let one : method_attributes cs m ≡ code ∷ [] = ap (λ (b : Bool). if b then code ∷ [] else []) h in
    ap (λ (xs : List ℕ). xs ++ attribute_text code) hb ∙ append_assoc out (u2 1) (attribute_text code)
    ∙ ap (λ (xs : List ℕ). out ++ (u2 1 ++ xs)) (sym (append-nil (attribute_text code)))
    ∙ ap (λ (xs : List Attribute). out ++ counted attribute_text xs) (sym one)

one_more : (n : ℕ) → suc n ≡ n + 1
one_more n = omega arith

-- the pool's bytes, from the count and each constant's
pub pool_is : (es : List NewConstant) (cs : List Constant) (out done : List ℕ) (n : ℕ) → map constant_of es ≡ cs → n ≡ length cs
    → done ≡ (out ++ u2 (n + 1)) ++ flat_map constant_text (map constant_of es)
    → done ≡ out ++ pool_text cs
pool_is es cs out done n he hn hd =
    let places_are : length (places cs) ≡ n + 1 =
    ap (λ (xs : List Constant). length (places xs)) (sym he) ∙ ap suc (one_place es ∙ sym (length-map es constant_of) ∙ ap length he ∙ sym hn) ∙ one_more n
    in
    hd ∙ append_assoc out (u2 (n + 1)) (flat_map constant_text (map constant_of es))
    ∙ ap (λ (xs : List Constant). out ++ (u2 (n + 1) ++ flat_map constant_text xs)) he
    ∙ ap (λ k. out ++ (u2 k ++ flat_map constant_text cs)) (sym places_are)
