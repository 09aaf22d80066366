-- What the numbers of a class file show, if they name what a sketch says.
use Rattle.std.proofs.Common.{◌≡◌, ℕ, Bool, true, false, List, [], ◌∷◌, map, Some, None, refl, sym, ap, ◌∙◌, subst, if◌then◌else◌, ◌==◌}
use Rattle.std.specs.Prelude.{Option, IsSome, is_some}
use Rattle.std.specs.Option.{option_and_then, unwrap_or}
use Rattle.std.specs.List.{AllByRecursion}
use Rattle.std.proofs.lemmas.Bool.{false≢true, eqb-true}
use Rattle.jl_names.specs.ClassNames.{is_class_name}
use Rattle.jl_pool.specs.Pools.{Pool, class_text_at, class_at}
use Rattle.jl_classfile.specs.Conditions.{IsClassNumber, superclass_numbers}
use Rattle.jl_classfile.specs.Shown.{name_or_nothing}

pub class_is : (pool : Pool) (n : ℕ) (name : List ℕ) → class_text_at pool n ≡ Some name → IsSome (class_at pool n) → class_at pool n ≡ Some name
class_is pool n name h some = by_test (is_class_name name) refl
  where
    at : class_at pool n ≡ (if is_class_name name then Some name else None)
    at = ap (option_and_then (λ (text : List ℕ). if is_class_name text then Some text else None)) h

    by_test : (b : Bool) → is_class_name name ≡ b → class_at pool n ≡ Some name
    by_test true k = at ∙ ap (λ (b : Bool). if b then Some name else None) k
    by_test false k =
        let none : class_at pool n ≡ None = at ∙ ap (λ (b : Bool). if b then Some name else None) k in
        absurd (false≢true (sym (ap is_some none) ∙ some))

pub name_is : (pool : Pool) (n : ℕ) (name : List ℕ) → class_text_at pool n ≡ Some name → IsSome (class_at pool n) → name_or_nothing pool n ≡ name
name_is pool n name h some = ap (λ (o : Option (List ℕ)). unwrap_or o []) (class_is pool n name h some)

-- the superclass, none at number 0
pub super_is : (pool : Pool) (n : ℕ) (name : Option (List ℕ)) → class_text_at pool n ≡ name → AllByRecursion (IsClassNumber pool) (superclass_numbers n)
    → class_text_at pool 0 ≡ None → class_at pool n ≡ name
super_is pool n None h all zero = ap (option_and_then (λ (text : List ℕ). if is_class_name text then Some text else None)) h
super_is pool n (Some name) h all zero = by_test (n == 0) refl
  where
    by_test : (b : Bool) → (n == 0) ≡ b → class_at pool n ≡ Some name
    by_test true k =
        let none : class_text_at pool n ≡ None = ap (class_text_at pool) (eqb-true n 0 k) ∙ zero in
        absurd (false≢true (sym (ap is_some none) ∙ ap is_some h))
    by_test false k =
        let some = subst (λ (b : Bool). AllByRecursion (IsClassNumber pool) (if b then [] else n ∷ [])) k all in
        class_is pool n name h some.0

pub names_are : (pool : Pool) (ns : List ℕ) (names : List (List ℕ)) → map (class_text_at pool) ns ≡ map Some names → AllByRecursion (IsClassNumber pool) ns
    → map (name_or_nothing pool) ns ≡ names
names_are pool [] [] h all = refl
names_are pool [] (n ∷ names) h all = absurd cc
names_are pool (n ∷ ns) [] h all = absurd cc
names_are pool (n ∷ ns) (name ∷ names) h all =
    let first : class_text_at pool n ≡ Some name = cc in
    let rest : map (class_text_at pool) ns ≡ map Some names = cc in
    ap (λ (text : List ℕ). text ∷ map (name_or_nothing pool) ns) (name_is pool n name first all.0)
    ∙ ap (λ (texts : List (List ℕ)). name ∷ texts) (names_are pool ns names rest all.1)
