-- Lemmas on tests, options and lists, for the crates above, too.
use Rattle.std.proofs.Common.{◌≡◌, Bool, true, false, List, [], ◌∷◌, ◌++◌, Option, Some, None, refl, sym, ap, ◌∙◌, append_assoc}
use Rattle.std.specs.Prelude.{MatchBool, option_map, Decides}
use Rattle.std.specs.List.{flat_map, AllByRecursion}
use Rattle.std.proofs.lemmas.List.{flat_map_more}

pub by_test : {P : Type 0} (b : Bool) → (b ≡ true → P) → (b ≡ false → P) → P
by_test true on_true on_false = on_true refl
by_test false on_true on_false = on_false refl

-- a test that tells a fact, in either case, decides it
pub told-decides : {P : Type 0} (b : Bool) → MatchBool b P (¬ P) → Decides b P
told-decides true h = (λ e. h, λ p. refl)
told-decides false h = (λ e. absurd cc, λ p. absurd (h p))

pub map-some : {X Y : Type 0} (f : X → Y) (o : Option X) (y : Y) → option_map f o ≡ Some y → (x : X) × (o ≡ Some x) × (f x ≡ y)
map-some f None y e = absurd cc
map-some f (Some x) y e = (x, refl, cc)

pub All-front : {X : Type 0} (P : X → Type 0) (xs ys : List X) → AllByRecursion P (xs ++ ys) → AllByRecursion P xs
All-front P [] ys h = tt
All-front P (x ∷ xs) ys h = (h.0, All-front P xs ys h.1)

pub All-back : {X : Type 0} (P : X → Type 0) (xs ys : List X) → AllByRecursion P (xs ++ ys) → AllByRecursion P ys
All-back P [] ys h = h
All-back P (x ∷ xs) ys h = All-back P xs ys h.1

pub All-both : {X : Type 0} (P : X → Type 0) (xs ys : List X) → AllByRecursion P xs → AllByRecursion P ys → AllByRecursion P (xs ++ ys)
All-both P [] ys h k = k
All-both P (x ∷ xs) ys h k = (h.0, All-both P xs ys h.1 k)

pub All-push : {X : Type 0} (P : X → Type 0) (xs : List X) (x : X) → AllByRecursion P xs → P x → AllByRecursion P (xs ++ x ∷ [])
All-push P xs x h w = All-both P xs (x ∷ []) h (w, tt)

pub texts-push : {X A : Type 0} (text : X → List A) (xs : List X) (x : X) (rest : List A) → flat_map text (xs ++ x ∷ []) ++ rest ≡ flat_map text xs
    ++ (text x ++ rest)
texts-push {A = A} text xs x rest = ap (λ (all : List A). all ++ rest) (sym (flat_map_more text [] xs x)) ∙ append_assoc (flat_map text xs) (text x) rest
