-- Lists whose elements are taken to others: a test or a look-up that agrees on each element gives what the one of the others gives.
use Rattle.std.specs.Prelude.{◌≡◌, Bool, true, false, cond, ◌||◌, All, List, [], ◌∷◌, map, filter, filter_map, Option, Some, None, option_map}
use Rattle.std.specs.List.{cons_option, list_any}
use Rattle.std.proofs.Common.{refl, subst, ◌∙◌}
use Rattle.std.proofs.lemmas.List.Elements.{All-nil, All-cons, All-head, All-tail}
use Rattle.std.proofs.lemmas.Option.{same_Some}
use Rattle.jl_types.specs.Linkage.Resolution.{first_of, first_element}
pub use Rattle.std.proofs.lemmas.List.Elements.{All-filter}

module _ {A B : Type 0} (f : A → B) where
  pub first_alike_element : (xs : List A) → first_element (map f xs) ≡ option_map f (first_element xs)
  first_alike_element [] = refl
  first_alike_element (x ∷ xs) = refl

  pub first_alike : (os : List (Option A)) → first_of (map (option_map f) os) ≡ option_map f (first_of os)
  first_alike [] = refl
  first_alike (None ∷ os) = first_alike os
  first_alike (Some x ∷ os) = refl

  -- two tests that agree on each element
  module _ (P : A → Type 0) (q : B → Bool) (p : A → Bool) (same : (x : A) → P x → q (f x) ≡ p x) where
    pub filter_alike : (xs : List A) → All P xs → filter q (map f xs) ≡ map f (filter p xs)
    filter_alike [] all = refl
    filter_alike (x ∷ xs) all =
        (λ i. cond (same x (All-head P x xs all) i) (f x ∷ filter_alike xs (All-tail P x xs all) i) (filter_alike xs (All-tail P x xs all) i))
        ∙ by_test (p x)
      where
        by_test : (b : Bool) → cond b (f x ∷ map f (filter p xs)) (map f (filter p xs)) ≡ map f (cond b (x ∷ filter p xs) (filter p xs))
        by_test true = refl
        by_test false = refl

    pub any_alike : (xs : List A) → All P xs → list_any q (map f xs) ≡ list_any p xs
    any_alike [] all = refl
    any_alike (x ∷ xs) all = λ i. same x (All-head P x xs all) i || any_alike xs (All-tail P x xs all) i

-- two look-ups that agree on each element
pub filter_map_alike : {A B C D : Type 0} (f : A → C) (g : B → D) (P : A → Type 0) (q : C → Option D) (p : A → Option B)
    → ((x : A) → P x → q (f x) ≡ option_map g (p x)) → (xs : List A) → All P xs → filter_map q (map f xs) ≡ map g (filter_map p xs)
filter_map_alike f g P q p same [] all = refl
filter_map_alike {B = B} f g P q p same (x ∷ xs) all =
    (λ i. cons_option (same x (All-head P x xs all) i) (filter_map_alike f g P q p same xs (All-tail P x xs all) i))
    ∙ by_found (p x)
  where
    by_found : (o : Option B) → cons_option (option_map g o) (map g (filter_map p xs)) ≡ map g (cons_option o (filter_map p xs))
    by_found None = refl
    by_found (Some y) = refl

-- what holds of each element that is found
pub All-filter_map : {A B : Type 0} (P : A → Type 0) (Q : B → Type 0) (p : A → Option B) → ((x : A) (y : B) → P x → p x ≡ Some y → Q y)
    → (xs : List A) → All P xs → All Q (filter_map p xs)
All-filter_map P Q p each [] all = All-nil Q
All-filter_map {B = B} P Q p each (x ∷ xs) all =
    by_found (p x) refl (All-filter_map P Q p each xs (All-tail P x xs all))
  where
    by_found : (o : Option B) → p x ≡ o → All Q (filter_map p xs) → All Q (cons_option o (filter_map p xs))
    by_found None is rest = rest
    by_found (Some y) is rest = All-cons Q y (filter_map p xs) (each x y (All-head P x xs all) is) rest

-- what holds of each element holds of the first
pub first_of_all : {A : Type 0} (P : A → Type 0) (xs : List A) (x : A) → All P xs → first_element xs ≡ Some x → P x
first_of_all P [] x all is = cc
first_of_all P (y ∷ xs) x all is = subst P (same_Some y x is) (All-head P y xs all)
