-- Lists that are made by their numbers.
use Rattle.std.specs.Prelude.{◌≡◌, ℕ, zero, suc, ◌+◌, List, [], ◌∷◌, ◌++◌, map, filter_map, take, get_or, slice_get, Option, Some, None, option_to_list}
use Rattle.std.specs.List.{cons_option, range_with_len}
use Rattle.std.proofs.Common.{refl, sym, ap, ◌∙◌, arith}
use Rattle.std.proofs.lemmas.List.Elements.{filter_map-append}
use Rattle.std.proofs.lemmas.List.FromFn.{map-range_with_len_more}
use Rattle.std.proofs.lemmas.Option.{same_Some, slice_get-get_or, slice_get_within}

-- one number more
pub one_number_more : {X : Type 0} (f : ℕ → X) (n : ℕ) (made more : List X)
    → made ≡ map f (range_with_len 0 n) → more ≡ made ++ f n ∷ [] → more ≡ map f (range_with_len 0 (n + 1))
one_number_more f n made more before one =
    one ∙ (ap (λ xs. xs ++ f n ∷ []) before ∙ sym (map-range_with_len_more f 0 n n (omega arith)))

same_again : (xs : List ℕ) → map (λ k. k) xs ≡ xs
same_again [] = refl
same_again (x ∷ xs) = ap (λ ys. x ∷ ys) (same_again xs)

pub numbers_more : (n : ℕ) → range_with_len 0 (n + 1) ≡ range_with_len 0 n ++ n ∷ []
numbers_more n =
    sym (same_again (range_with_len 0 (n + 1)))
    ∙ (map-range_with_len_more (λ k. k) 0 n n (omega arith) ∙ ap (λ xs. xs ++ n ∷ []) (same_again (range_with_len 0 n)))

-- one number more, of what some give
pub one_given_more : {X : Type 0} (f : ℕ → Option X) (n : ℕ) (made more : List X)
    → made ≡ filter_map f (range_with_len 0 n) → more ≡ made ++ option_to_list (f n) → more ≡ filter_map f (range_with_len 0 (n + 1))
one_given_more f n made more before one =
    one ∙ (ap (λ xs. xs ++ option_to_list (f n)) before
    ∙ (ap (λ xs. filter_map f (range_with_len 0 n) ++ xs) (sym (given (f n)))
    ∙ (sym (filter_map-append f (range_with_len 0 n) (n ∷ [])) ∙ ap (filter_map f) (sym (numbers_more n)))))
  where
    given : {Y : Type 0} (o : Option Y) → cons_option o [] ≡ option_to_list o
    given None = refl
    given (Some y) = refl

-- ---- a list that is gone over by its places

pub stands_there : {X : Type 0} (xs : List X) (i : ℕ) (x : X) → slice_get xs i ≡ Some x → x ≡ get_or xs i x
stands_there xs i x e =
    same_Some x (get_or xs i x) (sym e ∙ slice_get-get_or xs i x (slice_get_within xs i x e))

pub all_taken : {X : Type 0} (xs : List X) (n : ℕ) → slice_get xs n ≡ None → take n xs ≡ xs
all_taken [] zero e = refl
all_taken [] (suc n) e = refl
all_taken (x ∷ xs) zero e = cc
all_taken {X = X} (x ∷ xs) (suc n) e = ap (λ (left : List X). x ∷ left) (all_taken xs n e)
