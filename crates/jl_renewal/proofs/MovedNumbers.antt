-- The numbers of a fresh core that stands beside the old one.
use Rattle.std.specs.Prelude.{◌≡◌, ℕ, zero, suc, ◌+◌, ◌<◌, ◌==◌, Bool, true, false, List, [], ◌∷◌, ◌++◌, map, length, slice_get}
use Rattle.std.specs.Prelude.{Option, Some, None, option_map, if◌then◌else◌}
use Rattle.std.specs.List.{range_with_len}
use Rattle.std.proofs.Common.{refl, sym, ap, ◌∙◌, arith}
use Rattle.std.proofs.lemmas.Bool.Decides.{Decides-eqb}
use Rattle.std.proofs.lemmas.List.{map_push}
use Rattle.std.proofs.lemmas.List.FromFn.{length-map-range_with_len}
use Rattle.std.proofs.lemmas.Option.{same_Some, slice_get_within}
use Rattle.jl_types.proofs.Lists.{range_end, element_at}
use Rattle.jl_renewal.specs.Numbers.{numbered, numbered_from}
use Rattle.jl_renewal.specs.Carries.{with_number}
use Rattle.jl_renewal.specs.Moved.{moved, numbers_there}
use Rattle.jl_renewal.proofs.MovedLists.{clash}

pub many_there : (stays : List Bool) (count : ℕ) → length (numbers_there stays count) ≡ count
many_there stays count = length-map-range_with_len (moved stays) 0 count

-- one number more
pub one_number_more : (stays : List Bool) (count : ℕ) → numbers_there stays (count + 1) ≡ numbers_there stays count ++ moved stays count ∷ []
one_number_more stays count =
    let at : 0 + count ≡ count = omega arith in
    ap (map (moved stays)) (range_end 0 count ∙ ap (λ (n : ℕ). range_with_len 0 count ++ n ∷ []) at)
    ∙ map_push (moved stays) (range_with_len 0 count) count

-- what is noted of one that is new
pub new_is_noted : (stays : List Bool) (count : ℕ) (new : Option ℕ) → moved stays count ≡ new
    → with_number (numbers_there stays count) count new ≡ numbers_there stays (count + 1)
new_is_noted stays count new is =
    ap (λ (b : Bool). if b then numbers_there stays count ++ new ∷ [] else numbers_there stays count)
    ((Decides-eqb count (length (numbers_there stays count))).1 (sym (many_there stays count)))
    ∙ (ap (λ (o : Option ℕ). numbers_there stays count ++ o ∷ []) (sym is) ∙ sym (one_number_more stays count))

-- and of one that was there
pub old_is_noted : (stays : List Bool) (count old : ℕ) (new : Option ℕ) → old < count
    → with_number (numbers_there stays count) old new ≡ numbers_there stays count
old_is_noted stays count old new lt =
    ap (λ (b : Bool). if b then numbers_there stays count ++ new ∷ [] else numbers_there stays count) (by_test (old == length (numbers_there stays count)) refl)
  where
    by_test : (b : Bool) → (old == length (numbers_there stays count)) ≡ b → b ≡ false
    by_test false e = refl
    by_test true e =
        let same = (Decides-eqb old (length (numbers_there stays count))).0 e in
        let many = many_there stays count in
        absurd (omega (arith, same, many, lt))

-- ---- the numbers of a renewal

pub mapped : {A : Type 0} (f : ℕ → A) (a n j : ℕ) → j < n → slice_get (map f (range_with_len a n)) j ≡ Some (f (a + j))
mapped f a zero j lt = absurd (omega (arith, lt))
mapped f a (suc n) zero lt = let same : a ≡ a + 0 = omega arith in ap (λ i. Some (f i)) same
mapped f a (suc n) (suc j) lt =
    let same : a + 1 + j ≡ a + suc j = omega arith in mapped f (a + 1) n j (omega (arith, lt)) ∙ ap (λ i. Some (f i)) same

numbered_at : (m : ℕ) (stays : List Bool) (j : ℕ) → slice_get (numbered_from m stays) j
    ≡ option_map (λ (b : Bool). option_map (λ (i : ℕ). m + i) (moved stays j)) (slice_get stays j)
numbered_at m [] j = refl
numbered_at m (true ∷ stays) zero = let same : m ≡ m + 0 = omega arith in ap (λ (i : ℕ). Some (Some i)) same
numbered_at m (false ∷ stays) zero = refl
numbered_at m (true ∷ stays) (suc j) =
    numbered_at (m + 1) stays j
    ∙ ap (λ (o : Option ℕ). option_map (λ (b : Bool). o) (slice_get stays j)) (up (moved stays j))
  where
    up : (o : Option ℕ) → option_map (λ (i : ℕ). m + 1 + i) o ≡ option_map (λ (i : ℕ). m + i) (option_map suc o)
    up None = refl
    up (Some i) = let same : m + 1 + i ≡ m + suc i = omega arith in ap Some same
numbered_at m (false ∷ stays) (suc j) = numbered_at m stays j

same_list : {A : Type 0} (xs ys : List A) → ((i : ℕ) → slice_get xs i ≡ slice_get ys i) → xs ≡ ys
same_list [] [] h = refl
same_list [] (y ∷ ys) h = clash y (h zero)
same_list (x ∷ xs) [] h = clash x (sym (h zero))
same_list (x ∷ xs) (y ∷ ys) h =
    let first = same_Some x y (h zero) in
    let rest = same_list xs ys (λ i. h (suc i)) in
    λ i. first i ∷ rest i

-- those that a renewal gives
pub numbered_there : (stays : List Bool) (count : ℕ) → length stays ≡ count → numbered stays ≡ numbers_there stays count
numbered_there stays count long = same_list (numbered stays) (numbers_there stays count) each
  where
    each : (j : ℕ) → slice_get (numbered stays) j ≡ slice_get (numbers_there stays count) j
    each j = numbered_at 0 stays j ∙ by_flag (slice_get stays j) refl
      where
        nothing : (o : Option ℕ) → option_map (λ (i : ℕ). 0 + i) o ≡ o
        nothing None = refl
        nothing (Some i) = let same : 0 + i ≡ i = omega arith in ap Some same

        by_flag : (o : Option Bool) → slice_get stays j ≡ o
            → option_map (λ (b : Bool). option_map (λ (i : ℕ). 0 + i) (moved stays j)) o ≡ slice_get (numbers_there stays count) j
        by_flag (Some b) is =
            let lt = slice_get_within stays j b is in
            let at : 0 + j ≡ j = omega arith in
            ap Some (nothing (moved stays j)) ∙ sym (mapped (moved stays) 0 count j (omega (arith, lt, long)) ∙ ap (λ (i : ℕ). Some (moved stays i)) at)
        by_flag None is = by_number (slice_get (numbers_there stays count) j) refl
          where
            by_number : (o : Option (Option ℕ)) → slice_get (numbers_there stays count) j ≡ o → None ≡ o
            by_number None e = refl
            by_number (Some x) e =
                let lt = slice_get_within (numbers_there stays count) j x e in
                let many = many_there stays count in
                let here = element_at stays j (omega (arith, lt, many, long)) in
                clash here.0 (sym is ∙ here.1)
