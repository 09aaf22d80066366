-- How many evaluations a batch may take, be it prepared or installed.
use Rattle.std.specs.Prelude.{◌≡◌, ℕ, suc, ◌+◌, ◌*◌, ◌≤◌, ◌&&◌, Bool, true, false, cond, List, [], ◌∷◌, filter, length, sum_by}
use Rattle.std.specs.List.{range_with_len}
use Rattle.std.proofs.Common.{refl, sym, subst, ◌∙◌, arith}
use Rattle.std.proofs.lemmas.Bool.Decides.{nat_tests}
use Rattle.std.proofs.lemmas.List.FromFn.{length-range_with_len}
use Rattle.std.proofs.lemmas.List.Sums.{sum_by-cons}
use Rattle.jl_types.specs.declared.link.Link.{Link}
use Rattle.jl_types.specs.Values.World.{Classes, World}
use Rattle.jl_types.specs.Values.Members.{is_concrete}
use Rattle.jl_types.specs.Values.Ancestry.{is_ancestor}
use Rattle.jl_types.specs.Events.Batches.{is_bad_size}
use Rattle.jl_types.specs.declared.key.Key.{Key}
use Rattle.jl_types.specs.declared.key.Key.TheVariants as key
use Rattle.jl_types.specs.Events.Footprints.{footprint, most_by, most_for}
use Rattle.jl_types.specs.Events.Preparation.{ArePrepared}

pub no_more : {A : Type 0} (p : A → Bool) (xs : List A) → length (filter p xs) ≤ length xs
no_more p [] = omega arith
no_more {A = A} p (x ∷ xs) = by_test (p x) (no_more p xs)
  where
    by_test : (b : Bool) → length (filter p xs) ≤ length xs → length (cond {A = List A} b (x ∷ filter p xs) (filter p xs)) ≤ suc (length xs)
    by_test true h = omega arith
    by_test false h = omega arith

pub few_of_range : (p : ℕ → Bool) (n : ℕ) → length (filter p (range_with_len 0 n)) ≤ n
few_of_range p n = subst (λ k. length (filter p (range_with_len 0 n)) ≤ k) (length-range_with_len 0 n) (no_more p (range_with_len 0 n))

pub few_by : (cs : Classes) → length cs.rows ≤ 1048576 → (keys : List Key) → most_by cs keys ≤ 1048576
few_by cs few [] = omega arith
few_by cs few (key.Receivers c ∷ keys) =
    let le = few_of_range (λ x. is_concrete cs x && is_ancestor cs c x) (length cs.rows) in omega arith
few_by cs few (key.Target c ∷ keys) = omega arith
few_by cs few (key.Valid p ∷ keys) = omega arith

not_bad : (n : ℕ) → is_bad_size n ≡ false → n ≤ 256
not_bad n good = grind (arith, nat_tests)

module _ {A : Type 0} (site : A → ℕ) (w : World) (few : length w.classes.rows ≤ 1048576) where
  few_of_rows : (rows : List A) → sum_by (λ row. most_for w (site row)) rows ≤ length rows * 1048576
  few_of_rows [] = omega arith
  few_of_rows (row ∷ rows) =
      let split : sum_by (λ r. most_for w (site r)) (row ∷ rows) ≡ most_for w (site row) + sum_by (λ r. most_for w (site r)) rows =
      sum_by-cons (λ (r : A). most_for w (site r)) row rows
      in
      let one = few_by w.classes few (footprint w (site row)) in
      let rest = few_of_rows rows in
      omega arith

  pub rows_fit : (rows : List A) → is_bad_size (length rows) ≡ false → sum_by (λ row. most_for w (site row)) rows ≤ 268435456
  rows_fit rows good =
      let some = not_bad (length rows) good in
      let le = few_of_rows rows in
      omega arith

-- rows that were prepared take what their sites take
pub most_of_prepared : (w : World) (sites : List ℕ) (rows : List (ℕ × Link)) → ArePrepared w sites rows
    → sum_by (most_for w) sites ≡ sum_by (λ row. most_for w row.0) rows
most_of_prepared w [] [] h = refl
most_of_prepared w [] (row ∷ rows) h = absurd h
most_of_prepared w (s ∷ sites) [] h = absurd h
most_of_prepared w (s ∷ sites) (row ∷ rows) h =
    sum_by-cons (most_for w) s sites
    ∙ (λ i. most_for w (sym h.0.0 i) + most_of_prepared w sites rows h.1 i)
    ∙ sym (sum_by-cons (λ (r : ℕ × Link). most_for w r.0) row rows)
