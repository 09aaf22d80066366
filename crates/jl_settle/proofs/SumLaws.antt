-- A sum over some of a list's numbers.
use Rattle.std.specs.Prelude.{◌≡◌, ℕ, ◌+◌, ◌<◌, ◌≤◌, ◌==◌, ◌||◌, ◌⊎◌, Bool, true, false, List, [], ◌∷◌, sum_by}
use Rattle.std.specs.List.{AllByRecursion}
use Rattle.std.proofs.Common.{refl, ap, sym, ◌∙◌, arith, inl, inr}
use Rattle.std.proofs.lemmas.Bool.{cases_order, both_ways}
use Rattle.std.proofs.lemmas.Bool.Decides.{Decides-eqb}
use Rattle.std.proofs.lemmas.List.Sums.{sum_by-cons}
use Rattle.jl_hierarchy.specs.ForProofs.Kept.{Rises}
use Rattle.jl_hierarchy.proofs.Rising.{has, none_up_to}

number_turned : (x a : ℕ) → a < x → (x == a) ≡ false
number_turned x a lt = by_test (x == a) refl
  where
    by_test : (b : Bool) → (x == a) ≡ b → b ≡ false
    by_test true e = absurd (let same = (Decides-eqb x a).0 e in omega arith)
    by_test false e = refl

here : (y : ℕ) (ys : List ℕ) → has y (y ∷ ys) ≡ true
here y ys = ap (λ (b : Bool). b || has y ys) ((Decides-eqb y y).1 refl)

past : (z s : ℕ) (zs : List ℕ) → (z == s) ≡ false → has s (z ∷ zs) ≡ true → has s zs ≡ true
past z s zs other h = ap (λ (b : Bool). b || has s zs) (sym other) ∙ h

later : (z s : ℕ) (ys : List ℕ) → has s ys ≡ true → has s (z ∷ ys) ≡ true
later z s ys h = by_test (z == s)
  where
    by_test : (b : Bool) → (b || has s ys) ≡ true
    by_test true = refl
    by_test false = h

-- what stands after y in a rising list isn't y
no_head : (y s : ℕ) (ys : List ℕ) → AllByRecursion (λ k. y < k) ys → has s ys ≡ true → (y == s) ≡ false
no_head y s ys above h = by_test (y == s) refl
  where
    by_test : (b : Bool) → (y == s) ≡ b → b ≡ false
    by_test true is = absurd (both_ways (has s ys) (none_up_to y s ys above (let same = (Decides-eqb y s).0 is in omega arith)) h)
    by_test false is = refl

-- of a rising list within another the sum is no more
pub sum_within : (f : ℕ → ℕ) (ys zs : List ℕ) → Rises ys → Rises zs → ((s : ℕ) → has s ys ≡ true → has s zs ≡ true) → sum_by f ys ≤ sum_by f zs
sum_within f [] zs up up' h = omega arith
sum_within f (y ∷ ys) [] up up' h = absurd (both_ways false refl (h y (here y ys)))
sum_within f (y ∷ ys) (z ∷ zs) up up' h = by_order (cases_order z y) (sum_within f ys zs up.1 up'.1) (sum_within f (y ∷ ys) zs up up'.1)
  where
    both : z ≡ y → sum_by f ys ≤ sum_by f zs → sum_by f (y ∷ ys) ≤ sum_by f (z ∷ zs)
    both same le =
        let of_ys = sum_by-cons f y ys in
        let of_zs = sum_by-cons f z zs in
        let one = ap f same in
        omega (arith, le, of_ys, of_zs, one)

    longer : sum_by f (y ∷ ys) ≤ sum_by f zs → sum_by f (y ∷ ys) ≤ sum_by f (z ∷ zs)
    longer le = let of_zs = sum_by-cons f z zs in omega (arith, le, of_zs)

    below : z < y → (s : ℕ) → has s (y ∷ ys) ≡ true → (z == s) ≡ false
    below lt s among = by_test (z == s) refl
      where
        before : z ≡ s → has s (y ∷ ys) ≡ false
        before same = ap (λ (b : Bool). b || has s ys) (number_turned y s (omega arith)) ∙ none_up_to y s ys up.0 (omega arith)

        by_test : (b : Bool) → (z == s) ≡ b → b ≡ false
        by_test true is = absurd (both_ways (has s (y ∷ ys)) (before ((Decides-eqb z s).0 is)) among)
        by_test false is = refl

    by_order : ((z ≡ y) ⊎ ((z < y) ⊎ (y < z))) → (((s : ℕ) → has s ys ≡ true → has s zs ≡ true) → sum_by f ys ≤ sum_by f zs)
        → (((s : ℕ) → has s (y ∷ ys) ≡ true → has s zs ≡ true) → sum_by f (y ∷ ys) ≤ sum_by f zs) → sum_by f (y ∷ ys) ≤ sum_by f (z ∷ zs)
    by_order (inl same) rest all = both same (rest (λ s among.
        past z s zs (ap (λ (k : ℕ). k == s) same ∙ no_head y s ys up.0 among) (h s (later y s ys among))))
    by_order (inr (inl lt)) rest all = longer (all (λ s among. past z s zs (below lt s among) (h s among)))
    by_order (inr (inr gt)) rest all = absurd (both_ways (has y (z ∷ zs))
        (ap (λ (b : Bool). b || has y zs) (number_turned z y gt) ∙ none_up_to z y zs up'.0 (omega arith)) (h y (here y ys)))
