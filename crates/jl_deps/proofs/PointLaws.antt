-- The valid points of an invalidation.
use Rattle.std.specs.Prelude.{◌≡◌, ℕ, ◌<◌, ◌==◌, ◌&&◌, ◌||◌, Bool, true, false, cond, List, [], ◌∷◌, ◌++◌, filter, length, slice_get, Option, Some, None}
use Rattle.std.specs.Prelude.{option_and_then}
use Rattle.std.specs.List.{range_with_len}
use Rattle.std.specs.Option.{option_map_or}
use Rattle.std.specs.Bool.{one_answer}
use Rattle.std.proofs.Common.{refl, ap, sym, subst, ◌∙◌, arith}
use Rattle.std.proofs.lemmas.Bool.Decides.{Decides-eqb}
use Rattle.std.proofs.lemmas.Option.{slice_get_within}
use Rattle.std.proofs.lemmas.List.Folds.{list_any-append}
use Rattle.std.proofs.lemmas.Bool.{and_parts}
use Rattle.jl_types.specs.Values.World.{Sites}
use Rattle.jl_types.specs.Linkage.Targets.{is_valid}
use Rattle.jl_types.proofs.Bools.{Passing, any-filter, any-filter-at, any-range-from}
use Rattle.jl_hierarchy.specs.ForProofs.Kept.{Rises}
use Rattle.jl_hierarchy.proofs.Rising.{has, filter_rises}
use Rattle.jl_types.specs.Events.Footprints.{still_valid}

-- two filters are one
twice : (p q : ℕ → Bool) (xs : List ℕ) → filter p (filter q xs) ≡ filter (λ n. q n && p n) xs
twice p q [] = refl
twice p q (x ∷ xs) = by_tests (q x) (p x) refl refl (twice p q xs)
  where
    by_tests : (b d : Bool) → q x ≡ b → p x ≡ d → filter p (filter q xs) ≡ filter (λ n. q n && p n) xs
        → filter p (cond b (x ∷ filter q xs) (filter q xs)) ≡ cond (b && d) (x ∷ filter (λ n. q n && p n) xs) (filter (λ n. q n && p n) xs)
    by_tests true true e f rest = ap (λ (b : Bool). cond b (x ∷ filter p (filter q xs)) (filter p (filter q xs))) f ∙ ap (λ (ys : List ℕ). x ∷ ys) rest
    by_tests true false e f rest = ap (λ (b : Bool). cond b (x ∷ filter p (filter q xs)) (filter p (filter q xs))) f ∙ rest
    by_tests false d e f rest = rest

pub valid_rise : (sites : Sites) (points : List ℕ) → Rises (still_valid sites points)
valid_rise sites points =
    subst Rises (sym (twice (is_valid sites) (λ p. has p points) (range_with_len 0 (length sites.switches))))
    (filter_rises (λ n. has n points && is_valid sites n) 0 (length sites.switches))

there : (sites : Sites) (p : ℕ) → is_valid sites p ≡ true → p < length sites.switches
there sites p valid = by_slot (slice_get sites.switches p) refl valid
  where
    by_slot : (o : Option (Option Bool)) → slice_get sites.switches p ≡ o
        → option_map_or (λ valid. valid) (option_and_then (λ row. row) o) false ≡ true
        → p < length sites.switches
    by_slot None is e = cc
    by_slot (Some b) is e = slice_get_within sites.switches p b is

-- what a filter leaves of a range, where what passes is in the range
pub in_range : (p : ℕ → Bool) (n : ℕ) → ((s : ℕ) → p s ≡ true → s < n) → (s : ℕ) → has s (filter p (range_with_len 0 n)) ≡ p s
in_range p n within s = one_answer (has s (filter p (range_with_len 0 n))) (p s) (λ e. e, λ e. e) (back, forth)
  where
    back : p s ≡ true → has s (filter p (range_with_len 0 n)) ≡ true
    back h =
        let lt = within s h in
        any-filter-at p (λ k. k == s) s (range_with_len 0 n)
        (any-range-from (λ k. k == s) 0 n s (omega arith) (omega arith) ((Decides-eqb s s).1 refl)) h ((Decides-eqb s s).1 refl)

    forth : has s (filter p (range_with_len 0 n)) ≡ true → p s ≡ true
    forth h =
        let r : Passing p (λ k. k == s) = any-filter p (λ k. k == s) (range_with_len 0 n) h in
        ap p (sym ((Decides-eqb r.item s).0 r.passes)) ∙ r.meets

pub valid_has : (sites : Sites) (points : List ℕ) (p : ℕ) → has p (still_valid sites points) ≡ (has p points && is_valid sites p)
valid_has sites points p =
    ap (has p) (twice (is_valid sites) (λ n. has n points) (range_with_len 0 (length sites.switches)))
    ∙ in_range (λ n. has n points && is_valid sites n) (length sites.switches) (λ s e. there sites s (and_parts (has s points) (is_valid sites s) e).1) p

-- one point more, listed where it passes
pub listed_more : (test : ℕ → Bool) (next now old : Bool) (front : List ℕ) (site s : ℕ) → next ≡ (now || ((site == s) && test site))
    → now ≡ (old || (has s front && test s)) → next ≡ (old || (has s (front ++ site ∷ []) && test s))
listed_more test next now old front site s last before =
    last ∙ ap (λ (b : Bool). b || ((site == s) && test site)) before ∙ by_site (site == s) refl
    ∙ ap (λ (b : Bool). old || (b && test s)) (sym (list_any-append (λ t. t == s) front (site ∷ [])))
  where
    by_tests : (a b d : Bool) → ((a || (b && d)) || d) ≡ (a || ((b || true) && d))
    by_tests true b d = refl
    by_tests false true true = refl
    by_tests false true false = refl
    by_tests false false d = refl

    otherwise : (a b d : Bool) → ((a || (b && d)) || false) ≡ (a || ((b || false) && d))
    otherwise true b d = refl
    otherwise false true true = refl
    otherwise false true false = refl
    otherwise false false d = refl

    by_site : (b : Bool) → (site == s) ≡ b → ((old || (has s front && test s)) || (b && test site)) ≡ (old || ((has s front || (b || false)) && test s))
    by_site true is = ap (λ (b : Bool). (old || (has s front && test s)) || b) (ap test ((Decides-eqb site s).0 is)) ∙ by_tests old (has s front) (test s)
    by_site false is = otherwise old (has s front) (test s)
