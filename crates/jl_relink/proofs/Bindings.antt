-- The call sites to which invokedynamics are bound, as their map has them.
use Rattle.std.specs.Prelude.{◌≡◌, ℕ, ◌==◌, Bool, true, false, cond, List, [], ◌∷◌, find, Some, option_map}
use Rattle.std.specs.List.{AllZip}
use Rattle.std.specs.Map.{lookup}
use Rattle.std.proofs.Common.{refl, ap, ◌∙◌}
use Rattle.std.proofs.lemmas.Cmp.{nat_eq_equiv}

-- each pair once more
pub pairs_same : (es fs : List (ℕ × ℕ)) → AllZip (λ e f. (f.0 ≡ e.0) × (f.1 ≡ e.1)) es fs → fs ≡ es
pairs_same [] [] h = refl
pairs_same [] (f ∷ fs) h = absurd h
pairs_same (e ∷ es) [] h = absurd h
pairs_same (e ∷ es) (f ∷ fs) h = λ i. (h.0.0 i, h.0.1 i) ∷ pairs_same es fs h.1 i

-- what a site is bound to is what the map has there
pub found_in_map : (s : ℕ) (entries : List (ℕ × ℕ)) → option_map (λ b. b.1) (find (λ b. b.0 == s) entries) ≡ lookup (λ k. s == k) entries
found_in_map s [] = refl
found_in_map s (e ∷ entries) =
    ap (λ (b : Bool). option_map (λ b. b.1) (cond b (Some e) (find (λ b. b.0 == s) entries))) (nat_eq_equiv.symm e.0 s)
    ∙ by_test (s == e.0) (found_in_map s entries)
  where
    by_test : (b : Bool) → option_map (λ b. b.1) (find (λ b. b.0 == s) entries) ≡ lookup (λ k. s == k) entries
        → option_map (λ b. b.1) (cond b (Some e) (find (λ b. b.0 == s) entries)) ≡ cond b (Some e.1) (lookup (λ k. s == k) entries)
    by_test true rest = refl
    by_test false rest = rest
