-- What is found of one name more.
use Rattle.std.specs.Prelude.{◌≡◌, ℕ, ◌+◌, ◌<◌, List, [], ◌∷◌, ◌++◌, Option, Some, None, filter_map, take, get_or, length}
use Rattle.std.proofs.Common.{refl, ap, sym, ◌∙◌}
use Rattle.std.proofs.lemmas.List.{take_more, append-nil}
use Rattle.std.proofs.lemmas.List.Elements.{filter_map-append}

module _ {A : Type 0} (find : List ℕ → Option A) (names : List (List ℕ)) (n : ℕ) (name : List ℕ) (lt : n < length names) (is : name ≡ get_or names n name) where
  whole : filter_map find (take (n + 1) names) ≡ filter_map find (take n names) ++ filter_map find (name ∷ [])
  whole =
      ap (filter_map find) (take_more names n name lt)
      ∙ filter_map-append find (take n names) (get_or names n name ∷ [])
      ∙ ap (λ (k : List ℕ). filter_map find (take n names) ++ filter_map find (k ∷ [])) (sym is)

  pub found_more : (x : A) → find name ≡ Some x → filter_map find (take (n + 1) names) ≡ filter_map find (take n names) ++ x ∷ []
  found_more x e = whole ∙ rw e refl

  pub missed_more : find name ≡ None → filter_map find (take (n + 1) names) ≡ filter_map find (take n names)
  missed_more e = whole ∙ (rw e (append-nil (filter_map find (take n names))))
