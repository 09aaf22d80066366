-- What no target names holds no loader.
use Rattle.std.specs.Prelude.{◌≡◌, ℕ, true, false, List, [], ◌∷◌, get_or, Option, Some, None}
use Rattle.std.specs.List.{list_any}
use Rattle.std.proofs.Common.{refl, inl, inr}
use Rattle.std.proofs.lemmas.Bool.{both_ways, or_cases, or_left, or_right}
use Rattle.std.proofs.lemmas.List.Folds.{list_any_at}
use Rattle.std.proofs.lemmas.List.Quantifiers.{position-Some}
use Rattle.jl_types.specs.Values.Target.{Target, Method, Guard, Invoker}
use Rattle.jl_types.specs.Values.World.{Classes, CallSite}
use Rattle.jl_types.specs.Events.Retirement.{is_listed, has_target, names_from, targeted}
use Rattle.jl_types.proofs.Retiring.{any_of_one}
use Rattle.jl_callsites.specs.Targeted.{names_any}

module _ (cs : Classes) (loaders : List ℕ) (l : ℕ) (there : is_listed loaders l ≡ true) where
  any_named : (t : Target) → names_from cs l t ≡ true → names_any cs loaders t ≡ true
  any_named (Method m) e = any_of_one cs loaders l m.class there e
  any_named (Guard p first fallback) e = elim (or_cases (names_from cs l first) (names_from cs l fallback) e) [
    | inl one ↦ or_left (names_any cs loaders first) (names_any cs loaders fallback) (any_named first one)
    | inr other ↦ or_right (names_any cs loaders first) (names_any cs loaders fallback) (any_named fallback other)
  ]
  any_named (Invoker c) e = cc

  any_row : (row : Option CallSite) → has_target (names_from cs l) row ≡ true → has_target (names_any cs loaders) row ≡ true
  any_row None e = cc
  any_row (Some site) e = any_named site.target e

  -- where no target names a class of one of the loaders, none holds this one
  pub spared : (rows : List (Option CallSite)) → list_any (has_target (names_any cs loaders)) rows ≡ false → targeted cs rows l ≡ None
  spared [] none = refl
  spared (first ∷ rows) none = by_place (targeted cs (first ∷ rows) l) refl
    where
      by_place : (o : Option ℕ) → targeted cs (first ∷ rows) l ≡ o → o ≡ None
      by_place None at = refl
      by_place (Some i) at =
          let one = position-Some (has_target (names_from cs l)) (first ∷ rows) i first at in
          absurd (both_ways (list_any (has_target (names_any cs loaders)) (first ∷ rows)) none
          (list_any_at (has_target (names_any cs loaders)) (first ∷ rows) i first one.0 (any_row (get_or (first ∷ rows) i first) one.1)))
