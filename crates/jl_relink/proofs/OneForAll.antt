-- The receivers of a class below which one method runs.
use Rattle.std.specs.Prelude.{◌≡◌, ℕ, ◌==◌, ◌&&◌, Bool, true, false, cond, List, [], ◌∷◌, filter, length, Some, None, option_and_then, if◌then◌else◌}
use Rattle.std.specs.List.{AllByRecursion}
use Rattle.std.proofs.Common.{refl, ap, sym, subst, ◌∙◌}
use Rattle.std.proofs.lemmas.Bool.{and_parts}
use Rattle.std.proofs.lemmas.Cmp.{nat_eq_equiv}
use Rattle.jl_types.specs.declared.ids.MethodId.{MethodId}
use Rattle.jl_types.specs.declared.answer.Outcome.{Outcome}
use Rattle.jl_types.specs.declared.answer.Outcome.TheVariants.{Run}
use Rattle.jl_types.specs.Values.World.{Classes}
use Rattle.jl_types.specs.Values.Members.{numbers, is_concrete}
use Rattle.jl_types.specs.Values.Ancestry.{receivers, is_ancestor}
use Rattle.jl_types.specs.Linkage.Links.{runs}
use Rattle.jl_relink.specs.declared.selection.Selection.{Selection}
use Rattle.jl_relink.specs.ForProofs.Rows.{run_on, joined, rows_of, outcome_of}

all_pass : (P : ℕ → Type 0) (test : ℕ → Bool) → ((x : ℕ) → test x ≡ true → P x) → (xs : List ℕ) → AllByRecursion P (filter test xs)
all_pass P test h [] = tt
all_pass P test h (x ∷ xs) = by_test (test x) refl (all_pass P test h xs)
  where
    by_test : (b : Bool) → test x ≡ b → AllByRecursion P (filter test xs) → AllByRecursion P (cond b (x ∷ filter test xs) (filter test xs))
    by_test true e rest = (h x e, rest)
    by_test false e rest = rest

module _ (cs : Classes) (s : Selection) (m : MethodId) where
  abbrev RunsIt : ℕ → Type 0
  RunsIt x = outcome_of cs s x ≡ Run m

  itself : runs m (Run m) ≡ true
  itself = ap (λ (b : Bool). b && (m.index == m.index)) (nat_eq_equiv.refl m.class) ∙ nat_eq_equiv.refl m.index

  run_again : (xs : List ℕ) → AllByRecursion RunsIt xs → run_on (Some m) (rows_of cs s xs) ≡ Some m
  run_again [] all = refl
  run_again (x ∷ xs) all =
      ap (λ (o : Outcome). option_and_then (λ k. run_on (Some k) (rows_of cs s xs)) (joined (Some m) o)) all.0
      ∙ ap (λ (b : Bool). option_and_then (λ k. run_on (Some k) (rows_of cs s xs)) (if b then Some m else None)) itself
      ∙ run_again xs all.1

  run_all : (xs : List ℕ) → AllByRecursion RunsIt xs → (length xs == 0) ≡ false → run_on None (rows_of cs s xs) ≡ Some m
  run_all [] all some = cc
  run_all (x ∷ xs) all some =
      ap (λ (o : Outcome). option_and_then (λ k. run_on (Some k) (rows_of cs s xs)) (joined None o)) all.0 ∙ run_again xs all.1

  -- of all receivers
  pub one_for_all : ((x : ℕ) → is_ancestor cs s.named x ≡ true → RunsIt x) → (xs : List ℕ) → xs ≡ receivers cs s.named → (length xs == 0) ≡ false
      → Some m ≡ run_on None (rows_of cs s xs)
  one_for_all h xs are some =
      sym
      (run_all xs
      (subst (AllByRecursion RunsIt) (sym are)
      (all_pass RunsIt (λ x. is_concrete cs x && is_ancestor cs s.named x) (λ x e. h x (and_parts (is_concrete cs x) (is_ancestor cs s.named x) e).1)
      (numbers cs)))
      some)
