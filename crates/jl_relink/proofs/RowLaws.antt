-- Receivers are there, and what they run tells the link of an invokevirtual.
use Rattle.std.specs.Prelude.{◌≡◌, ℕ, zero, suc, ◌+◌, ◌<◌, ◌≤◌, ◌&&◌, Bool, true, false, List, [], ◌∷◌, length, Some, None, option_and_then, All, if◌then◌else◌}
use Rattle.std.specs.List.{AllByRecursion, list_all, range_with_len}
use Rattle.std.proofs.Common.{refl, ap, sym, ◌∙◌, arith}
use Rattle.std.proofs.lemmas.List.Elements.{All-filter, All-from_recursion}
use Rattle.jl_types.specs.declared.ids.MethodId.{MethodId}
use Rattle.jl_types.specs.declared.answer.Outcome.{Outcome}
use Rattle.jl_types.specs.declared.answer.Outcome.TheVariants.{Run, Throws}
use Rattle.jl_types.specs.declared.link.Link.TheVariants.{Direct}
use Rattle.jl_types.specs.declared.link.TableKind.TheVariants.{Virtual}
use Rattle.jl_types.specs.Values.World.{Classes}
use Rattle.jl_types.specs.Values.Members.{is_concrete}
use Rattle.jl_types.specs.Values.Ancestry.{receivers, is_ancestor}
use Rattle.jl_types.specs.Linkage.Links.{runs, virtual_link, table_or_mega}
use Rattle.jl_relink.specs.ForProofs.Rows.{run_on}

below : (a n m : ℕ) → a + n ≤ m → AllByRecursion (λ x. x < m) (range_with_len a n)
below a zero m h = tt
below a (suc n) m h = (omega arith, below (a + 1) n m (omega arith))

pub receivers_there : (cs : Classes) (c : ℕ) → All (λ x. x < length cs.rows) (receivers cs c)
receivers_there cs c =
    All-filter (λ x. is_concrete cs x && is_ancestor cs c x) (λ x. x < length cs.rows) (range_with_len 0 (length cs.rows))
    (All-from_recursion (λ x. x < length cs.rows) (range_with_len 0 (length cs.rows)) (below 0 (length cs.rows) (length cs.rows) (omega arith)))

-- ---- the method that all of them run

run_of : (m : MethodId) (rows : List (ℕ × Outcome)) → run_on (Some m) rows ≡ (if list_all (λ row. runs m row.1) rows then Some m else None)
run_of m [] = refl
run_of m ((x, Throws t) ∷ rows) = refl
run_of m ((x, Run n) ∷ rows) = by_test (runs m (Run n)) (run_of m rows)
  where
    by_test : (b : Bool) → run_on (Some m) rows ≡ (if list_all (λ row. runs m row.1) rows then Some m else None)
        → option_and_then (λ k. run_on (Some k) rows) (if b then Some m else None)
        ≡ (if b && list_all (λ row. runs m row.1) rows then Some m else None)
    by_test true ih = ih
    by_test false ih = refl

pub one_run : (rows : List (ℕ × Outcome)) (m : MethodId) → run_on None rows ≡ Some m → virtual_link rows ≡ Direct (Run m)
one_run [] m e = cc
one_run ((x, Throws t) ∷ rows) m e = cc
one_run ((x, Run n) ∷ rows) m e = by_test (list_all (λ row. runs n row.1) rows) (sym (run_of n rows) ∙ e)
  where
    inside : (a b : MethodId) → Some a ≡ Some b → a ≡ b
    inside a b e = cc

    by_test : (b : Bool) → (if b then Some n else None) ≡ Some m → (if b then Direct (Run n) else table_or_mega Virtual ((x, Run n) ∷ rows)) ≡ Direct (Run m)
    by_test true h = ap (λ (k : MethodId). Direct (Run k)) (inside n m h)
    by_test false h = cc

pub no_run : (rows : List (ℕ × Outcome)) → run_on None rows ≡ None → virtual_link rows ≡ table_or_mega Virtual rows
no_run [] e = refl
no_run ((x, Throws t) ∷ rows) e = refl
no_run ((x, Run n) ∷ rows) e = by_test (list_all (λ row. runs n row.1) rows) (sym (run_of n rows) ∙ e)
  where
    by_test : (b : Bool) → (if b then Some n else None) ≡ None
        → (if b then Direct (Run n) else table_or_mega Virtual ((x, Run n) ∷ rows)) ≡ table_or_mega Virtual ((x, Run n) ∷ rows)
    by_test true h = cc
    by_test false h = refl
