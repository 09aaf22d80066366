-- What the pairs of a plan come to, put together row by row.
use Rattle.std.specs.Prelude.{◌≡◌, ℕ, ◌+◌, ◌<◌, ◌^◌, ◌%◌, not, Bool, true, false, drop, get_or, List, [], ◌∷◌, ◌++◌, map, length, Some, Ok, All, if◌then◌else◌}
use Rattle.std.specs.List.{AllZip, AllByRecursion}
use Rattle.std.specs.Borrow.{Bor}
use Rattle.std.proofs.Common.{refl, ap, ◌∙◌}
use Rattle.std.proofs.lemmas.List.{map-append}
use Rattle.std.proofs.lemmas.List.Elements.{All-from_recursion}
use Rattle.rayon.specs.Lists.{enumerate_from}
use Rattle.jl_types.specs.declared.ids.MethodId.{MethodId}
use Rattle.jl_types.specs.declared.answer.Outcome.{Outcome}
use Rattle.jl_types.specs.declared.link.Link.TheVariants.{Direct}
use Rattle.jl_types.specs.declared.link.TableKind.{TableKind}
use Rattle.jl_types.specs.declared.link.TableKind.TheVariants.{Virtual, Interface}
use Rattle.jl_types.specs.Values.World.{World, Classes}
use Rattle.jl_types.specs.Values.Members.{is_private}
use Rattle.jl_types.specs.Values.Ancestry.{receivers}
use Rattle.jl_types.specs.Linkage.Links.{virtual_link, link_of}
use Rattle.jl_types.specs.Linkage.Stages.{Stage}
use Rattle.jl_types.specs.Events.Preparation.{ArePrepared}
use Rattle.jl_types.proofs.Lists.{rest_at}
use Rattle.jl_relink.specs.declared.selection.Selection.{Selection}
use Rattle.jl_relink.specs.declared.outline.Pair.{Pair}
use Rattle.jl_relink.specs.declared.outline.Outline.{Outline}
use Rattle.jl_relink.specs.declared.outline.Outline.TheVariants.{Known, Depends}
use Rattle.jl_relink.specs.Receivers.{IsSelection}
use Rattle.jl_relink.specs.ForProofs.Rows.{outcome_of, rows_of, link_by_rows, selected_link}
use Rattle.jl_relink.specs.ForProofs.Wide.{depends, link_with, link_of_plan, row_of_plan, IsThere, ArePlanned, pairs_with, pairs_in, pairs_of, looked_up}
use Rattle.jl_relink.proofs.StageLaws.{selects_link}

-- ---- what the receivers decide

module _ (cs : Classes) (named : ℕ) (m : MethodId) where
  abbrev invocation : TableKind → Selection
  invocation kind = record { kind = kind; named = named; method = m }

  by_receivers : (kind : TableKind) → depends cs (invocation kind) ≡ true → selected_link cs (invocation kind) ≡ link_of_plan cs (Depends (invocation kind))
  by_receivers Virtual h = by_privacy (is_private cs m) h
    where
      by_privacy : (b : Bool) → not b ≡ true
          → (if b then Direct (outcome_of cs (invocation Virtual) named) else virtual_link (rows_of cs (invocation Virtual) (receivers cs named)))
          ≡ virtual_link (rows_of cs (invocation Virtual) (receivers cs named))
      by_privacy true h = cc
      by_privacy false h = refl
  by_receivers Interface h = refl

-- the link of what selects by its receiver is the one by what the receivers come to
pub depends_link : (cs : Classes) (stage : Stage) (s : Selection) → IsSelection cs stage (Some s) → depends cs s ≡ true
    → link_of cs stage ≡ Ok (link_of_plan cs (Depends s))
depends_link cs stage s kept h = selects_link cs stage s kept ∙ ap Ok (by_receivers cs s.named s.method s.kind h)

-- ---- pairs

rows_from : (cs : Classes) (s : Selection) (xs : List ℕ) → map (looked_up cs) (pairs_with s xs) ≡ rows_of cs s xs
rows_from cs s [] = refl
rows_from cs s (x ∷ xs) = ap (λ (rows : List (ℕ × Outcome)). (x, outcome_of cs s x) ∷ rows) (rows_from cs s xs)

-- a row's link is the one by what its pairs come to
pub link_from : (cs : Classes) (p : Outline) → link_with p (map (looked_up cs) (pairs_in cs p)) ≡ link_of_plan cs p
link_from cs (Known link) = refl
link_from cs (Depends s) = ap (link_by_rows s.kind) (rows_from cs s (receivers cs s.named))

-- what the pairs of the rows from a place on come to
abbrev pub left : Classes → List (ℕ × Outline) → ℕ → List (ℕ × Outcome)
left cs plan i = map (looked_up cs) (pairs_of cs (drop i plan))

-- it begins with what the pairs of the row there come to
pub left_at : (cs : Classes) (plan : List (ℕ × Outline)) (i : ℕ) (row : ℕ × Outline) → i < length plan → row ≡ get_or plan i row
    → left cs plan i ≡ map (looked_up cs) (pairs_in cs row.1) ++ left cs plan (i + 1)
left_at cs plan i row lt is =
    ap (λ (rows : List (ℕ × Outline)). map (looked_up cs) (pairs_of cs rows)) (rest_at plan i row lt is)
    ∙ map-append (looked_up cs) (pairs_in cs row.1) (pairs_of cs (drop (i + 1) plan))

-- a place changes nothing
pub without_places : (R : Pair → ℕ × Outcome → Type 0) (at : ℕ) (seen : List (Bor Pair)) (rows : List (ℕ × Outcome))
    → AllZip (λ (s : ℕ × Bor Pair) row. R s.1.now row) (enumerate_from at seen) rows
    → AllZip (λ (z : Bor Pair) row. R z.now row) seen rows
without_places R at [] [] h = h
without_places R at [] (row ∷ rows) h = absurd h
without_places R at (z ∷ seen) [] h = absurd h
without_places R at (z ∷ seen) (row ∷ rows) h = (h.0, without_places R ((at + 1) % 2 ^ 64) seen rows h.1)

-- ---- rows

module _ (w : World) where
  -- the rows of a plan are prepared
  pub plan_prepared : (sites : List ℕ) (plan : List (ℕ × Outline)) → ArePlanned w sites plan → ArePrepared w sites (map (row_of_plan w.classes) plan)
  plan_prepared [] [] h = h
  plan_prepared [] (row ∷ plan) h = absurd h
  plan_prepared (s ∷ sites) [] h = absurd h
  plan_prepared (s ∷ sites) (row ∷ plan) h = ((h.0.0, h.0.1.0), plan_prepared sites plan h.1)

  each_there : (sites : List ℕ) (plan : List (ℕ × Outline)) → ArePlanned w sites plan → AllByRecursion (λ row. IsThere w.classes row.1) plan
  each_there [] [] h = tt
  each_there [] (row ∷ plan) h = absurd h
  each_there (s ∷ sites) [] h = absurd h
  each_there (s ∷ sites) (row ∷ plan) h = (h.0.1.1, each_there sites plan h.1)

  -- and their classes are there
  pub plan_there : (sites : List ℕ) (plan : List (ℕ × Outline)) → ArePlanned w sites plan → All (λ row. IsThere w.classes row.1) plan
  plan_there sites plan h = All-from_recursion (λ (row : ℕ × Outline). IsThere w.classes row.1) plan (each_there sites plan h)
