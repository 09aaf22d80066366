-- The classes that a link from scratch names are present.
use Rattle.std.specs.Prelude.{◌≡◌, ℕ, zero, suc, nat_le, Bool, true, false, not, ⊤, All, List, [], ◌∷◌, map, length, Result, Ok, Err, if◌then◌else◌}
use Rattle.std.specs.Option.{option_map_or}
use Rattle.std.specs.List.{list_all}
use Rattle.std.specs.Prelude.{slice_get, Option, Some, None}
use Rattle.std.proofs.Common.{refl, sym, ap, ◌∙◌, arith}
use Rattle.std.proofs.lemmas.Bool.{and_from}
use Rattle.jl_types.specs.declared.ids.MethodId.{MethodId}
use Rattle.jl_types.specs.declared.ids.Place.{Place}
use Rattle.jl_types.specs.declared.answer.Outcome.{Outcome}
use Rattle.jl_types.specs.declared.answer.Outcome.TheVariants.{Run, Throws}
use Rattle.jl_types.specs.declared.answer.Unlinked.{Unlinked}
use Rattle.jl_types.specs.declared.answer.Unlinked.TheVariants.{Gone}
use Rattle.jl_types.specs.declared.link.Link.{Link}
use Rattle.jl_types.specs.declared.link.Link.TheVariants.{Fault, Plain, Direct, Table, Mega}
use Rattle.jl_types.specs.declared.link.TableKind.{TableKind}
use Rattle.jl_types.specs.declared.link.TableKind.TheVariants as table
use Rattle.jl_types.specs.Values.World.{World, Classes}
use Rattle.jl_types.specs.Values.Members.{is_present, is_private}
use Rattle.jl_types.specs.Values.Ancestry.{receivers}
use Rattle.jl_types.specs.Linkage.Selection.{virtual_outcome, interface_outcome, special_outcome}
use Rattle.jl_types.specs.Linkage.Stages.{Selector, ByVirtual, ByInterface, BySpecial, ResolvedCall, Stage, Waits, Fails, Calls, Selects}
use Rattle.jl_types.specs.Linkage.Stages.{invocation_at, stage_of, stage_at, stage}
use Rattle.jl_types.specs.Linkage.Links.{outcome_by, table_rows, table_or_mega, runs, virtual_link, link_by, link_of, scratch}
use Rattle.jl_renewal.specs.Numbers.{Numbers, renumbered}
use Rattle.jl_renewal.specs.Staying.{is_in_staying_class, has_lost_call_site, is_alive}
use Rattle.jl_renewal.proofs.Fit.{IsFit}
use Rattle.jl_renewal.proofs.Alike.{AreAlike}
use Rattle.jl_renewal.proofs.AlikeSites.{SitesAlike}
use Rattle.jl_renewal.proofs.SelectionLaws.{virtual_present, interface_present, special_present}
use Rattle.jl_renewal.proofs.StageLaws.{IsCallThere, IsStageThere, stage_there, lost_is_gone, lost_waits}

abbrev Row : Type 0
Row = ℕ × Outcome

-- the classes that it names are present
abbrev pub IsOutcomeThere : Classes → Outcome → Type 0
IsOutcomeThere cs (Run m) = is_present cs m.class ≡ true
IsOutcomeThere cs (Throws throwable) = ⊤

abbrev pub AreRowsThere : Classes → List (ℕ × Outcome) → Type 0
AreRowsThere cs [] = ⊤
AreRowsThere cs (row ∷ rows) = (is_present cs row.0 ≡ true) × IsOutcomeThere cs row.1 × AreRowsThere cs rows

abbrev pub IsLinkThere : Classes → Link → Type 0
IsLinkThere cs (Fault throwable) = ⊤
IsLinkThere cs (Plain m) = is_present cs m.class ≡ true
IsLinkThere cs (Direct outcome) = IsOutcomeThere cs outcome
IsLinkThere cs (Table kind rows) = AreRowsThere cs rows
IsLinkThere cs Mega = ⊤

-- of a link, if there is one
abbrev pub IsResultThere : Classes → Result Link Unlinked → Type 0
IsResultThere cs (Ok l) = IsLinkThere cs l
IsResultThere cs (Err reason) = ⊤

module _ (n : Numbers) (cs ds : Classes) (alike : AreAlike n cs ds) (call : ResolvedCall) (there : IsCallThere cs call) where
  of_runs : (o : Outcome) → ((m : MethodId) → o ≡ Run m → is_present cs m.class ≡ true) → IsOutcomeThere cs o
  of_runs (Run m) present = present m refl
  of_runs (Throws throwable) present = tt

  -- what the call comes to for a receiver
  outcome_there : (selector : Selector) (x : ℕ) → is_present cs x ≡ true → IsOutcomeThere cs (outcome_by cs call selector x)
  outcome_there ByVirtual x at = of_runs (virtual_outcome cs x call.method) (virtual_present n cs ds alike x call.method at there.method)
  outcome_there ByInterface x at =
      of_runs (interface_outcome cs x call.named call.method) (interface_present n cs ds alike x call.named call.method at there.method)
  outcome_there BySpecial x at =
      of_runs (special_outcome cs call.caller call.named call.ref)
      (special_present n cs ds alike call.caller call.named call.ref there.caller there.named)

  rows_by_there : (selector : Selector) (xs : List ℕ) → All (λ x. is_present cs x ≡ true) xs
      → AreRowsThere cs (map (λ x. (x, outcome_by cs call selector x)) xs)
  rows_by_there selector [] all = tt
  rows_by_there selector (x ∷ xs) all =
      let first = all zero x (omega arith) in
      (first, outcome_there selector x first, rows_by_there selector xs (λ k d lt. all (suc k) d (omega (arith, lt))))

  rows_there : AreRowsThere cs (table_rows cs call)
  rows_there = rows_by_there call.selector (receivers cs call.named) (alike.below_present call.named)

  table_there : (kind : TableKind) (rows : List Row) → AreRowsThere cs rows → IsLinkThere cs (table_or_mega kind rows)
  table_there kind rows all = by_test (nat_le (length rows) 8)
    where
      by_test : (b : Bool) → IsLinkThere cs (if b then Table kind rows else Mega)
      by_test true = all
      by_test false = tt

  virtual_link_there : (rows : List Row) → AreRowsThere cs rows → IsLinkThere cs (virtual_link rows)
  virtual_link_there [] all = tt
  virtual_link_there ((x, Throws throwable) ∷ rows) all = table_there table.Virtual ((x, Throws throwable) ∷ rows) all
  virtual_link_there ((x, Run m) ∷ rows) all = by_test (list_all (λ row. runs m row.1) rows)
    where
      by_test : (b : Bool) → IsLinkThere cs (if b then Direct (Run m) else table_or_mega table.Virtual ((x, Run m) ∷ rows))
      by_test true = all.1
      by_test false = table_there table.Virtual ((x, Run m) ∷ rows) all

  link_by_there : (selector : Selector) → IsLinkThere cs (link_by cs call selector)
  link_by_there ByVirtual = by_test (is_private cs call.method)
    where
      by_test : (b : Bool) → IsLinkThere cs (if b then Direct (virtual_outcome cs call.named call.method) else virtual_link (table_rows cs call))
      by_test true = outcome_there ByVirtual call.named there.named
      by_test false = virtual_link_there (table_rows cs call) rows_there
  link_by_there ByInterface = table_there table.Interface (table_rows cs call) rows_there
  link_by_there BySpecial = outcome_there BySpecial call.named there.named

module _ (n : Numbers) (w v : World) (stays : ℕ → Bool) (same : SitesAlike n w v stays) where
  result_there : (t : Stage) → IsStageThere w.classes t → IsResultThere w.classes (link_of w.classes t)
  result_there (Waits reason) there = tt
  result_there (Fails throwable) there = tt
  result_there (Calls m) there = there
  result_there (Selects i) there = link_by_there n w.classes v.classes same.alike i there i.selector

  -- each class that a site's link from scratch names is present
  pub scratch_there : (s : ℕ) → IsResultThere w.classes (scratch w s)
  scratch_there s = result_there (stage w s) (stage_there n w v stays same s)

-- a site that has a link from scratch is in a present class
pub linked_in_class : (w : World) (s : ℕ) (l : Link) → scratch w s ≡ Ok l → is_in_staying_class w s ≡ true
linked_in_class w s l is = by_place (slice_get w.places s) is
  where
    by_test : (place : Place) (t : Bool)
        → link_of w.classes (if t then stage_of w s place.class (invocation_at w.classes place) else Waits Gone) ≡ Ok l → t ≡ true
    by_test place true e = refl
    by_test place false e = cc

    by_place : (o : Option Place) → link_of w.classes (stage_at w s o) ≡ Ok l → option_map_or (λ place. is_present w.classes place.class) o false ≡ true
    by_place None e = cc
    by_place (Some place) e = by_test place (is_present w.classes place.class) e

-- that isn't gone
pub linked_alive : (w : World) → IsFit w → (s : ℕ) (l : Link) → scratch w s ≡ Ok l → is_alive w s ≡ true
linked_alive w fit s l is =
    let kept = linked_in_class w s l is in
    and_from (is_in_staying_class w s) _ kept (ap not (by_call_site kept (has_lost_call_site w s) refl))
  where
    by_call_site : is_in_staying_class w s ≡ true → (b : Bool) → has_lost_call_site w s ≡ b → b ≡ false
    by_call_site kept false lost = refl
    by_call_site kept true lost = unlinked (sym (ap (link_of w.classes) (lost_is_gone w fit s kept lost)) ∙ is)
      where
        unlinked : ◌≡◌ {A = Result Link Unlinked} (Err Gone) (Ok l) → true ≡ false
        unlinked e = cc

-- nor is it gone in the old world where it has one in the fresh one
pub linked_there_alive : (n : Numbers) (w v : World) (stays : ℕ → Bool) → SitesAlike n w v stays → (s : ℕ) (l : Link) → is_in_staying_class w s ≡ true
    → scratch v (renumbered n.sites s) ≡ Ok l → is_alive w s ≡ true
linked_there_alive n w v stays same s l kept is =
    and_from (is_in_staying_class w s) _ kept (ap not (by_call_site (has_lost_call_site w s) refl))
  where
    by_call_site : (b : Bool) → has_lost_call_site w s ≡ b → b ≡ false
    by_call_site false lost = refl
    by_call_site true lost =
        let waits = lost_waits n w v stays same s kept lost in unlinked waits.0 (sym (ap (link_of v.classes) waits.1) ∙ is)
      where
        unlinked : (reason : Unlinked) → ◌≡◌ {A = Result Link Unlinked} (Err reason) (Ok l) → true ≡ false
        unlinked reason e = cc
