-- An install of links that were prepared in the same world is accepted.
use Rattle.std.specs.Prelude.{◌≡◌, ℕ, Bool, false, List, [], ◌∷◌, map, length, Option, Some, None, option_map, IsOk, Ok, if◌then◌else◌}
use Rattle.std.specs.Bool.{then_some}
use Rattle.std.proofs.Common.{refl, ap, sym, subst, ◌∙◌}
use Rattle.std.proofs.lemmas.List.{length-map}
use Rattle.jl_types.specs.declared.event.EventOf.TheVariants as event
use Rattle.jl_types.specs.declared.event.Made.TheVariants as made
use Rattle.jl_types.specs.declared.limits.Limits.{Limits}
use Rattle.jl_types.specs.declared.link.Link.{Link}
use Rattle.jl_types.specs.declared.refusal.PrepareFault.TheVariants as fault
use Rattle.jl_types.specs.declared.refusal.Refusal.{Refusal}
use Rattle.jl_types.specs.declared.refusal.Refusal.TheVariants as refusal
use Rattle.jl_types.specs.declared.refusal.SitesFault.{SitesFault}
use Rattle.jl_types.specs.Values.World.{World}
use Rattle.jl_types.specs.Linkage.Links.{scratch}
use Rattle.jl_types.specs.Linkage.Resolution.{first_of}
use Rattle.jl_types.specs.ForProofs.SameLink.{link_decides}
use Rattle.jl_types.specs.Events.Batches.{is_bad_size, sites_fault}
use Rattle.jl_types.specs.Events.Verdict.{row_fault, install_fault, unless, verdict}
use Rattle.jl_types.specs.Events.Verdict as events
use Rattle.jl_types.specs.Events.Preparation.{prepare_fault, ArePrepared}
use Rattle.jl_types.specs.Events.Preparation as preparation
use Rattle.jl_types.proofs.Firsts.{first_none, test_none}

pub prepared_sites : (w : World) (sites : List ℕ) (rows : List (ℕ × Link)) → ArePrepared w sites rows → map (λ row. row.0) rows ≡ sites
prepared_sites w [] [] prepared = refl
prepared_sites w [] (row ∷ rows) prepared = absurd prepared
prepared_sites w (s ∷ sites) [] prepared = absurd prepared
prepared_sites w (s ∷ sites) (row ∷ rows) prepared = λ i. prepared.0.0 i ∷ prepared_sites w sites rows prepared.1 i

no_row_fault : (w : World) (sites : List ℕ) (rows : List (ℕ × Link)) → ArePrepared w sites rows
    → first_of (map (λ row. row_fault row.0 row.1 (scratch w row.0)) rows) ≡ None
no_row_fault w [] [] prepared = refl
no_row_fault w [] (row ∷ rows) prepared = absurd prepared
no_row_fault w (s ∷ sites) [] prepared = absurd prepared
no_row_fault w (s ∷ sites) (row ∷ rows) prepared =
    let now : scratch w row.0 ≡ Ok row.1 = ap (scratch w) prepared.0.0 ∙ prepared.0.1 in
    let fine : row_fault row.0 row.1 (scratch w row.0) ≡ None =
    ap (row_fault row.0 row.1) now ∙ ap (λ (b : Bool). if b then None else Some (refusal.Stale row.0 row.1)) ((link_decides row.1 row.1).1 refl) in
    ap (λ (o : Option Refusal). first_of (o ∷ map (λ r. row_fault r.0 r.1 (scratch w r.0)) rows)) fine ∙ no_row_fault w sites rows prepared.1

no_sites : (o : Option SitesFault) → option_map preparation.of_sites o ≡ None → o ≡ None
no_sites None e = refl
no_sites (Some f) e = cc

module _ (w : World) (sites : List ℕ) (rows : List (ℕ × Link)) (none : prepare_fault w sites ≡ None) (prepared : ArePrepared w sites rows) where
  good_size : is_bad_size (length rows) ≡ false
  good_size =
      let size = first_none (then_some (is_bad_size (length sites)) fault.BatchSize) _ none in
      ap is_bad_size (sym (length-map rows (λ (row : ℕ × Link). row.0)) ∙ ap length (prepared_sites w sites rows prepared))
      ∙ test_none (is_bad_size (length sites)) fault.BatchSize size.0

  -- the rows have no fault where they were prepared
  pub no_install_fault : install_fault w rows ≡ None
  no_install_fault =
      let size = first_none (then_some (is_bad_size (length sites)) fault.BatchSize) _ none in
      let known = first_none (option_map preparation.of_sites (sites_fault w [] sites)) _ size.1 in
      let sites_are : sites_fault w [] (map (λ row. row.0) rows) ≡ None =
      ap (sites_fault w []) (prepared_sites w sites rows prepared) ∙ no_sites (sites_fault w [] sites) known.0 in
      let fine = no_row_fault w sites rows prepared in
      λ i. first_of (then_some (good_size i) refusal.BatchSize ∷ option_map events.of_sites (sites_are i) ∷ fine i ∷ [])

  pub accepted_prepared : (m : Limits) → IsOk (verdict m w (event.Install rows))
  accepted_prepared m = subst (λ (o : Option Refusal). IsOk (unless o made.Nothing)) (sym no_install_fault) refl
