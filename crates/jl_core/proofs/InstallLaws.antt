-- What an accepted install leaves installed.
use Rattle.std.specs.Prelude.{◌≡◌, ℕ, ◌==◌, ◌||◌, Bool, true, false, List, [], ◌∷◌, Option, Some, None, Ok, if◌then◌else◌}
use Rattle.std.specs.List.{list_any}
use Rattle.std.proofs.Common.{refl, ap, sym, ◌∙◌}
use Rattle.std.proofs.lemmas.Bool.Decides.{Decides-eqb}
use Rattle.std.proofs.lemmas.Option.{same_Some}
use Rattle.jl_types.specs.declared.link.Link.{Link}
use Rattle.jl_types.specs.Values.World.{World}
use Rattle.jl_types.specs.Linkage.Resolution.{first_of}
use Rattle.jl_types.specs.Linkage.Links.{scratch}
use Rattle.jl_types.specs.Events.Verdict.{row_fault, install_fault}
use Rattle.jl_types.specs.Events.History.{kept}
use Rattle.jl_types.proofs.Firsts.{first_none}
use Rattle.jl_types.proofs.Accepting.{linked, good_link}
use Rattle.jl_cache.specs.Links.{link_at, link_with}
use Rattle.jl_events.specs.Judging.{row_faults}
use Rattle.jl_events.proofs.InstallLaws.{each_good}
use Rattle.jl_core.specs.ForProofs.Changes.{AreScratch}
use Rattle.jl_core.proofs.KeptLaws.{kept_same, kept_once}

module _ (w : World) (s : ℕ) where
  same_site : (row : ℕ × Link) → scratch w row.0 ≡ Ok row.1 → (row.0 == s) ≡ true → scratch w s ≡ Ok row.1
  same_site row h e = ap (scratch w) (sym ((Decides-eqb row.0 s).0 e)) ∙ h

  installed_by : (before : Option Link) (rows : List (ℕ × Link)) → first_of (row_faults w rows) ≡ None
      → ((l : Link) → before ≡ Some l → scratch w s ≡ Ok l) → link_with rows before s ≡ kept (list_any (λ row. row.0 == s) rows) before (scratch w s)
  installed_by before [] e h = sym (kept_same before (scratch w s) h)
  installed_by before (row ∷ rows) e h =
      let parts = first_none (row_fault row.0 row.1 (scratch w row.0)) (row_faults w rows) e in
      by_test (row.0 == s) refl (good_link row.0 row.1 (scratch w row.0) parts.0) (λ link k. installed_by link rows parts.1 k)
    where
      either_way : (b : Bool) → scratch w s ≡ Ok row.1 → kept b (Some row.1) (scratch w s) ≡ kept true before (scratch w s)
      either_way b is = kept_once b (Some row.1) (scratch w s) row.1 refl is ∙ sym (ap (kept true before) is)

      by_test : (b : Bool) → (row.0 == s) ≡ b → scratch w row.0 ≡ Ok row.1
          → ((link : Option Link) → ((l : Link) → link ≡ Some l → scratch w s ≡ Ok l)
          → link_with rows link s ≡ kept (list_any (λ row. row.0 == s) rows) link (scratch w s))
          → link_with rows (if b then Some row.1 else before) s ≡ kept (b || list_any (λ row. row.0 == s) rows) before (scratch w s)
      by_test true is good rest =
          let now = same_site row good is in
          rest (Some row.1) (λ l f. now ∙ ap linked (same_Some row.1 l f)) ∙ either_way (list_any (λ row. row.0 == s) rows) now
      by_test false is good rest = rest before h

  pub install_keeps : (links rows : List (ℕ × Link)) → install_fault w rows ≡ None → AreScratch w links
      → link_with rows (link_at links s) s ≡ kept (list_any (λ row. row.0 == s) rows) (link_at links s) (scratch w s)
  install_keeps links rows e h = installed_by (link_at links s) rows (each_good w rows e) (h s)
