-- The verdict on an install, row by row.
use Rattle.std.specs.Prelude.{◌≡◌, ℕ, true, false, List, [], ◌∷◌, length, Some, None, map, option_map, Result, Ok}
use Rattle.std.specs.Bool.{then_some}
use Rattle.std.proofs.Common.{refl, ap, ◌∙◌}
use Rattle.jl_types.specs.declared.link.Link.{Link}
use Rattle.jl_types.specs.declared.answer.Unlinked.{Unlinked}
use Rattle.jl_types.specs.Linkage.Links.{same_link}
use Rattle.jl_types.specs.declared.refusal.Refusal.TheVariants as refusal
use Rattle.jl_types.specs.Values.World.{World}
use Rattle.jl_types.specs.Linkage.Resolution.{first_of}
use Rattle.jl_types.specs.Linkage.Links.{scratch}
use Rattle.jl_types.specs.Events.Batches.{is_bad_size, sites_fault}
use Rattle.jl_types.specs.Events.Verdict.{of_sites, row_fault, install_fault}
use Rattle.jl_types.proofs.Firsts.{first_none}
use Rattle.jl_events.specs.Judging.{row_faults}

-- an install with no fault has none in a row
pub each_good : (w : World) (rows : List (ℕ × Link)) → install_fault w rows ≡ None → first_of (row_faults w rows) ≡ None
each_good w rows e =
    let unknown = option_map of_sites (sites_fault w [] (map (λ row. row.0) rows)) in
    let links_faults = first_of (row_faults w rows) ∷ [] in
    let size = first_none (then_some (is_bad_size (length rows)) refusal.BatchSize) (unknown ∷ links_faults) e in
    let batch = first_none unknown links_faults size.1 in
    (first_none (first_of (row_faults w rows)) [] batch.1).0

first_row : (w : World) (row : ℕ × Link) (rows : List (ℕ × Link)) (r : Result Link Unlinked) → scratch w row.0 ≡ r
    → first_of (row_faults w (row ∷ rows)) ≡ first_of (row_fault row.0 row.1 r ∷ row_faults w rows)
first_row w row rows r e = ap (λ (r : Result Link Unlinked). first_of (row_fault row.0 row.1 r ∷ row_faults w rows)) e

pub stale_row : (w : World) (row : ℕ × Link) (rows : List (ℕ × Link)) (now : Link) → scratch w row.0 ≡ Ok now → same_link now row.1 ≡ false
    → first_of (row_faults w (row ∷ rows)) ≡ Some (refusal.Stale row.0 now)
stale_row w row rows now e d = first_row w row rows (Ok now) e ∙ rw d refl

pub good_row : (w : World) (row : ℕ × Link) (rows : List (ℕ × Link)) (now : Link) → scratch w row.0 ≡ Ok now → same_link now row.1 ≡ true
    → first_of (row_faults w (row ∷ rows)) ≡ first_of (row_faults w rows)
good_row w row rows now e d = first_row w row rows (Ok now) e ∙ rw d refl
