-- Whether an event is accepted, and how many evaluations it takes to tell.
use Rattle.std.specs.Prelude.{◌≡◌, ℕ, List, Option, Result, Ok, Err, IsOk, map, sum_by}
use Rattle.jl_types.specs.Events.Event.{Event}
use Rattle.jl_types.specs.declared.event.EventOf.TheVariants as event
use Rattle.jl_types.specs.declared.event.Made.{Made}
use Rattle.jl_types.specs.declared.link.Link.{Link}
use Rattle.jl_types.specs.declared.refusal.Refusal.{Refusal}
use Rattle.jl_types.specs.Values.World.{World}
use Rattle.jl_types.specs.Linkage.Links.{scratch}
use Rattle.jl_types.specs.Events.Verdict.{row_fault}
use Rattle.jl_types.specs.Events.Footprints.{most_for}

-- the answer by the verdict: the event itself, or its refusal
abbrev pub IsJudged : Result Made Refusal → Event → Result Event Refusal → Type 0
IsJudged given e (Ok same) = (same ≡ e) × IsOk given
IsJudged given e (Err r) = given ≡ Err r

-- ---- installs

-- for each row its refusal, if the link isn't the one from scratch
abbrev pub row_faults : World → List (ℕ × Link) → List (Option Refusal)
row_faults w rows = map (λ row. row_fault row.0 row.1 (scratch w row.0)) rows

-- how many evaluations the rows may take
abbrev pub most_of_rows : World → List (ℕ × Link) → ℕ
most_of_rows w rows = sum_by (λ row. most_for w row.0) rows

-- how many evaluations it may take to judge the event: only the links of an install are looked up
abbrev pub most_to_judge : World → Event → ℕ
most_to_judge w (event.Install rows) = most_of_rows w rows
most_to_judge w _ = 0
