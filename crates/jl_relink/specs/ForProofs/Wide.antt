-- What is listed for several threads to look at. A means of proof.
use Rattle.std.specs.Prelude.{◌≡◌, ◌<◌, ℕ, not, nat_le, Bool, List, [], map, flat_map, length, Ok}
use Rattle.std.specs.List.{AllZip}
use Rattle.jl_types.specs.declared.answer.Outcome.{Outcome}
use Rattle.jl_types.specs.declared.link.Link.{Link}
use Rattle.jl_types.specs.declared.link.TableKind.{TableKind}
use Rattle.jl_types.specs.declared.link.TableKind.TheVariants.{Virtual, Interface}
use Rattle.jl_types.specs.Values.World.{World, Classes}
use Rattle.jl_types.specs.Values.Members.{is_private}
use Rattle.jl_types.specs.Values.Ancestry.{receivers}
use Rattle.jl_types.specs.Linkage.Links.{scratch}
use Rattle.jl_relink.specs.declared.selection.Selection.{Selection}
use Rattle.jl_relink.specs.declared.outline.Pair.{Pair}
use Rattle.jl_relink.specs.declared.outline.Outline.{Outline}
use Rattle.jl_relink.specs.declared.outline.Outline.TheVariants.{Known, Depends}
use Rattle.jl_relink.specs.ForProofs.Rows.{outcome_of, rows_of, link_by_rows}

-- ---- rows

abbrev pub depends_by : Classes → Selection → TableKind → Bool
depends_by cs s Virtual = not (is_private cs s.method)
depends_by cs s Interface = nat_le (length (receivers cs s.named)) 8

-- the outcomes of the receivers decide the link
abbrev pub depends : Classes → Selection → Bool
depends cs s = depends_by cs s s.kind

abbrev pub depends_on : Selection → Outline
depends_on s = Depends s

-- a row's link, by what its pairs come to
abbrev pub link_with : Outline → List (ℕ × Outcome) → Link
link_with (Known link) rows = link
link_with (Depends s) rows = link_by_rows s.kind rows

-- the link of a row of the plan, by the classes
abbrev pub link_of_plan : Classes → Outline → Link
link_of_plan cs (Known link) = link
link_of_plan cs (Depends s) = link_by_rows s.kind (rows_of cs s (receivers cs s.named))

abbrev pub row_of_plan : Classes → ℕ × Outline → ℕ × Link
row_of_plan cs row = (row.0, link_of_plan cs row.1)

-- the class whose receivers decide is there
abbrev pub IsThere : Classes → Outline → Type 0
IsThere cs (Known link) = Unit {0}
IsThere cs (Depends s) = s.named < length cs.rows

abbrev pub IsPlanned : World → ℕ → Outline → Type 0
IsPlanned w site planned = (scratch w site ≡ Ok (link_of_plan w.classes planned)) × IsThere w.classes planned

abbrev pub ArePlanned : World → List ℕ → List (ℕ × Outline) → Type 0
ArePlanned w sites plan = AllZip (λ s row. (row.0 ≡ s) × IsPlanned w s row.1) sites plan

-- ---- pairs

abbrev pub pair_of : Selection → ℕ → Pair
pair_of s x = record { selection = s; receiver = x }

abbrev pub pairs_with : Selection → List ℕ → List Pair
pairs_with s xs = map (pair_of s) xs

-- a row's pairs
abbrev pub pairs_in : Classes → Outline → List Pair
pairs_in cs (Known link) = []
pairs_in cs (Depends s) = pairs_with s (receivers cs s.named)

-- the pairs of all rows
abbrev pub pairs_of : Classes → List (ℕ × Outline) → List Pair
pairs_of cs plan = flat_map (λ row. pairs_in cs row.1) plan

-- the receiver of a pair, with its outcome
abbrev pub looked_up : Classes → Pair → ℕ × Outcome
looked_up cs p = (p.receiver, outcome_of cs p.selection p.receiver)
