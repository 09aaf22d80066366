-- What is found of each invocation of a closed set of classes: its link from scratch among these classes and no others, or why it has none.
use Rattle.std.specs.Prelude.{ℕ, ◌+◌, List, [], ◌∷◌, ◌++◌, map, Option, Some, None, Result, Ok, Err}
use Rattle.std.specs.Bool.{then_some}
use Rattle.jl_class.specs.Class.{Method}
use Rattle.jl_class.specs.Site.{Site}
use Rattle.jl_class.specs.declared.site.Kind.{Kind}
use Rattle.jl_class.specs.declared.site.Operand.{Operand}
use Rattle.jl_types.specs.declared.ids.Place.{Place}
use Rattle.jl_types.specs.declared.key.Key.{Key}
use Rattle.jl_types.specs.declared.link.Link.{Link}
use Rattle.jl_types.specs.declared.answer.Unlinked.{Unlinked}
use Rattle.jl_types.specs.declared.refusal.NotLinkable.{NotLinkable}
use Rattle.jl_types.specs.declared.refusal.NotLinkable.TheVariants.{ArrayReceiver, PolymorphicSignature}
use Rattle.jl_types.specs.Values.World.{World, Classes}
use Rattle.jl_types.specs.Values.Members.{methods_of}
use Rattle.jl_types.specs.Linkage.Resolution.{first_of}
use Rattle.jl_types.specs.Linkage.Links.{scratch}
use Rattle.jl_types.specs.Events.Verdict.{names_array, is_polymorphic}
use Rattle.jl_types.specs.Events.Footprints.{footprint}
use Rattle.jl_relink.specs.Placed.{asking}
use Rattle.jl_report.specs.declared.row.Row.{Row}
use Rattle.jl_report.specs.declared.row.Finding.{Finding}
use Rattle.jl_report.specs.declared.row.Finding.TheVariants as finding
use Rattle.jl_report.specs.declared.invocation.Invocation.{Invocation}

-- ---- every invocation, once

-- why an invocation that names this is never linked, wherever it stands
abbrev pub never_linked : Operand (List ℕ) → Option NotLinkable
never_linked operand = first_of (
    then_some (names_array operand) ArrayReceiver
    ∷ then_some (is_polymorphic operand) PolymorphicSignature
    ∷ [])

-- the invocation in the method of this number of class c: where it stands, and its instruction
abbrev pub invocation_of : ℕ → ℕ → Site → Invocation
invocation_of c i site = record {
  place = record { class = c; method = i; pc = site.pc };
  kind = site.kind;
  never = never_linked site.operand;
}

-- those of the methods of class c from number i on
abbrev pub invocations_from : ℕ → ℕ → List Method → List Invocation
invocations_from c i [] = []
invocations_from c i (m ∷ ms) = map (invocation_of c i) m.sites ++ invocations_from c (i + 1) ms

-- those of class c, by method and pc, as its class file has them
abbrev pub invocations_in : Classes → ℕ → List Invocation
invocations_in cs c = invocations_from c 0 (methods_of cs c)

-- ---- what is found of them

abbrev pub found : Result Link Unlinked → Finding
found (Ok link) = finding.Linked link
found (Err reason) = finding.Unlinked reason

-- what is never linked isn't linkable; all else has its link from scratch, or the reason that there is none
abbrev pub finding_in : World → Option NotLinkable → Finding
finding_in w (Some reason) = finding.NotLinkable reason
finding_in w None = found (scratch w 0)

-- what its link rests on: nothing if it has none
abbrev pub rests_on : World → Finding → List Key
rests_on w (finding.Linked link) = footprint w 0
rests_on w (finding.Unlinked reason) = []
rests_on w (finding.NotLinkable reason) = []

-- the row of the world's only site, of which this is found
abbrev pub row_with : World → Place → Kind → Finding → Row
row_with w place kind found = record { place = place; kind = kind; finding = found; rests_on = rests_on w found }

-- what is found of the invocation, and what its link rests on
abbrev pub row_of : Classes → Invocation → Row
row_of cs invocation =
    row_with (asking cs invocation.place) invocation.place invocation.kind (finding_in (asking cs invocation.place) invocation.never)

abbrev pub rows_in : Classes → ℕ → List Row
rows_in cs c = map (row_of cs) (invocations_in cs c)
