-- How many invocations of each instruction have which shape.
use Rattle.std.specs.Prelude.{◌≡◌, ℕ, ◌+◌, ◌-◌, ◌*◌, ◌^◌, min, Bool, ◌==◌, List, [], ◌∷◌, filter, length, get_or}
use Rattle.jl_class.specs.declared.site.Kind.{Kind}
use Rattle.jl_class.specs.declared.site.Kind.TheVariants.{Virtual, Special, Static, Interface, Dynamic}
use Rattle.jl_types.specs.declared.answer.Outcome.TheVariants.{Run, Throws}
use Rattle.jl_types.specs.declared.answer.Unlinked.{Unlinked}
use Rattle.jl_types.specs.declared.answer.Unlinked.TheVariants as unlinked
use Rattle.jl_types.specs.declared.link.Link.{Link}
use Rattle.jl_types.specs.declared.link.Link.TheVariants as link
use Rattle.jl_report.specs.declared.row.Row.{Row}
use Rattle.jl_report.specs.declared.row.Finding.{Finding}
use Rattle.jl_report.specs.declared.row.Finding.TheVariants as finding
use Rattle.jl_report.specs.declared.shape.Shape.{Shape}
use Rattle.jl_report.specs.declared.shape.Shape.TheVariants as shape

-- ---- the shape of what is found of an invocation

abbrev pub shape_of_link : Link → Shape
shape_of_link (link.Fault throwable) = shape.Throws
shape_of_link (link.Plain m) = shape.Direct
shape_of_link (link.Direct (Run m)) = shape.Direct
shape_of_link (link.Direct (Throws throwable)) = shape.Throws
shape_of_link (link.Table kind []) = shape.NoReceivers
shape_of_link (link.Table kind (row ∷ rows)) = shape.Table
shape_of_link link.Mega = shape.Mega

-- what has no link waits for its call site if it is an invokedynamic, and else for a class
abbrev pub shape_unlinked : Unlinked → Shape
shape_unlinked unlinked.Unbound = shape.Unbound
shape_unlinked (unlinked.NotReady missing) = shape.Waits
shape_unlinked unlinked.Gone = shape.Waits
shape_unlinked unlinked.NoSite = shape.Waits

abbrev pub shape_of : Finding → Shape
shape_of (finding.Linked link) = shape_of_link link
shape_of (finding.Unlinked reason) = shape_unlinked reason
shape_of (finding.NotLinkable reason) = shape.NotLinkable

-- ---- totals

abbrev pub kind_number : Kind → ℕ
kind_number Virtual = 0
kind_number Special = 1
kind_number Static = 2
kind_number Interface = 3
kind_number Dynamic = 4

abbrev pub shape_number : Shape → ℕ
shape_number shape.Direct = 0
shape_number shape.Table = 1
shape_number shape.Mega = 2
shape_number shape.NoReceivers = 3
shape_number shape.Throws = 4
shape_number shape.Waits = 5
shape_number shape.Unbound = 6
shape_number shape.NotLinkable = 7

-- the number among 40 of what is counted together: an instruction and a shape
abbrev pub column : Kind → Shape → ℕ
column kind shape = 8 * kind_number kind + shape_number shape

-- the row counts there
abbrev pub is_in : ℕ → Row → Bool
is_in n row = column row.kind (shape_of row.finding) == n

-- how many of the rows are of the instruction and have this shape
abbrev pub count : Kind → Shape → List Row → ℕ
count kind shape rows = length (filter (is_in (column kind shape)) rows)

-- what totals say of them
abbrev pub told : List ℕ → Kind → Shape → ℕ
told totals kind shape = get_or totals (column kind shape) 0

-- the largest number of 64 bits
abbrev pub largest : ℕ
largest = 2 ^ 64 - 1

-- the totals are those of the rows; a count stands still at the largest number
abbrev pub AreTotals : List ℕ → List Row → Type 0
AreTotals totals rows = (kind : Kind) (shape : Shape) → told totals kind shape ≡ min (count kind shape rows) largest
