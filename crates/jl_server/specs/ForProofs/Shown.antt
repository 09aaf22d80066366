-- The rule of the published table: it is the table of its list.
use Rattle.std.specs.Prelude.{◌≡◌, ℕ, List, length, Option, Some, None}
use mathlib.Core.Option.{some}
use Rattle.logbook.specs.Pages.{Book}
use lib.ListN.{get_elem?}
use Rattle.jl_types.specs.declared.limits.Limits.{Limits}
use Rattle.jl_types.specs.Events.Entries.{Entry, IsLegal, written, table_of, classes_of}
use Rattle.jl_core.specs.State.{world_of}
use Rattle.jl_core.specs.Plans.{Plan}
use Rattle.jl_server.specs.declared.mark.Tag.{Tag}
use Rattle.jl_server.specs.declared.table.Table.{Table}
use Rattle.jl_server.specs.declared.table.Change.{Change}
use Rattle.jl_server.specs.declared.table.Content.{Content}

-- what two copies of a table have in common
abbrev pub content : Table → Content
content t = record { limits = t.limits; links = t.links; classes = t.classes; list = t.list }

abbrev pub changed : Content → Change → Content
changed t change = record { limits = t.limits; links = written t.links change.slots.items; classes = change.classes; list = change.list }

-- of a content: it is the table of its list, which is legal
pub record IsShown (t : Content) : Type 0 where
  pub legal : IsLegal t.limits t.list.reached.log
  pub links : t.links ≡ table_of t.limits t.list.reached.log
  pub classes : t.classes ≡ classes_of t.list.reached.log

-- what is known of the table is so: nothing, or whose history its list is of, and its limits
abbrev pub Knows : Content → Option Tag → Type 0
Knows t None = Unit {0}
Knows t (Some tag) = (tag.reached.book ≡ t.list.reached.book) × (tag.limits ≡ t.limits)

-- the rule: the table is shown as it should be, and each seat knows what is so
abbrev pub Ruled : Table → List (Option Tag) → Type 0
Ruled t views = IsShown (content t) × ((seat : ℕ) (v : Option Tag) → get_elem? views seat ≡ some v → Knows (content t) v)

abbrev pub tag_of : Content → Tag
tag_of t = record { reached = t.list.reached; limits = t.limits }

-- publishing: the writer knows the table afterwards
abbrev pub Publishes : Option Tag → Table → Table → Option Tag → Type 0
Publishes v x y w = w ≡ Some (tag_of (content y))

-- entering: the table that is found is as it should be, and is as was known
abbrev pub Enters : Option Tag → Table → Table → Option Tag → Type 0
Enters v x y w = (w ≡ v) × IsShown (content y) × Knows (content y) v

abbrev pub told : Option Tag → Option Tag → Option Tag
told v w = w

-- which server a seat knows the table to be of: its history, and its limits
abbrev pub server_of : Option Tag → Option (Book × Limits)
server_of None = None
server_of (Some tag) = Some (tag.reached.book, tag.limits)

-- the change that a planned event makes, if the list with its entry is this one of the history
pub record IsChangeOf (b : Book) (plan : Plan) (entries : List Entry) (change : Change) : Type 0 where
  pub slots : change.slots.items ≡ plan.slots
  pub classes : change.classes ≡ length (world_of plan.after).classes.rows
  pub log : change.list.reached.log ≡ entries
  pub book : change.list.reached.book ≡ b
