-- Outcomes and links, as JSON.
use Rattle.std.specs.Prelude.{ℕ, List, [], ◌∷◌, map, codes, true}
use Rattle.serde_json.specs.Data.{Data, boolean, string, array, object, no_members, member}
use Rattle.serde_json.specs.View.{items_of}
use Rattle.jl_types.specs.declared.answer.Outcome.{Outcome}
use Rattle.jl_types.specs.declared.answer.Outcome.TheVariants.{Run, Throws}
use Rattle.jl_types.specs.declared.answer.Throwable.{Throwable}
use Rattle.jl_types.specs.declared.answer.Throwable.TheVariants.{NoSuchMethodError}
use Rattle.jl_types.specs.declared.answer.Throwable.TheVariants.{IllegalAccessError}
use Rattle.jl_types.specs.declared.answer.Throwable.TheVariants.{IncompatibleClassChangeError}
use Rattle.jl_types.specs.declared.answer.Throwable.TheVariants.{AbstractMethodError}
use Rattle.jl_types.specs.declared.answer.Throwable.TheVariants.{NullPointerException}
use Rattle.jl_types.specs.declared.ids.MethodId.{MethodId}
use Rattle.jl_types.specs.declared.link.Link.{Link}
use Rattle.jl_types.specs.declared.link.Link.TheVariants.{Fault, Plain, Direct, Table, Mega}
use Rattle.jl_types.specs.declared.link.TableKind.{TableKind}
use Rattle.jl_types.specs.declared.link.TableKind.TheVariants.{Virtual, Interface}
use Rattle.jl_json.specs.ClassAnswers.{number_data}

-- an object of one member
abbrev pub single : List ℕ → Data → Data
single key d = object (member key d no_members)

abbrev pub pair : Data → Data → Data
pair a b = array (items_of (a ∷ b ∷ []))

-- ---- the outcome of a call whose receiver is known

-- the throwable's name in java.lang
abbrev pub throwable_name : Throwable → List ℕ
throwable_name NoSuchMethodError = codes "NoSuchMethodError"
throwable_name IllegalAccessError = codes "IllegalAccessError"
throwable_name IncompatibleClassChangeError = codes "IncompatibleClassChangeError"
throwable_name AbstractMethodError = codes "AbstractMethodError"
throwable_name NullPointerException = codes "NullPointerException"

abbrev pub throwable_data : Throwable → Data
throwable_data throwable = string (throwable_name throwable)

-- the class and the place among its methods
abbrev pub method_id_data : MethodId → Data
method_id_data m = pair (number_data m.class) (number_data m.index)

abbrev pub outcome_data : Outcome → Data
outcome_data (Run m) = single (codes "run") (method_id_data m)
outcome_data (Throws throwable) = single (codes "throws") (throwable_data throwable)

-- ---- links

abbrev pub table_kind_name : TableKind → List ℕ
table_kind_name Virtual = codes "virtual"
table_kind_name Interface = codes "interface"

-- a class, and the outcome on its objects
unfoldable pub table_row_data : ℕ × Outcome → Data
table_row_data row = pair (number_data row.0) (outcome_data row.1)

unfoldable pub link_data : Link → Data
link_data (Fault throwable) = single (codes "fault") (throwable_data throwable)
link_data (Plain m) = single (codes "plain") (method_id_data m)
link_data (Direct outcome) = single (codes "direct") (outcome_data outcome)
link_data (Table kind rows) =
    object (member (codes "kind") (string (table_kind_name kind))
    (member (codes "table") (array (items_of (map table_row_data rows))) no_members))
link_data Mega = single (codes "mega") (boolean true)

-- ---- lists of links

-- a site, and its link
unfoldable pub site_link_data : ℕ × Link → Data
site_link_data row = pair (number_data row.0) (link_data row.1)

unfoldable pub site_links_data : List (ℕ × Link) → Data
site_links_data rows = array (items_of (map site_link_data rows))

-- the links of sites
abbrev pub links_data : List (ℕ × Link) → Data
links_data rows = single (codes "links") (site_links_data rows)

-- the links that a farm leaves, and its reports, which are JSON of their own
abbrev pub farm_data : List (ℕ × Link) → Data → Data
farm_data rows reports = object (member (codes "links") (site_links_data rows) (member (codes "reports") reports no_members))

-- the batch of this number, which may be installed later
abbrev pub prepared_data : ℕ → List (ℕ × Link) → Data
prepared_data batch rows =
    object (member (codes "prepared") (number_data batch)
    (member (codes "rows") (site_links_data rows) no_members))
