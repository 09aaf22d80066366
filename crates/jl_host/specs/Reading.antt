-- Links that a host gives, by the numbers that `Showing` shows.
use Rattle.std.specs.Prelude.{ℕ, Bool, true, nat_le, nat_lt, ◌==◌, ◌&&◌, List, [], ◌∷◌, map, length, take, get_or, Option, Some, None, option_map}
use Rattle.std.specs.Prelude.{if◌then◌else◌}
use Rattle.std.specs.List.{list_all}
use Rattle.std.specs.Option.{option_and_then}
use Rattle.jl_types.specs.declared.ids.MethodId.{MethodId}
use Rattle.jl_types.specs.declared.answer.Outcome.{Outcome}
use Rattle.jl_types.specs.declared.answer.Outcome.TheVariants.{Run, Throws}
use Rattle.jl_types.specs.declared.answer.Throwable.{Throwable}
use Rattle.jl_types.specs.declared.answer.Throwable.TheVariants as throwable
use Rattle.jl_types.specs.declared.link.Link.{Link}
use Rattle.jl_types.specs.declared.link.Link.TheVariants.{Fault, Plain, Direct, Table, Mega}
use Rattle.jl_types.specs.declared.link.TableKind.{TableKind}
use Rattle.jl_types.specs.declared.link.TableKind.TheVariants.{Virtual, Interface}
use Rattle.jl_host.specs.declared.shown.Row.{Row}
use Rattle.jl_host.specs.declared.shown.LinkShown.{LinkShown}
use Rattle.jl_host.specs.declared.reading.LinkRow.{LinkRow}
use Rattle.jl_host.specs.Showing.{no_row}

-- ---- rows

abbrev pub throwable_of : ℕ → Option Throwable
throwable_of n =
    if n == 1 then Some throwable.NoSuchMethodError
    else if n == 2 then Some throwable.IllegalAccessError
    else if n == 3 then Some throwable.IncompatibleClassChangeError
    else if n == 4 then Some throwable.AbstractMethodError
    else if n == 5 then Some throwable.NullPointerException
    else None

-- a method is among the first 2^16 of its class
abbrev pub method_of : ℕ → ℕ → Option MethodId
method_of class value = if nat_lt value 65536 then Some (record { class = class; index = value }) else None

-- a method runs, or something is thrown
abbrev pub outcome_of : Row → Option Outcome
outcome_of row =
    if row.kind == 0 then option_map Run (method_of row.class_number row.value)
    else if row.kind == 1 then option_map Throws (throwable_of row.value)
    else None

-- the class of the receiver, with the outcome of a call on its objects
abbrev pub entry_of : Row → Option (ℕ × Outcome)
entry_of row = option_map (λ o. (row.receiver, o)) (outcome_of row)

-- what each item is, in order; none if one is none
abbrev pub with_first : {B : Type 0} → Option B → Option (List B) → Option (List B)
with_first None rest = None
with_first (Some x) None = None
with_first (Some x) (Some xs) = Some (x ∷ xs)

unfoldable pub all_of : {A B : Type 0} → (A → Option B) → List A → Option (List B)
all_of f [] = Some []
all_of f (x ∷ xs) = with_first (f x) (all_of f xs)

-- ---- links

-- of one row: a fault throws, a plain link runs a method, and a direct one does either
abbrev pub single_of : ℕ → Outcome → Option Link
single_of kind (Run m) = if kind == 2 then Some (Plain m) else if kind == 3 then Some (Direct (Run m)) else None
single_of kind (Throws t) = if kind == 1 then Some (Fault t) else if kind == 3 then Some (Direct (Throws t)) else None

abbrev pub table_kind_of : ℕ → Option TableKind
table_kind_of n = if n == 4 then Some Virtual else if n == 5 then Some Interface else None

-- of up to eight rows
abbrev pub table_of : TableKind → ℕ → List Row → Option Link
table_of kind count rows = if nat_le count 8 then option_map (Table kind) (all_of entry_of (take count rows)) else None

-- megamorphic, without a row
abbrev pub mega_of : ℕ → Option Link
mega_of count = if count == 0 then Some Mega else None

-- of no table's kind: megamorphic, or of one row
abbrev pub no_table_of : ℕ → ℕ → Row → Option Link
no_table_of kind count row =
    if kind == 6 then mega_of count
    else if count == 1 then option_and_then (single_of kind) (outcome_of row)
    else None

-- Rows past the count, and numbers that say nothing by the kind, aren't looked at.
abbrev pub link_by : Option TableKind → LinkShown → Option Link
link_by (Some kind) shown = table_of kind shown.count shown.rows
link_by None shown = no_table_of shown.kind shown.count (get_or shown.rows 0 no_row)

abbrev pub link_of : LinkShown → Option Link
link_of shown = link_by (table_kind_of shown.kind) shown

-- ---- sites with their links

abbrev pub row_of : LinkRow → Option (ℕ × Link)
row_of row = option_map (λ link. (row.site, link)) (link_of row.link)

-- the rows of an install, if each is one
abbrev pub rows_of : List LinkRow → Option (List (ℕ × Link))
rows_of rows = all_of row_of rows

-- ---- links that are read again

-- the outcomes of the link's calls, by receivers
abbrev pub outcomes : Link → List Outcome
outcomes (Fault t) = Throws t ∷ []
outcomes (Plain m) = Run m ∷ []
outcomes (Direct o) = o ∷ []
outcomes (Table kind rows) = map (λ row. row.1) rows
outcomes Mega = []

-- a class file has at most 2^16 - 1 methods (JVMS 4.1)
abbrev pub is_declarable : Outcome → Bool
is_declarable (Run m) = nat_lt m.index 65536
is_declarable (Throws t) = true

abbrev pub runs_declarable : Link → Bool
runs_declarable link = list_all is_declarable (outcomes link)

-- what is shown of it says all of it
abbrev pub is_shown_whole : Link → Bool
is_shown_whole link = nat_le (length (outcomes link)) 8 && runs_declarable link
