-- Which links a further class drops: those that aren't their invocations' any more, once it is defined after the others.
use Rattle.std.specs.Prelude.{◌≡◌, ◌&&◌, ◌++◌, Bool, true, false, List, filter, filter_map, length, Option, Some, None}
use Rattle.std.specs.Prelude.{option_map, is_some, is_none, if◌then◌else◌}
use Rattle.std.specs.List.{list_any}
use Rattle.jl_class.specs.Class.{ClassFile}
use Rattle.jl_types.specs.declared.key.Key.{Key}
use Rattle.jl_types.specs.declared.key.Key.TheVariants as key
use Rattle.jl_types.specs.declared.link.Link.{Link}
use Rattle.jl_types.specs.declared.link.Link.TheVariants.{Fault, Plain, Direct, Table, Mega}
use Rattle.jl_types.specs.Values.World.{Classes}
use Rattle.jl_types.specs.Linkage.Links.{scratch}
use Rattle.jl_types.specs.Events.Definitions.{define_fault, defined}
use Rattle.jl_types.specs.Events.Footprints.{of_class, meets}
use Rattle.jl_types.specs.Events.History.{is_link}
use Rattle.jl_hierarchy.specs.Constancy.{may_be_extended}
use Rattle.jl_relink.specs.Placed.{asking}
use Rattle.jl_report.specs.declared.row.Row.{Row}
use Rattle.jl_report.specs.declared.row.Finding.{Finding}
use Rattle.jl_report.specs.declared.row.Finding.TheVariants as finding
use Rattle.jl_report.specs.declared.breaking.Dropped.{Dropped}
use Rattle.jl_report.specs.Reports.{found, row_with}
use Rattle.jl_report.specs.Gathering.{most_classes}

-- what is changed by the class that loader 0 makes of the file after these: the keys of its definition
abbrev pub keys_of : Classes → ClassFile → List Key
keys_of cs file = of_class (defined cs 0 file) (length cs.rows)

-- the row of the row's invocation among these classes
abbrev pub row_now : Classes → Row → Row
row_now cs row = row_with (asking cs row.place) row.place row.kind (found (scratch (asking cs row.place) 0))

-- its row among these classes, if it had a link and hasn't this one any more
abbrev pub now_without : Classes → Row → Finding → Option Row
now_without cs row (finding.Linked link) = if is_link (scratch (asking cs row.place) 0) link then None else Some (row_now cs row)
now_without cs row (finding.Unlinked reason) = None
now_without cs row (finding.NotLinkable reason) = None

-- the invocation's row among these classes, if the row rests on one of the keys, had a link, and its invocation hasn't this one any more
abbrev pub now_changed : Classes → List Key → Row → Option Row
now_changed cs keys row = if meets row.rests_on keys then now_without cs row row.finding else None

-- The row before and after, if its link is dropped: these are the classes with the further one, which changes these keys.
abbrev pub dropped_of : Classes → List Key → Row → Option Dropped
dropped_of cs keys row = option_map (λ after. record { before = row; after = after }) (now_changed cs keys row)

-- those of the rows whose links are dropped, in order, and the others, in order
abbrev pub dropped_among : Classes → List Key → List Row → List Dropped
dropped_among cs keys rows = filter_map (dropped_of cs keys) rows

abbrev pub left_among : Classes → List Key → List Row → List Row
left_among cs keys rows = filter (λ row. is_none (now_changed cs keys row)) rows

-- Loader 0 was to define the class of the file after the old classes. If it did, the rows whose links it drops are told after those that
-- were told before, and the others are left. Else the file is given back, and nothing changed.
abbrev pub IsAdded : Classes → Classes → ClassFile → List Row → List Row → List Dropped → List Dropped → Option ClassFile → Type 0
IsAdded old new file rows left earlier told (Some back) =
    (back ≡ file) × (is_some (define_fault most_classes old 0 file) ≡ true) × (new ≡ old) × (left ≡ rows) × (told ≡ earlier)
IsAdded old new file rows left earlier told None =
    (define_fault most_classes old 0 file ≡ None) × (new ≡ defined old 0 file) × (left ≡ left_among new (keys_of old file) rows)
    × (told ≡ earlier ++ dropped_among new (keys_of old file) rows)

-- ---- which a further class may drop at all

abbrev pub may_change : Link → Bool
may_change Mega = false
may_change (Fault throwable) = true
may_change (Plain m) = true
may_change (Direct outcome) = true
may_change (Table kind rows) = true

-- it has a link other than Mega
abbrev pub has_changing_link : Finding → Bool
has_changing_link (finding.Linked link) = may_change link
has_changing_link (finding.Unlinked reason) = false
has_changing_link (finding.NotLinkable reason) = false

-- a further class may change it: it is the receivers of what may be extended
abbrev pub may_grow : Classes → Key → Bool
may_grow cs (key.Receivers c) = may_be_extended cs c
may_grow cs (key.Target c) = false
may_grow cs (key.Valid p) = false

-- a further class may change the row's link: it is another one than Mega, and rests on something that a further class may change
abbrev pub is_open : Classes → Row → Bool
is_open cs row = has_changing_link row.finding && list_any (may_grow cs) row.rests_on
