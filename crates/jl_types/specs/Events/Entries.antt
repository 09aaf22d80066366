-- Lists of accepted events with all that they change, and the table of links that such a list makes.
use Rattle.std.specs.Prelude.{◌≡◌, ℕ, Bool, true, false, List, [], ◌∷◌, ◌++◌, map, filter, filter_map, fold, take, length, replicate, slice_get}
use Rattle.std.specs.Prelude.{slice_set, Option, Some, None, option_map, is_none, Ok, if◌then◌else◌}
use Rattle.jl_types.specs.declared.limits.Limits.{Limits}
use Rattle.jl_types.specs.declared.link.Link.{Link}
use Rattle.jl_types.specs.Events.Event.{Event}
use Rattle.jl_types.specs.declared.event.EventOf.TheVariants as event
use Rattle.jl_types.specs.declared.event.Reply.{Reply}
use Rattle.jl_types.specs.Events.History.{world_after, installed, site_numbers, has_link, reply}

-- an accepted event, the answer to it, and each site that it changes, with its new link or none
pub record Entry : Type 0 where
  pub event : Event
  pub reply : Reply
  pub slots : List (ℕ × Option Link)

abbrev pub events_of : List Entry → List Event
events_of entries = map (λ entry. entry.event) entries

-- ---- legal lists

abbrev pub same_slot : Option Link → Option Link → Bool
same_slot None None = true
same_slot None (Some l) = false
same_slot (Some l) after = has_link after l

-- what stands in a slot afterwards, if that differs
abbrev pub change : Option Link → Option Link → Option (Option Link)
change before after = if same_slot before after then None else Some after

-- the sites at which the event e, after h, changes what is installed; rising, each with its new link or none
abbrev pub slots_changed : List Event → Event → List (ℕ × Option Link)
slots_changed h e =
    filter_map (λ s. option_map (λ slot. (s, slot)) (change (installed h s) (installed (h ++ e ∷ []) s))) (site_numbers (h ++ e ∷ []))

-- After the events h the entry's event is accepted with the entry's reply, and changes the entry's slots.
pub record IsEntry (limits : Limits) (h : List Event) (entry : Entry) : Type 0 where
  pub answered : reply limits h entry.event ≡ Ok entry.reply
  pub slots : entry.slots ≡ slots_changed h entry.event

-- Each entry is one after the events before it.
pub record IsLegal (limits : Limits) (entries : List Entry) : Type 0 where
  pub each : (n : ℕ) (entry : Entry) → slice_get entries n ≡ Some entry → IsEntry limits (events_of (take n entries)) entry

-- ---- the table that a list makes

-- the table once the slots are written, one after another
abbrev pub written : List (Option Link) → List (ℕ × Option Link) → List (Option Link)
written table slots = fold (λ links slot. slice_set links slot.0 slot.1) table slots

-- the slots of each entry, one entry after another, over a table without links
abbrev pub table_of : Limits → List Entry → List (Option Link)
table_of limits entries = fold (λ table entry. written table entry.slots) (replicate limits.sites None) entries

-- the sites of the slots without a link
abbrev pub emptied : List (ℕ × Option Link) → List ℕ
emptied slots = map (λ slot. slot.0) (filter (λ slot. is_none slot.1) slots)

-- how many classes there are after the list
abbrev pub classes_of : List Entry → ℕ
classes_of entries = length (world_after (events_of entries)).classes.rows

-- the event defines a class
abbrev pub defines : Event → Bool
defines (event.Define loader file) = true
defines _ = false
