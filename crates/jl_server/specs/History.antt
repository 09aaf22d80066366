-- The history of a server, which exists in the proofs alone, and the entries that it consists of.
use Rattle.std.specs.Prelude.{ℕ, ◌≡◌, ◌==◌, Bool, true, false, List, [], ◌∷◌, ◌++◌, length, map, fold, drop}
use Rattle.std.specs.List.{list_all}
use Rattle.logbook.specs.Pages.{Cell, Step, View, Book, Named}
use Rattle.jl_types.specs.declared.limits.Limits.{Limits}
use Rattle.jl_types.specs.Events.Event.{Event}
use Rattle.jl_types.specs.declared.event.EventOf.TheVariants as event
use Rattle.jl_types.specs.declared.event.Reply.{Reply}
use Rattle.jl_types.specs.Events.Entries.{Entry, events_of, slots_changed}
use Rattle.jl_core.specs.State.{State}
use Rattle.jl_core.specs.Plans.{Plan}

-- the entries' events with their replies, as a core's log has them
abbrev pub logged_of : List Entry → List (Event × Reply)
logged_of entries = map (λ entry. (entry.event, entry.reply)) entries

-- the core with these limits whose log the list is
abbrev pub core_of : Limits → List Entry → State
core_of limits entries = record { limits = limits; log = logged_of entries }

-- the entry of an event that comes after the list and is answered so
abbrev pub entry_after : List Entry → Event → Reply → Entry
entry_after entries e reply = record { event = e; reply = reply; slots = slots_changed (events_of entries) e }

-- the list ends with this event and its reply
abbrev pub EndsWith : List Entry → Event → Reply → Type 0
EndsWith entries e reply = (before : List Entry) × (entries ≡ before ++ entry_after before e reply ∷ [])

-- the entry of a planned event: the last event of the core that it leads to
abbrev pub planned_entry : Plan → Entry
planned_entry plan = record { event = fold (λ last entry. entry.0) event.NewSwitch plan.after.log; reply = plan.reply; slots = plan.slots }

-- the event is an install
abbrev pub is_install : Event → Bool
is_install (event.Install rows) = true
is_install _ = false

-- after the first n entries there are installs alone
abbrev pub installs_alone : ℕ → List Entry → Bool
installs_alone n entries = list_all (λ entry. is_install entry.event) (drop n entries)

-- a server that was not started yet: its history, its limits, and how many callers it is to have
pub record Server : Type 0 where
  pub book : Book
  pub limits : Limits
  pub callers : ℕ

-- ---- the rule of the history

-- the first word is the length of the history. A book has two words, of which this one leaves the second at 0
abbrev pub IsCounted : List Cell → List Entry → Type 0
IsCounted cells entries = cells ≡ (length entries, true) ∷ (0, true) ∷ []

abbrev pub head_of : Book → Named
head_of b = record { tracked = true; key = 0; book = b }

-- the entry was added to all that had been seen, if the length was the one expected
abbrev pub Adds : Step Entry → View Entry ℕ → ℕ → View Entry ℕ → Type 0
Adds s v found w = (found == s.old) ≡ true → w.0 ≡ v.0 ++ s.ask ∷ []
