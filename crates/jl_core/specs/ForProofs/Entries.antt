-- What is kept of an entry.
use Rattle.std.specs.Prelude.{[]}
use Rattle.jl_types.specs.declared.event.EventOf.TheVariants as event
use Rattle.jl_types.specs.declared.event.Made.TheVariants as made
use Rattle.jl_events.specs.Accepted.{Accepted}
use Rattle.jl_core.specs.Logs.{Entry}
use Rattle.jl_core.specs.declared.log.Kept.{Kept}
use Rattle.jl_core.specs.declared.log.Kept.TheVariants.{Request, Shared}
use Rattle.jl_core.specs.declared.log.Whole.{Whole}
use Rattle.jl_core.specs.declared.log.Whole.TheVariants.{Made, Lent}

-- the entry of which this is kept
abbrev pub entry_of : Kept → Entry
entry_of (Request place site) = record { event = event.Request place; reply = record { made = made.Site site; dropped = [] } }
entry_of (Shared logged) = record { event = logged.value.event; reply = logged.value.reply }

-- the event that is lent or made
abbrev pub event_in : Whole → Accepted
event_in (Made event) = event
event_in (Lent event) = event.now
