-- Planned events. A plan makes all that is to be refused and all room, so that what is left of the event can't fail.
use Rattle.std.specs.Prelude.{ℕ, List, Option}
use Rattle.jl_types.specs.declared.link.Link.{Link}
use Rattle.jl_types.specs.Events.Event.{Event}
use Rattle.jl_types.specs.declared.event.Reply.{Reply}
use Rattle.jl_types.specs.Events.Entries.{IsEntry}
use Rattle.jl_core.specs.State.{State, events, IsAccepted}

-- A planned event: the core that it leads to, what it is answered, and each site that it changes with its new link or none.
pub record Plan : Type 0 where
  pub after : State
  pub reply : Reply
  pub slots : List (ℕ × Option Link)

-- the event e is planned for the core
pub record IsPlanned (core : State) (e : Event) (plan : Plan) : Type 0 where
  pub accepted : IsAccepted core plan.after e plan.reply
  pub entry : IsEntry core.limits (events core) (record { event = e; reply = plan.reply; slots = plan.slots })

-- the core is as the plan left it
abbrev pub IsAsPlanned : State → Plan → Type 0
IsAsPlanned core plan = (e : Event) × IsPlanned core e plan
