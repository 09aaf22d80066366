-- A core after any events.
use Rattle.std.specs.Prelude.{◌≡◌, List, [], ◌∷◌, Result}
use Rattle.jl_types.specs.Events.Event.{Event}
use Rattle.jl_types.specs.declared.event.Reply.{Reply}
use Rattle.jl_types.specs.declared.refusal.Refusal.{Refusal}
use Rattle.jl_core.specs.State.{State, IsApplied}

-- the events are applied one after another, each accepted or refused
abbrev pub AreApplied : State → List Event → State → Type 0
AreApplied old [] new = new ≡ old
AreApplied old (e ∷ es) new = (next : State) × (answer : Result Reply Refusal) × IsApplied old e answer next × AreApplied next es new
