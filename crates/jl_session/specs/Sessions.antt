-- What a line of commands is answered, by one core and the batches of links that were prepared.
use Rattle.std.specs.Prelude.{◌≡◌, ℕ, List, [], ◌∷◌, ◌++◌, length, slice_get, MatchOption, Result, Ok, Err}
use Rattle.serde_json.specs.Data.{Data}
use Rattle.jl_types.specs.declared.link.Link.{Link}
use Rattle.jl_types.specs.Events.Event.{Event}
use Rattle.jl_types.specs.Events.Limits.{fixed}
use Rattle.jl_types.specs.declared.event.EventOf.TheVariants as event
use Rattle.jl_types.specs.declared.event.Reply.{Reply}
use Rattle.jl_types.specs.declared.refusal.Refusal.{Refusal}
use Rattle.jl_types.specs.declared.refusal.PrepareFault.{PrepareFault}
use Rattle.jl_types.specs.Linkage.Calls.{dispatch}
use Rattle.jl_relink.specs.declared.preparation.Prepared.{Prepared}
use Rattle.jl_relink.specs.Preparations.{Snapshot, IsPreparation}
use Rattle.jl_core.specs.State.{State, empty_core, world_of, links_of, IsApplied}
use Rattle.jl_json.specs.declared.command.Command.{Command}
use Rattle.jl_json.specs.declared.command.Command.TheVariants as command
use Rattle.jl_json.specs.EventRefusals.{prepare_refusal_data}
use Rattle.jl_json.specs.LinkAnswers.{links_data, prepared_data}
use Rattle.jl_json.specs.CallAnswers.{answer_data}
use Rattle.jl_session.specs.Obeying.{IsEventData, IsNoCommand, IsObeyed, IsLineAnswer}

pub record Session : Type 0 where
  pub core : State
  pub batches : List (List (ℕ × Link))  -- those that were prepared, by number

-- no batch was prepared yet
abbrev pub session_over : State → Session
session_over core = record { core = core; batches = [] }

-- nothing happened yet, and so many places may be requested; the other limits are those of the programs
abbrev pub session_of : ℕ → Session
session_of sites = session_over (empty_core (fixed sites))

abbrev pub new_session : Session
new_session = session_of 65536

-- ---- what a command is answered

-- the core takes the event or refuses it, and the answer says which
pub record IsEventAnswer (old : Session) (e : Event) (answer : Data) (new : Session) : Type 0 where
  pub outcome : Result Reply Refusal
  pub applied : IsApplied old.core e outcome new.core
  pub batches : new.batches ≡ old.batches
  pub said : IsEventData outcome answer

-- the event of the batch of that number, if there is one
abbrev pub IsInstallAnswer : Session → ℕ → Data → Session → Type 0
IsInstallAnswer old batch answer new =
    MatchOption (slice_get old.batches batch) (IsNoCommand old answer new)
    (λ rows. IsEventAnswer old (event.Install rows) answer new)

-- the core as it is, with the count of its events
abbrev pub snapshot_of : Session → Snapshot
snapshot_of session = record { world = world_of session.core; serial = length session.core.log }

-- the batch is kept under the next number
abbrev pub IsPreparedData : Session → Result Prepared PrepareFault → Data → Session → Type 0
IsPreparedData old (Ok prepared) answer new =
    (answer ≡ prepared_data (length old.batches) prepared.rows)
    × (new ≡ record { core = old.core; batches = old.batches ++ prepared.rows ∷ [] })
IsPreparedData old (Err f) answer new = (answer ≡ prepare_refusal_data f) × (new ≡ old)

pub record IsPrepareAnswer (old : Session) (sites : List ℕ) (answer : Data) (new : Session) : Type 0 where
  pub outcome : Result Prepared PrepareFault
  pub prepared : IsPreparation (snapshot_of old) sites outcome
  pub said : IsPreparedData old outcome answer new

abbrev pub IsCommandAnswer : Session → Command → Data → Session → Type 0
IsCommandAnswer old (command.Apply asked) answer new = IsObeyed IsEventAnswer IsInstallAnswer old asked answer new
IsCommandAnswer old (command.Prepare sites) answer new = IsPrepareAnswer old sites answer new
IsCommandAnswer old (command.Call site recv) answer new =
    (answer ≡ answer_data (dispatch (world_of old.core) site recv)) × (new ≡ old)
IsCommandAnswer old command.Links answer new = (answer ≡ links_data (links_of old.core)) × (new ≡ old)

-- what a line is answered
abbrev pub IsSessionAnswer : Session → List ℕ → Data → Session → Type 0
IsSessionAnswer old line answer new = IsLineAnswer Session IsCommandAnswer old line answer new
