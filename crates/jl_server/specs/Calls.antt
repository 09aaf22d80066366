-- Several calls in one entry into the published table.
use Rattle.std.specs.Prelude.{◌≡◌, ℕ, List, map, length, replicate}
use Rattle.jl_types.specs.declared.answer.Recv.{Recv}
use Rattle.jl_types.specs.declared.answer.Answer.{Answer}
use Rattle.jl_types.specs.declared.answer.Fast.{Fast}
use Rattle.jl_types.specs.declared.answer.Fast.TheVariants.{Now, Closed}
use Rattle.jl_types.specs.Events.Event.{Event}
use Rattle.jl_types.specs.Linkage.Calls.{dispatch}
use Rattle.jl_types.specs.Events.Fast.{fast_answer}
use Rattle.jl_types.specs.Events.History.{world_after, installed}
use Rattle.jl_types.specs.Events.Entries.{Entry, events_of, classes_of}
use Rattle.jl_server.specs.Receivers.{FitsInstalled}

-- the answer at once to each call, a site and a receiver, after the list
abbrev pub answers_at : List Entry → List (ℕ × Recv) → List Fast
answers_at entries calls = map (λ call. fast_answer (installed (events_of entries) call.0) (classes_of entries) call.1) calls

-- each call is Closed
abbrev pub all_closed : List (ℕ × Recv) → List Fast
all_closed calls = replicate (length calls) Closed

-- the answer at once to the call, if any, is the call's answer if the receiver fits the installed link
abbrev pub AnswersCall : List Event → ℕ × Recv → Fast → Type 0
AnswersCall h call f = (a : Answer) → f ≡ Now a → FitsInstalled h call.0 call.1 → dispatch (world_after h) call.0 call.1 ≡ a
