-- What a session, or a caller of a server, has if there is no memory for the text of an answer.
use Rattle.std.proofs.Common.{refl, inr, List, ℕ, Result}
use Rattle.jl_types.specs.declared.limits.Limits.{Limits}
use mathlib.Core.List.{IsPrefix}
use Rattle.serde_json.specs.Written.{compact_text}
use Rattle.jl_types.specs.Events.Event.{Event}
use Rattle.jl_types.specs.Events.Entries.{Entry, IsLegal}
use Rattle.jl_types.specs.declared.event.Reply.{Reply}
use Rattle.jl_types.specs.declared.refusal.Refusal.{Refusal}
use Rattle.jl_session.specs.Obeying.{LacksAnswer}
use Rattle.jl_session.specs.Sessions.{IsSessionAnswer, Session}
use Rattle.jl_session.proofs.LackLaws.{lacks_as, some_data}
use Rattle.jl_words.specs.declared.words.Mode.TheVariants.{Run}
use Rattle.jl_lines.specs.Answers.{Lacks}
use Rattle.jl_cli.specs.Modes.{IsAnswer}
use Rattle.jl_cli.specs.Farms.{IsFarmAnswer, IsLineServed, IsServed, IsServedAs}

-- what a session has if there is no memory for the text of an answer
pub run_lacks : (old new : Session) (line : List ℕ) → LacksAnswer old (λ answer. IsSessionAnswer old line answer new) new
    → Lacks (IsAnswer Run) old line new
run_lacks old new line lacks =
    lacks_as old new (λ answer. IsSessionAnswer old line answer new) (λ text. IsAnswer Run old line text new)
    (λ answer said. (compact_text answer, (answer, said, refl))) lacks

pub farm_lacks : (limits : Limits) (old new : List Entry) (line : List ℕ)
    → LacksAnswer old (λ answer. IsLineServed limits old line answer new) new → Lacks (IsFarmAnswer limits) old line new
farm_lacks limits old new line lacks =
    lacks_as old new (λ answer. IsLineServed limits old line answer new) (λ text. IsFarmAnswer limits old line text new)
    (λ answer said. (compact_text answer, (answer, said, refl))) lacks

-- the event came to its outcome, whatever is said of it
pub served_lacks : (limits : Limits) (old new : List Entry) (e : Event) (outcome : Result Reply Refusal) → IsPrefix old new → IsLegal limits new
    → IsServedAs limits old e outcome new → LacksAnswer old (λ answer. IsServed limits old e answer new) new
served_lacks limits old new e outcome grown legal applied = inr (
  (some_data outcome).0,
  record { outcome = outcome; grown = grown; legal = legal; applied = applied; said = (some_data outcome).1 },
)
