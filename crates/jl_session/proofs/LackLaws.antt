-- What there is if there is no memory for an answer.
use Rattle.std.proofs.Common.{◌≡◌, refl, inl, inr, ℕ, List, Result, Ok, Err, IfOk, IfErr, OnErr}
use Rattle.serde_json.specs.Data.{Data}
use Rattle.jl_sketch.specs.Faults.{IsWritten}
use Rattle.jl_sketch.specs.declared.sketch.Sketch.{Sketch}
use Rattle.jl_types.specs.Events.Event.{Event}
use Rattle.jl_types.specs.declared.event.Reply.{Reply}
use Rattle.jl_types.specs.declared.refusal.Refusal.{Refusal}
use Rattle.jl_types.specs.Events.Verdict.{verdict}
use Rattle.jl_core.specs.State.{State, world_of, IsAccepted, IsApplied, IsRefused}
use Rattle.jl_json.specs.declared.command.ClassSource.TheVariants as source
use Rattle.jl_json.specs.ForProofs.NameReading.{name_text}
use Rattle.jl_json.proofs.NameLaws.{spells}
use Rattle.jl_json.specs.Replies.{reply_data}
use Rattle.jl_json.specs.EventRefusals.{event_refusal_data}
use Rattle.jl_session.specs.Obeying.{LacksAnswer, IsEventData, IsFileDefined, IsDefined}
use Rattle.jl_session.specs.Sessions.{Session, IsEventAnswer}

pub on_err : {X E : Type 0} {P Q : Type 0} → (P → Q) → (r : Result X E) → OnErr r P → OnErr r Q
on_err f (Ok x) h = tt
on_err f (Err e) h = f h

pub if_err : {X E : Type 0} {P : Type 0} → P → (r : Result X E) → OnErr r P
if_err p (Ok x) = tt
if_err p (Err e) = p

-- if each of these answers gives one of those
pub lacks_as : {S A B : Type 0} (old new : S) (P : A → Type 0) (Q : B → Type 0) → ((a : A) → P a → (b : B) × Q b)
    → LacksAnswer old P new → LacksAnswer old Q new
lacks_as old new P Q f (inl e) = inl e
lacks_as old new P Q f (inr p) = inr (f p.0 p.1)

pub some_data : (outcome : Result Reply Refusal) → (answer : Data) × IsEventData outcome answer
some_data (Ok reply) = (reply_data reply, refl)
some_data (Err r) = (event_refusal_data name_text r, (name_text, spells, refl))

-- what the clauses of the core's event say together
pub applied_by : (old new : State) (e : Event) (outcome : Result Reply Refusal) → IfOk outcome (IsAccepted old new e)
    → IfErr outcome (IsRefused (verdict old.limits (world_of old) e)) → OnErr outcome (new ≡ old)
    → IsApplied old e outcome new
applied_by old new e (Ok reply) accepted refused unchanged = accepted
applied_by old new e (Err r) accepted refused unchanged = (refused, unchanged)

-- the event came to its outcome, whatever is said of it
pub event_lacks : (old new : Session) (e : Event) (outcome : Result Reply Refusal)
    → IsApplied old.core e outcome new.core → new.batches ≡ old.batches
    → LacksAnswer old (λ answer. IsEventAnswer old e answer new) new
event_lacks old new e outcome applied same = inr (
  (some_data outcome).0,
  record { outcome = outcome; applied = applied; batches = same; said = (some_data outcome).1 },
)

pub sketch_lacks : {S : Type 0} (IsEvent : S → Event → Data → S → Type 0) (old new : S) (loader : ℕ) (sketch : Sketch) (bytes : List ℕ)
    → IsWritten sketch bytes → LacksAnswer old (λ answer. IsFileDefined IsEvent old loader bytes answer new) new
    → LacksAnswer old (λ answer. IsDefined IsEvent old loader (source.Sketch sketch) answer new) new
sketch_lacks IsEvent old new loader sketch bytes written lacks =
    lacks_as old new (λ answer. IsFileDefined IsEvent old loader bytes answer new)
    (λ answer. IsDefined IsEvent old loader (source.Sketch sketch) answer new)
    (λ answer said. (answer, inl (bytes, written, said))) lacks
