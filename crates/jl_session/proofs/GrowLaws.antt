-- What an answer leaves of the core: it accepted one event, or none.
use Rattle.std.proofs.Common.{◌≡◌, ◌⊎◌, ap, inl, inr, ℕ, List, Option, Some, None, Result, Ok, Err, MatchOption}
use Rattle.std.specs.Prelude.{slice_get}
use Rattle.serde_json.specs.Data.{Data}
use Rattle.jl_types.specs.declared.link.Link.{Link}
use Rattle.jl_types.specs.Events.Event.{Event}
use Rattle.jl_types.specs.declared.event.EventOf.TheVariants as event
use Rattle.jl_types.specs.declared.event.Reply.{Reply}
use Rattle.jl_types.specs.declared.refusal.Refusal.{Refusal}
use Rattle.jl_types.specs.declared.refusal.PrepareFault.{PrepareFault}
use Rattle.jl_relink.specs.declared.preparation.Prepared.{Prepared}
use Rattle.jl_core.specs.State.{State, IsAccepted, IsApplied}
use Rattle.jl_json.specs.declared.command.Command.{Command}
use Rattle.jl_json.specs.declared.command.Command.TheVariants as command
use Rattle.jl_session.specs.Obeying.{IsNoCommand, LacksAnswer}
use Rattle.jl_session.specs.Sessions.{Session, IsEventAnswer, IsInstallAnswer, IsPreparedData, IsCommandAnswer, IsSessionAnswer}
use Rattle.jl_session.proofs.ObeyLaws.{obeyed_so, line_so}

-- the core is the same, or accepted one event more
abbrev pub AtMostOneMore : State → State → Type 0
AtMostOneMore old new = (new ≡ old) ⊎ ((e : Event) × (reply : Reply) × IsAccepted old new e reply)

pub applied_grows : (old new : State) (e : Event) (outcome : Result Reply Refusal) → IsApplied old e outcome new
    → AtMostOneMore old new
applied_grows old new e (Ok reply) is = inr (e, reply, is)
applied_grows old new e (Err r) is = inl is.1

same_core : (old new : Session) → new ≡ old → AtMostOneMore old.core new.core
same_core old new same = inl (ap (λ (s : Session). s.core) same)

prepare_grows : (old : Session) (outcome : Result Prepared PrepareFault) (answer : Data) (new : Session)
    → IsPreparedData old outcome answer new → AtMostOneMore old.core new.core
prepare_grows old (Ok prepared) answer new is = inl (ap (λ (s : Session). s.core) is.1)
prepare_grows old (Err f) answer new is = same_core old new is.1

module _ (old : Session) where
  event_grows : (e : Event) (answer : Data) (new : Session) → IsEventAnswer old e answer new → AtMostOneMore old.core new.core
  event_grows e answer new is = applied_grows old.core new.core e is.outcome is.applied

  install_grows : (o : Option (List (ℕ × Link))) (answer : Data) (new : Session)
      → MatchOption o (IsNoCommand old answer new) (λ rows. IsEventAnswer old (event.Install rows) answer new) → AtMostOneMore old.core new.core
  install_grows None answer new is = same_core old new is.1
  install_grows (Some rows) answer new is = event_grows (event.Install rows) answer new is

  command_grows : (asked : Command) (answer : Data) (new : Session) → IsCommandAnswer old asked answer new → AtMostOneMore old.core new.core
  command_grows (command.Apply asked) answer new is =
      obeyed_so IsEventAnswer IsInstallAnswer old (λ _ after. AtMostOneMore old.core after.core) event_grows
      (λ batch said after so. install_grows (slice_get old.batches batch) said after so)
      (λ bytes said after same so. same_core old after same) (λ s said after same so. same_core old after same)
      answer new asked is
  command_grows (command.Prepare sites) answer new is = prepare_grows old is.outcome answer new is.said
  command_grows (command.Call site recv) answer new is = same_core old new is.1
  command_grows command.Links answer new is = same_core old new is.1

  -- an answer to a line
  pub answer_grows : (line : List ℕ) (answer : Data) (new : Session) → IsSessionAnswer old line answer new → AtMostOneMore old.core new.core
  answer_grows line answer new is =
      line_so IsCommandAnswer old (λ _ after. AtMostOneMore old.core after.core) command_grows (same_core old) answer new line is

-- and a line for whose answer there is no memory
pub lacks_grows : (old : Session) (line : List ℕ) (new : Session)
    → LacksAnswer old (λ answer. IsSessionAnswer old line answer new) new → AtMostOneMore old.core new.core
lacks_grows old line new (inl same) = same_core old new same
lacks_grows old line new (inr said) = answer_grows old line said.0 new said.1
