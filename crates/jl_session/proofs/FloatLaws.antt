-- No answer has a float, so its text is stated.
use Rattle.std.proofs.Common.{◌≡◌, ◌∙◌, ap, refl, ℕ, List, false, Option, Some, None, Result, Ok, Err, MatchOption, inl, inr}
use Rattle.std.specs.Prelude.{slice_get, length}
use Rattle.serde_json.specs.Data.{Data}
use Rattle.serde_json.specs.Written.{has_float}
use Rattle.jl_sketch.specs.declared.fault.SketchFault.{SketchFault}
use Rattle.jl_sketch.specs.declared.fault.SketchFault.TheVariants as sketch
use Rattle.jl_types.specs.declared.link.Link.{Link}
use Rattle.jl_types.specs.Events.Event.{Event}
use Rattle.jl_types.specs.declared.event.EventOf.TheVariants as event
use Rattle.jl_types.specs.declared.event.Reply.{Reply}
use Rattle.jl_types.specs.declared.refusal.Refusal.{Refusal}
use Rattle.jl_types.specs.declared.refusal.PrepareFault.{PrepareFault}
use Rattle.jl_relink.specs.declared.preparation.Prepared.{Prepared}
use Rattle.jl_json.specs.Commands.{AskedEvent}
use Rattle.jl_json.specs.Refusals.{sketch_refusal_data}
use Rattle.jl_json.specs.declared.command.Command.{Command}
use Rattle.jl_json.specs.declared.command.Command.TheVariants as command
use Rattle.jl_json.proofs.FloatLaws.{refusal_floats, reply_floats, event_refusal_floats, prepared_floats, prepare_refusal_floats, answer_floats, links_floats}
use Rattle.jl_session.specs.Scans.{IsFaultAnswer}
use Rattle.jl_session.specs.Obeying.{IsEventData, IsNoCommand, IsObeyed}
use Rattle.jl_session.specs.Sessions.{Session, IsEventAnswer, IsInstallAnswer, IsPreparedData, IsCommandAnswer, IsSessionAnswer}
use Rattle.jl_session.proofs.ObeyLaws.{obeyed_so, line_so}

fault_floats : (bytes : List ℕ) (answer : Data) → IsFaultAnswer bytes answer → has_float answer ≡ false
fault_floats bytes answer (inl p) = ap has_float p.2 ∙ refusal_floats _
fault_floats bytes answer (inr p) = ap has_float p ∙ refusal_floats _

pub event_floats : (outcome : Result Reply Refusal) (answer : Data) → IsEventData outcome answer → has_float answer ≡ false
event_floats (Ok reply) answer is = ap has_float is ∙ reply_floats reply
event_floats (Err r) answer is = ap has_float is.2 ∙ event_refusal_floats is.0 r

pub sketch_floats : (f : SketchFault) → has_float (sketch_refusal_data f) ≡ false
sketch_floats sketch.TooBig = refusal_floats _
sketch_floats (sketch.CallsWithoutCode i) = refusal_floats _
sketch_floats (sketch.Refused f) = refusal_floats _
sketch_floats sketch.Memory = refusal_floats _

-- of a command that asks for an event, if that of each event and each install has none
pub obeyed_floats : {S : Type 0} (IsEvent : S → Event → Data → S → Type 0) (IsInstall : S → ℕ → Data → S → Type 0) (old : S)
    → ((e : Event) (answer : Data) (new : S) → IsEvent old e answer new → has_float answer ≡ false)
    → ((batch : ℕ) (answer : Data) (new : S) → IsInstall old batch answer new → has_float answer ≡ false)
    → (asked : AskedEvent) (answer : Data) (new : S) → IsObeyed IsEvent IsInstall old asked answer new → has_float answer ≡ false
obeyed_floats IsEvent IsInstall old event_so install_so asked answer new =
    obeyed_so IsEvent IsInstall old (λ said _. has_float said ≡ false) event_so install_so
    (λ bytes said _ same is. fault_floats bytes said is)
    (λ s said _ same is. ap has_float is.2 ∙ sketch_floats is.0)
    answer new asked

prepare_floats : (old : Session) (outcome : Result Prepared PrepareFault) (answer : Data) (new : Session)
    → IsPreparedData old outcome answer new → has_float answer ≡ false
prepare_floats old (Ok prepared) answer new is = ap has_float is.0 ∙ prepared_floats (length old.batches) prepared.rows
prepare_floats old (Err f) answer new is = ap has_float is.0 ∙ prepare_refusal_floats f

install_floats : (o : Option (List (ℕ × Link))) (old : Session) (answer : Data) (new : Session)
    → MatchOption o (IsNoCommand old answer new) (λ rows. IsEventAnswer old (event.Install rows) answer new) → has_float answer ≡ false
install_floats None old answer new is = ap has_float is.0
install_floats (Some rows) old answer new is = event_floats is.outcome answer is.said

command_floats : (old : Session) (asked : Command) (answer : Data) (new : Session)
    → IsCommandAnswer old asked answer new → has_float answer ≡ false
command_floats old (command.Apply asked) answer new is =
    obeyed_floats IsEventAnswer IsInstallAnswer old (λ e said _ so. event_floats so.outcome said so.said)
    (λ batch said after so. install_floats (slice_get old.batches batch) old said after so) asked answer new is
command_floats old (command.Prepare sites) answer new is = prepare_floats old is.outcome answer new is.said
command_floats old (command.Call site recv) answer new is = ap has_float is.0 ∙ answer_floats _
command_floats old command.Links answer new is = ap has_float is.0 ∙ links_floats _

pub session_floats : (old : Session) (line : List ℕ) (answer : Data) (new : Session)
    → IsSessionAnswer old line answer new → has_float answer ≡ false
session_floats old line answer new is =
    line_so IsCommandAnswer old (λ said _. has_float said ≡ false) (command_floats old) (λ _ same. refl) answer new line is
