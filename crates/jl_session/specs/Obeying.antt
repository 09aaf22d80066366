-- What commands are answered, whatever they are obeyed on: a core, or a server. What an event and an install do there is given, each as a
-- relation of what was there before, the answer, and what is there afterwards.
use Rattle.std.specs.Prelude.{◌≡◌, ◌⊎◌, ℕ, List, Option, Some, None, Result, Ok, Err}
use Rattle.serde_json.specs.Data.{Data}
use Rattle.jl_classfile.specs.Parts.{Parts}
use Rattle.jl_classfile.specs.ClassFiles.{IsClass}
use Rattle.jl_classfile.specs.Shown.{shown}
use Rattle.jl_sketch.specs.Faults.{IsWritten}
use Rattle.jl_types.specs.Events.Event.{Event}
use Rattle.jl_types.specs.declared.event.EventOf.TheVariants as event
use Rattle.jl_types.specs.declared.event.Reply.{Reply}
use Rattle.jl_types.specs.declared.refusal.Refusal.{Refusal}
use Rattle.jl_json.specs.declared.command.Command.{Command}
use Rattle.jl_json.specs.declared.command.ClassSource.{ClassSource}
use Rattle.jl_json.specs.declared.command.ClassSource.TheVariants as source
use Rattle.jl_json.specs.Replies.{reply_data}
use Rattle.jl_json.specs.EventRefusals.{IsRefusalData}
use Rattle.jl_json.specs.Commands.{AskedEvent, command_of}
use Rattle.jl_session.specs.Jsons.{IsReadAs, bad_command}
use Rattle.jl_session.specs.Scans.{IsFaultAnswer}
use Rattle.jl_session.specs.Sketches.{IsSketchRefusal}

-- If there is no memory for an answer, all is as before, or as one of these answers leaves it.
abbrev pub LacksAnswer : {S A : Type 0} → S → (A → Type 0) → S → Type 0
LacksAnswer {A = A} old IsSaid new = (new ≡ old) ⊎ ((answer : A) × IsSaid answer)

-- the JSON of the reply, or of the refusal
abbrev pub IsEventData : Result Reply Refusal → Data → Type 0
IsEventData (Ok reply) answer = answer ≡ reply_data reply
IsEventData (Err r) answer = IsRefusalData r answer

-- no command here
abbrev pub IsNoCommand : {S : Type 0} → S → Data → S → Type 0
IsNoCommand old answer new = (answer ≡ bad_command) × (new ≡ old)

-- the event of the class that the bytes are; or their fault, or want of memory
abbrev pub IsFileDefined : {S : Type 0} → (S → Event → Data → S → Type 0) → S → ℕ → List ℕ → Data → S → Type 0
IsFileDefined IsEvent old loader bytes answer new =
    ((p : Parts) × IsClass bytes p × IsEvent old (event.Define loader (shown p)) answer new)
    ⊎ ((new ≡ old) × IsFaultAnswer bytes answer)

-- by the bytes of a file, or those that a sketch is written as; or why the sketch isn't written
abbrev pub IsDefined : {S : Type 0} → (S → Event → Data → S → Type 0) → S → ℕ → ClassSource → Data → S → Type 0
IsDefined IsEvent old loader (source.File bytes) answer new = IsFileDefined IsEvent old loader bytes answer new
IsDefined IsEvent old loader (source.Sketch sketch) answer new =
    ((bytes : List ℕ) × IsWritten sketch bytes × IsFileDefined IsEvent old loader bytes answer new)
    ⊎ ((new ≡ old) × IsSketchRefusal sketch answer)

-- the event that is asked for, a definition by its class file, an install by its batch
abbrev pub IsObeyed : {S : Type 0} → (S → Event → Data → S → Type 0) → (S → ℕ → Data → S → Type 0) → S → AskedEvent → Data → S → Type 0
IsObeyed IsEvent IsInstall old event.NewLoader answer new = IsEvent old event.NewLoader answer new
IsObeyed IsEvent IsInstall old (event.Define loader source) answer new = IsDefined IsEvent old loader source answer new
IsObeyed IsEvent IsInstall old (event.Delegate loader name to) answer new = IsEvent old (event.Delegate loader name to) answer new
IsObeyed IsEvent IsInstall old (event.Request place) answer new = IsEvent old (event.Request place) answer new
IsObeyed IsEvent IsInstall old (event.NewCallSite kind ty target) answer new = IsEvent old (event.NewCallSite kind ty target) answer new
IsObeyed IsEvent IsInstall old (event.SetTarget call_site target) answer new = IsEvent old (event.SetTarget call_site target) answer new
IsObeyed IsEvent IsInstall old event.NewSwitch answer new = IsEvent old event.NewSwitch answer new
IsObeyed IsEvent IsInstall old (event.Invalidate switches) answer new = IsEvent old (event.Invalidate switches) answer new
IsObeyed IsEvent IsInstall old (event.Bind site call_site) answer new = IsEvent old (event.Bind site call_site) answer new
IsObeyed IsEvent IsInstall old (event.Install batch) answer new = IsInstall old batch answer new
IsObeyed IsEvent IsInstall old (event.Retire loader) answer new = IsEvent old (event.Retire loader) answer new
IsObeyed IsEvent IsInstall old (event.RetireAll loaders) answer new = IsEvent old (event.RetireAll loaders) answer new
IsObeyed IsEvent IsInstall old (event.Release call_sites switches) answer new = IsEvent old (event.Release call_sites switches) answer new

-- ---- what a line is answered

abbrev pub IsAskedAnswer : {S : Type 0} → (S → Command → Data → S → Type 0) → S → Option Command → Data → S → Type 0
IsAskedAnswer IsCommand old (Some asked) answer new = IsCommand old asked answer new
IsAskedAnswer IsCommand old None answer new = IsNoCommand old answer new

-- the answer to the command that the line is read as, if it is one
pub record IsLineAnswer (S : Type 0) (IsCommand : S → Command → Data → S → Type 0) (old : S) (line : List ℕ) (answer : Data) (new : S) : Type 0 where
  pub asked : Option Command
  pub is : IsReadAs command_of line asked
  pub said : IsAskedAnswer IsCommand old asked answer new
