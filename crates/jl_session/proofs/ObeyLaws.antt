-- What holds of the answer to each event, and of each answer that leaves all as it was, holds of the answer to each command and each line.
use Rattle.std.proofs.Common.{◌≡◌, sym, subst, ℕ, List, Option, Some, None, inl, inr}
use Rattle.serde_json.specs.Data.{Data}
use Rattle.jl_classfile.specs.Shown.{shown}
use Rattle.jl_sketch.specs.declared.sketch.Sketch.{Sketch}
use Rattle.jl_types.specs.Events.Event.{Event}
use Rattle.jl_types.specs.declared.event.EventOf.TheVariants as event
use Rattle.jl_json.specs.Commands.{AskedEvent}
use Rattle.jl_json.specs.declared.command.Command.{Command}
use Rattle.jl_json.specs.declared.command.ClassSource.{ClassSource}
use Rattle.jl_json.specs.declared.command.ClassSource.TheVariants as source
use Rattle.jl_session.specs.Jsons.{bad_command}
use Rattle.jl_session.specs.Scans.{IsFaultAnswer}
use Rattle.jl_session.specs.Sketches.{IsSketchRefusal}
use Rattle.jl_session.specs.Obeying.{IsFileDefined, IsDefined, IsObeyed, IsAskedAnswer, IsLineAnswer}

module _ {S : Type 0} (IsEvent : S → Event → Data → S → Type 0) (IsInstall : S → ℕ → Data → S → Type 0) (old : S) (P : Data → S → Type 0)
    (event_so : (e : Event) (answer : Data) (new : S) → IsEvent old e answer new → P answer new)
    (install_so : (batch : ℕ) (answer : Data) (new : S) → IsInstall old batch answer new → P answer new)
    (fault_so : (bytes : List ℕ) (answer : Data) (new : S) → new ≡ old → IsFaultAnswer bytes answer → P answer new)
    (sketch_so : (sketch : Sketch) (answer : Data) (new : S) → new ≡ old → IsSketchRefusal sketch answer → P answer new)
    (answer : Data) (new : S) where
  file_so : (loader : ℕ) (bytes : List ℕ) → IsFileDefined IsEvent old loader bytes answer new → P answer new
  file_so loader bytes (inl p) = event_so (event.Define loader (shown p.0)) answer new p.2
  file_so loader bytes (inr p) = fault_so bytes answer new p.0 p.1

  define_so : (loader : ℕ) (s : ClassSource) → IsDefined IsEvent old loader s answer new → P answer new
  define_so loader (source.File bytes) is = file_so loader bytes is
  define_so loader (source.Sketch sketch) (inl p) = file_so loader p.0 p.2
  define_so loader (source.Sketch sketch) (inr p) = sketch_so sketch answer new p.0 p.1

  pub obeyed_so : (asked : AskedEvent) → IsObeyed IsEvent IsInstall old asked answer new → P answer new
  obeyed_so event.NewLoader is = event_so event.NewLoader answer new is
  obeyed_so (event.Define loader source) is = define_so loader source is
  obeyed_so (event.Delegate loader name to) is = event_so (event.Delegate loader name to) answer new is
  obeyed_so (event.Request place) is = event_so (event.Request place) answer new is
  obeyed_so (event.NewCallSite kind ty target) is = event_so (event.NewCallSite kind ty target) answer new is
  obeyed_so (event.SetTarget call_site target) is = event_so (event.SetTarget call_site target) answer new is
  obeyed_so event.NewSwitch is = event_so event.NewSwitch answer new is
  obeyed_so (event.Invalidate switches) is = event_so (event.Invalidate switches) answer new is
  obeyed_so (event.Bind site call_site) is = event_so (event.Bind site call_site) answer new is
  obeyed_so (event.Install batch) is = install_so batch answer new is
  obeyed_so (event.Retire loader) is = event_so (event.Retire loader) answer new is
  obeyed_so (event.RetireAll loaders) is = event_so (event.RetireAll loaders) answer new is
  obeyed_so (event.Release call_sites switches) is = event_so (event.Release call_sites switches) answer new is

module _ {S : Type 0} (IsCommand : S → Command → Data → S → Type 0) (old : S) (P : Data → S → Type 0)
    (command_so : (asked : Command) (answer : Data) (new : S) → IsCommand old asked answer new → P answer new)
    (none_so : (new : S) → new ≡ old → P bad_command new) (answer : Data) (new : S) where
  asked_so : (asked : Option Command) → IsAskedAnswer IsCommand old asked answer new → P answer new
  asked_so (Some asked) is = command_so asked answer new is
  asked_so None is = subst (λ (said : Data). P said new) (sym is.0) (none_so new is.1)

  pub line_so : (line : List ℕ) → IsLineAnswer S IsCommand old line answer new → P answer new
  line_so line is = asked_so is.asked is.said
