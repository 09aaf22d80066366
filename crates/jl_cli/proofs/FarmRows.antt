-- What the mode farm answers and how it ends, by computation.
use Rattle.std.proofs.Common.{◌≡◌, ℕ, List, [], ◌∷◌, refl, inl, inr, arith, subst, Ok, Err}
use Rattle.std.specs.Prelude.{codes, All}
use Rattle.std.proofs.lemmas.List.Elements.{All-head}
use mathlib.Core.List.{IsPrefix}
use Rattle.serde_json.specs.Data.{Data}
use Rattle.serde_json.specs.Written.{compact_text}
use Rattle.serde_json.proofs.OnLiterals.{serde_json_on_literals}
use Rattle.jl_types.specs.declared.event.EventOf.TheVariants as event
use Rattle.jl_types.specs.declared.event.Reply.{Reply}
use Rattle.jl_types.specs.declared.refusal.Refusal.TheVariants.{UnknownClass}
use Rattle.jl_types.specs.Events.Limits.{fixed}
use Rattle.jl_types.specs.Events.Entries.{Entry}
use Rattle.jl_json.specs.declared.command.Command.TheVariants as command
use Rattle.jl_json.specs.LinkAnswers.{site_links_data}
use Rattle.jl_server.specs.declared.book.Receipt.{Receipt}
use Rattle.jl_server.specs.declared.seen.Seen.{Seen}
use Rattle.jl_farm.specs.declared.fault.FarmFault.{FarmFault}
use Rattle.jl_farm.specs.declared.report.JobOutcome.TheVariants.{Installed, Stale, NotReady, Bad, Memory}
use Rattle.jl_lines.specs.declared.line_fault.LineFault.TheVariants.{TooLong}
use Rattle.jl_cli.specs.declared.farm_fault.FarmLineFault.TheVariants.{Line, Farm}
use Rattle.jl_cli.specs.Farms.{IsServedAs, IsCommandServed, IsLastLine, FarmLongIf, outcome_name, last_data, reports_data}

-- ---- a command

-- an event that is taken is one entry more
taken_without_an_entry : (reply : Reply) → IsServedAs (fixed 65536) [] event.NewLoader (Ok reply) [] → ⊥
taken_without_an_entry reply is = let more = is.1 in omega (arith, more)

-- what is refused has that refusal
loader_refused : IsServedAs (fixed 65536) [] event.NewLoader (Err UnknownClass) [] → ⊥
loader_refused (inl e) = cc e
loader_refused (inr e) = let clash = e.0 in cc clash

-- links are no command, nor are preparations, calls and installs, and nothing happens
links_do_nothing : (old new : List Entry) (answer : Data) → IsCommandServed (fixed 65536) old command.Links answer new → new ≡ old
links_do_nothing old new answer is = is.1

install_does_nothing : (old new : List Entry) (answer : Data) (batch : ℕ) → IsCommandServed (fixed 65536) old (command.Apply (event.Install batch)) answer new
    → new ≡ old
install_does_nothing old new answer batch is = is.1

-- ---- the last line

module _ (K : Type 0) where
  no_jobs : compact_text (last_data {K = K} [] []) ≡ codes "{\"links\":[],\"reports\":[]}"
  unfolding reports_data site_links_data serde_json_on_literals
  no_jobs = refl

  -- the names of outcomes
  installed_name : (receipt : Receipt K) → outcome_name {K = K} (Installed receipt) ≡ codes "Installed"
  installed_name receipt = refl

  stale_name : (first second : Seen K) → outcome_name {K = K} (Stale first second) ≡ codes "Stale"
  stale_name first second = refl

  not_ready_name : (list : Seen K) → outcome_name {K = K} (NotReady list) ≡ codes "NotReady"
  not_ready_name list = refl

  bad_name : (list : Seen K) → outcome_name {K = K} (Bad list) ≡ codes "Bad"
  bad_name list = refl

  -- reports in their order
  two_jobs : (list : Seen K)
      → compact_text (last_data {K = K} [] (record { job = 0; outcome = NotReady list } ∷ record { job = 1; outcome = Memory } ∷ []))
      ≡ codes "{\"links\":[],\"reports\":[\"NotReady\",\"Memory\"]}"
  unfolding reports_data site_links_data serde_json_on_literals
  two_jobs list = refl

  -- what a caller that has learnt nothing reports stands in no last line after an accepted event
  told_nothing : (entry : Entry) (text : List ℕ) (last : IsLastLine K (fixed 65536) (entry ∷ []) text) → last.callers ≡ [] ∷ [] → ⊥
  told_nothing entry text last e =
      let told : IsPrefix (entry ∷ []) [] =
      All-head (IsPrefix (entry ∷ [])) [] [] (subst (λ (cs : List (List Entry)). All (IsPrefix (entry ∷ [])) cs) e last.told) in
      let clash = told.1 in cc clash

-- ---- how a farm over lines ends

-- a farm that failed has had all lines answered
failed_after_all : (fault : FarmFault) → FarmLongIf (Farm fault) []
failed_after_all fault = refl

failed_before_a_line : (fault : FarmFault) (line : List ℕ) (lines : List (List ℕ)) → FarmLongIf (Farm fault) (line ∷ lines) → ⊥
failed_before_a_line fault line lines is = cc is

-- a line that is too long is there
long_after_all : FarmLongIf (Line TooLong) [] → ⊥
long_after_all is = is
