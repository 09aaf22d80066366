-- What the lines of the mode farm are answered, by a link server, and the line that a farm ends with. What a caller of a server has seen is a
-- list of accepted events with their replies; it only grows.
use Rattle.std.specs.Prelude.{◌≡◌, ◌⊎◌, ◌<◌, ℕ, List, [], ◌∷◌, ◌++◌, codes, map, length, All, Option, Result, Ok, Err}
use mathlib.Core.List.{IsPrefix}
use Rattle.std.specs.Io.KnownBytes.{Appends}
use Rattle.jl_types.specs.declared.limits.Limits.{Limits}
use Rattle.serde_json.specs.Data.{Data, string, array}
use Rattle.serde_json.specs.View.{items_of}
use Rattle.serde_json.specs.Written.{compact_text}
use Rattle.jl_types.specs.Events.Event.{Event}
use Rattle.jl_types.specs.declared.event.Reply.{Reply}
use Rattle.jl_types.specs.declared.refusal.Refusal.{Refusal}
use Rattle.jl_types.specs.Events.Verdict.{verdict}
use Rattle.jl_types.specs.Events.History.{world_after, site_numbers, installed_links}
use Rattle.jl_types.specs.Events.Entries.{Entry, IsLegal, events_of}
use Rattle.jl_core.specs.State.{IsRefused}
use Rattle.jl_json.specs.declared.command.Command.{Command}
use Rattle.jl_json.specs.declared.command.Command.TheVariants as command
use Rattle.jl_json.specs.LinkAnswers.{farm_data}
use Rattle.jl_session.specs.Jsons.{IsTextOf}
use Rattle.jl_session.specs.Obeying.{IsEventData, IsNoCommand, IsObeyed, IsLineAnswer}
use Rattle.jl_server.specs.History.{EndsWith}
use Rattle.jl_farm.specs.declared.report.Report.{Report}
use Rattle.jl_farm.specs.declared.report.JobOutcome.{JobOutcome}
use Rattle.jl_farm.specs.declared.report.JobOutcome.TheVariants.{Installed, Stale, NotReady, Bad, Memory}
use Rattle.jl_farm.specs.Reports.{IsReport, AreOfOneHistory, jobs_of}
use Rattle.jl_cli.specs.declared.farm_fault.FarmLineFault.{FarmLineFault}
use Rattle.jl_cli.specs.declared.farm_fault.FarmLineFault.TheVariants.{Line, Farm}
use Rattle.jl_lines.specs.Lines.{lines_of, ended}
use Rattle.jl_lines.specs.Answers.{AreAnswers, AnswersAll, AnswersEarlier, AreShort, LongIf}

-- ---- what a command is answered

-- the event ends what is seen afterwards, with its reply; or it is refused after that
abbrev pub IsServedAs : Limits → List Entry → Event → Result Reply Refusal → List Entry → Type 0
IsServedAs limits old e (Ok reply) new = EndsWith new e reply × (length old < length new)
IsServedAs limits old e (Err r) new = IsRefused (verdict limits (world_after (events_of new)) e) r

-- the server takes the event or refuses it, after all that was seen before, and the answer says which
pub record IsServed (limits : Limits) (old : List Entry) (e : Event) (answer : Data) (new : List Entry) : Type 0 where
  pub outcome : Result Reply Refusal
  pub grown : IsPrefix old new
  pub legal : IsLegal limits new
  pub applied : IsServedAs limits old e outcome new
  pub said : IsEventData outcome answer

-- an install is no command here
abbrev pub IsNoInstall : List Entry → ℕ → Data → List Entry → Type 0
IsNoInstall old batch answer new = IsNoCommand old answer new

-- an event; preparations, calls and lists of links are none here
abbrev pub IsCommandServed : Limits → List Entry → Command → Data → List Entry → Type 0
IsCommandServed limits old (command.Apply asked) answer new = IsObeyed (IsServed limits) IsNoInstall old asked answer new
IsCommandServed limits old (command.Prepare sites) answer new = IsNoCommand old answer new
IsCommandServed limits old (command.Call site recv) answer new = IsNoCommand old answer new
IsCommandServed limits old command.Links answer new = IsNoCommand old answer new

-- ---- what a line is answered

abbrev pub IsLineServed : Limits → List Entry → List ℕ → Data → List Entry → Type 0
IsLineServed limits old line answer new = IsLineAnswer (List Entry) (IsCommandServed limits) old line answer new

-- the text that a line is answered, and what the caller has seen afterwards
abbrev pub IsFarmAnswer : Limits → List Entry → List ℕ → List ℕ → List Entry → Type 0
IsFarmAnswer limits old line text new = IsTextOf (λ answer. IsLineServed limits old line answer new) text

-- ---- the last line

-- a job for each of these sites, of that site alone
abbrev pub job_of_each : List ℕ → List (List ℕ)
job_of_each sites = map (λ s. s ∷ []) sites

-- the name of a job's outcome
abbrev pub outcome_name : {K : Type 0} → JobOutcome K → List ℕ
outcome_name (Installed receipt) = codes "Installed"
outcome_name (Stale first second) = codes "Stale"
outcome_name (NotReady list) = codes "NotReady"
outcome_name (Bad list) = codes "Bad"
outcome_name Memory = codes "Memory"

abbrev pub report_data : {K : Type 0} → Report K → Data
report_data report = string (outcome_name report.outcome)

-- the names of the jobs' outcomes, in order
unfoldable pub reports_data : {K : Type 0} → List (Report K) → Data
reports_data reports = array (items_of (map report_data reports))

-- the links that are installed after these events, and the names of the jobs' outcomes
abbrev pub last_data : {K : Type 0} → List Entry → List (Report K) → Data
last_data list reports = farm_data (installed_links (events_of list)) (reports_data reports)

-- The text of the last line, after what was seen when the lines were answered. Each site that is requested by then is a job. The reports
-- are of these, each once, in order, by callers that had been told of what was seen. The links are those after a list that comes later.
pub record IsLastLine (K : Type 0) (limits : Limits) (answered : List Entry) (text : List ℕ) : Type 0 where
  pub asked : List Entry
  pub later : IsPrefix answered asked
  pub reports : List (Report K)
  pub each : jobs_of reports ≡ site_numbers (events_of asked)
  pub callers : List (List Entry)
  pub told : All (IsPrefix answered) callers
  pub shown : All (IsReport limits callers (job_of_each (site_numbers (events_of asked)))) reports
  pub history : AreOfOneHistory reports
  pub linked : List Entry
  pub grown : IsPrefix asked linked
  pub legal : IsLegal limits linked
  pub is : text ≡ compact_text (last_data linked reports)

-- ---- what a run leaves

-- Each line is answered, from a server on that has taken no event. After the answers stands the last line, and nothing else.
pub record FarmsAll (K : Type 0) (limits : Limits) (input : List ℕ) (old new : Option (List ℕ)) : Type 0 where
  pub short : AreShort (lines_of input)
  pub output : List ℕ
  pub seen : List Entry
  pub answers : AreAnswers (IsFarmAnswer limits) [] (lines_of input) output seen
  pub text : List ℕ
  pub last : IsLastLine K limits seen text
  pub written : Appends old new (output ++ ended text)

-- a fault of lines comes before a line that is too long if it says so; one of the farm after all lines
abbrev pub FarmLongIf : FarmLineFault → List (List ℕ) → Type 0
FarmLongIf (Line fault) after = LongIf fault after
FarmLongIf (Farm fault) after = after ≡ []

-- After want of memory the answers to some first lines were written whole. Among them are those to all lines whose newline had been read
-- when this was left to read. Or all lines were answered, and there is no memory for the last line.
abbrev pub FarmsEarlier : Limits → List ℕ → Option (List ℕ) → Option (List ℕ) → Option (List ℕ) → Type 0
FarmsEarlier limits input unread old new =
    AnswersEarlier (IsFarmAnswer limits) [] input unread old new ⊎ AnswersAll (IsFarmAnswer limits) [] input old new
