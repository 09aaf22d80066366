-- What a report shows of its job, by the lists of accepted events that it names.
use Rattle.std.specs.Prelude.{◌≡◌, ◌≢◌, ◌⊎◌, ◌<◌, ◌≤◌, ◌==◌, ◌||◌, ℕ, Bool, true, false, List, [], ◌∷◌, map, length, slice_get, unwrap_or, All, Any}
use Rattle.std.specs.Prelude.{Contains, IsErr}
use Rattle.std.specs.List.{list_any, count_by}
use Rattle.jl_types.specs.declared.limits.Limits.{Limits}
use mathlib.Core.List.{IsPrefix}
use Rattle.jl_types.specs.declared.link.Link.{Link}
use Rattle.jl_types.specs.declared.event.EventOf.TheVariants.{Install}
use Rattle.jl_types.specs.Values.World.{World}
use Rattle.jl_types.specs.Linkage.Links.{scratch}
use Rattle.jl_types.specs.Events.History.{world_after}
use Rattle.jl_types.specs.Events.Entries.{Entry, IsLegal, events_of}
use Rattle.jl_server.specs.declared.book.Receipt.{Receipt}
use Rattle.jl_server.specs.History.{EndsWith}
use Rattle.jl_farm.specs.declared.report.Report.{Report}
use Rattle.jl_farm.specs.declared.report.JobOutcome.{JobOutcome}
use Rattle.jl_farm.specs.declared.report.JobOutcome.TheVariants.{Installed, Stale, NotReady, Bad, Memory}

abbrev pub world_of : List Entry → World
world_of list = world_after (events_of list)

-- the list is a legal one, and begins with what was seen before
abbrev pub ComesAfter : Limits → List Entry → List Entry → Type 0
ComesAfter limits before list = IsPrefix before list × IsLegal limits list

-- a site stands twice
abbrev pub has_twice : List ℕ → Bool
has_twice [] = false
has_twice (s ∷ sites) = list_any (λ t. t == s) sites || has_twice sites

-- no batch has these sites: there are none or over 256, one isn't requested, or one stands twice
abbrev pub IsNoBatch : World → List ℕ → Type 0
IsNoBatch w sites = ((length sites ≡ 0) ⊎ (256 < length sites)) ⊎ (Any (λ s. length w.places ≤ s) sites ⊎ (has_twice sites ≡ true))

-- the receipt's list is longer than what was seen before, and ends with an install of the job's sites, in order
pub record IsInstalled {K : Type 0} (limits : Limits) (before : List Entry) (sites : List ℕ) (receipt : Receipt K) : Type 0 where
  pub after : ComesAfter limits before receipt.seen
  pub longer : length before < length receipt.seen
  pub serial : receipt.serial ≡ length receipt.seen
  pub rows : List (ℕ × Link)
  pub of_sites : map (λ row. row.0) rows ≡ sites
  pub last : EndsWith receipt.seen (Install rows) receipt.reply

-- a site of the job has another link from scratch after the second list than after the first, or none; the second list goes on the first
pub record IsStale (limits : Limits) (before first second : List Entry) (sites : List ℕ) : Type 0 where
  pub prepared : ComesAfter limits before first
  pub refused : ComesAfter limits first second
  pub differs : Any (λ s. scratch (world_of first) s ≢ scratch (world_of second) s) sites

-- a requested site of the job has no link from scratch after the list
pub record IsUnready (limits : Limits) (before list : List Entry) (sites : List ℕ) : Type 0 where
  pub after : ComesAfter limits before list
  pub unready : Any (λ s. (s < length (world_of list).places) × IsErr (scratch (world_of list) s)) sites

pub record IsRefusedBatch (limits : Limits) (before list : List Entry) (sites : List ℕ) : Type 0 where
  pub after : ComesAfter limits before list
  pub no_batch : IsNoBatch (world_of list) sites

-- what the outcome says is so for a job of these sites, and for a caller that had seen so much before; of want of memory nothing is said
abbrev pub IsShown : {K : Type 0} → Limits → List Entry → List ℕ → JobOutcome K → Type 0
IsShown limits before sites (Installed receipt) = IsInstalled limits before sites receipt
IsShown limits before sites (Stale first second) = IsStale limits before first second sites
IsShown limits before sites (NotReady list) = IsUnready limits before list sites
IsShown limits before sites (Bad list) = IsRefusedBatch limits before list sites
IsShown limits before sites Memory = Unit {0}

-- the sites of the job of this number
abbrev pub job_sites : List (List ℕ) → ℕ → List ℕ
job_sites jobs job = unwrap_or (slice_get jobs job) []

abbrev pub jobs_of : {K : Type 0} → List (Report K) → List ℕ
jobs_of reports = map (λ report. report.job) reports

-- The report is of one of the jobs, and shows what it says; its caller is one of those that had seen these lists.
pub record IsReport {K : Type 0} (limits : Limits) (callers : List (List Entry)) (jobs : List (List ℕ)) (report : Report K) : Type 0 where
  pub before : List Entry
  pub of_caller : Contains callers before
  pub shown : IsShown limits before (job_sites jobs report.job) report.outcome

-- ---- several reports

-- the lists that an outcome names
abbrev pub lists_of : {K : Type 0} → JobOutcome K → List (List Entry)
lists_of (Installed receipt) = receipt.seen ∷ []
lists_of (Stale first second) = first ∷ second ∷ []
lists_of (NotReady list) = list ∷ []
lists_of (Bad list) = list ∷ []
lists_of Memory = []

-- All lists that the reports name begin one list.
pub record AreOfOneHistory {K : Type 0} (reports : List (Report K)) : Type 0 where
  pub whole : List Entry
  pub begins : All (λ report. All (λ list. IsPrefix list whole) (lists_of report.outcome)) reports

-- the outcome is the install of this serial
abbrev pub names_install : {K : Type 0} → ℕ → JobOutcome K → Bool
names_install serial (Installed receipt) = receipt.serial == serial
names_install serial (Stale first second) = false
names_install serial (NotReady list) = false
names_install serial (Bad list) = false
names_install serial Memory = false

-- how many of the reports name the install of this serial
abbrev pub installs_of : {K : Type 0} → ℕ → List (Report K) → ℕ
installs_of serial reports = count_by (λ report. names_install serial report.outcome) reports

-- two reports that name one install are of jobs of the same sites
abbrev pub AreOfSameSites : {K : Type 0} → List (List ℕ) → List (Report K) → Type 0
AreOfSameSites jobs reports =
    (serial : ℕ) → All (λ a. All (λ b. names_install serial a.outcome ≡ true → names_install serial b.outcome ≡ true
    → job_sites jobs a.job ≡ job_sites jobs b.job) reports) reports
