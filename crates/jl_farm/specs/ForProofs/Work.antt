-- What workers do with their turns at the queue. A means of proof.
use Rattle.std.specs.Prelude.{◌≡◌, ◌<◌, ◌≤◌, ◌+◌, ◌++◌, ◌&&◌, ℕ, nat_lt, nat_le, List, [], length, All, Contains, cond}
use Rattle.jl_types.specs.declared.limits.Limits.{Limits}
use mathlib.Core.List.{IsPrefix}
use Rattle.crossbeam_queue.specs.Passes.{view}
use Rattle.jl_types.specs.declared.refusal.Refusal.{Refusal}
use Rattle.jl_types.specs.declared.refusal.Refusal.TheVariants as refusal
use Rattle.jl_types.specs.declared.refusal.PrepareFault.{PrepareFault}
use Rattle.jl_types.specs.declared.refusal.PrepareFault.TheVariants as fault
use Rattle.jl_types.specs.Events.Entries.{Entry}
use Rattle.jl_farm.specs.declared.report.Report.{Report}
use Rattle.jl_farm.specs.declared.report.JobOutcome.{JobOutcome}
use Rattle.jl_farm.specs.declared.report.JobOutcome.TheVariants as outcome
use Rattle.jl_farm.specs.declared.worker.Worker.{Worker}
use Rattle.jl_farm.specs.ForProofs.Queued.{pass_view}
use Rattle.jl_farm.specs.Reports.{IsShown, job_sites, IsReport, jobs_of, installs_of}

-- the outcome of a job whose links were prepared after the first list, and refused after the second
abbrev pub refused_as : {K : Type 0} → List Entry → List Entry → Refusal → JobOutcome K
refused_as first second (refusal.Stale s l) = outcome.Stale first second
refused_as first second (refusal.NotReady s) = outcome.Stale first second
refused_as first second (refusal.UnknownSite s) = outcome.Bad second
refused_as first second (refusal.Repeated s) = outcome.Bad second
refused_as first second refusal.BatchSize = outcome.Bad second
refused_as first second _ = outcome.Memory

-- the outcome of a job whose sites weren't prepared after this list
abbrev pub unprepared_as : {K : Type 0} → List Entry → PrepareFault → JobOutcome K
unprepared_as list (fault.NotReady s) = outcome.NotReady list
unprepared_as list (fault.UnknownSite s) = outcome.Bad list
unprepared_as list (fault.Repeated s) = outcome.Bad list
unprepared_as list fault.BatchSize = outcome.Bad list
unprepared_as list fault.Memory = outcome.Memory

-- The caller that ran a job has seen just the list that its outcome names, of two the later one. Of want of memory nothing is said.
abbrev pub HasSeen : {K : Type 0} → List Entry → JobOutcome K → Type 0
HasSeen list (outcome.Installed receipt) = receipt.seen ≡ list
HasSeen list (outcome.Stale first second) = second ≡ list
HasSeen list (outcome.NotReady after) = after ≡ list
HasSeen list (outcome.Bad after) = after ≡ list
HasSeen list outcome.Memory = Unit {0}

-- one for each number past the first up to the second
abbrev pub between : ℕ → ℕ → ℕ → ℕ
between from to k = cond (nat_lt from k && nat_le k to) 1 0

-- The worker took jobs and reported them, in the order in which it took them, each install once.
pub record Works {K : Type 0} (limits : Limits) (jobs : List (List ℕ)) (old new : Worker K) : Type 0 where
  pub more : List (Report K)
  pub reports : new.reports.items ≡ old.reports.items ++ more
  pub pass : view new.pass ≡ pass_view (view old.pass).parts (view old.pass).put ((view old.pass).taken ++ jobs_of more)
  pub own : IsPrefix old.caller new.caller
  pub shown : All (λ report. IsShown limits old.caller (job_sites jobs report.job) report.outcome) more
  pub once : (serial : ℕ) → installs_of serial more ≤ between (length old.caller) (length new.caller) serial

-- A worker that has just begun, of one of these callers.
pub record IsHired {K : Type 0} (callers : List (List Entry)) (worker : Worker K) : Type 0 where
  pub own : Contains callers worker.caller
  pub pass : view worker.pass ≡ pass_view 1 [] []
  pub none : worker.reports.items ≡ []

-- A worker took just the jobs that it reported, and its reports are shown; it had seen what one of the callers had.
pub record HasReported {K : Type 0} (limits : Limits) (callers : List (List Entry)) (jobs : List (List ℕ)) (worker : Worker K) : Type 0 where
  pub taken : (view worker.pass).taken ≡ jobs_of worker.reports.items
  pub shown : All (IsReport limits callers jobs) worker.reports.items
  pub before : List Entry
  pub of_caller : Contains callers before
  pub own : IsPrefix before worker.caller

-- A worker that has none of another one's turn or reports: its turn is one part, and has put nothing, and it has reported each install once.
abbrev pub HasOne : {K : Type 0} → Worker K → Type 0
HasOne worker = ((view worker.pass).parts ≡ 1) × ((view worker.pass).put ≡ [])
    × ((serial : ℕ) → installs_of serial worker.reports.items ≤ between 0 (length worker.caller) serial)

-- The worker has taken over the reports of so many others.
pub record HasTaken {K : Type 0} (others : ℕ) (old new : Worker K) : Type 0 where
  pub own : new.caller ≡ old.caller
  pub most : (serial : ℕ) → installs_of serial new.reports.items ≤ installs_of serial old.reports.items + others

abbrev pub HasPart : {K : Type 0} → Worker K → Type 0
HasPart worker = 0 < (view worker.pass).parts
