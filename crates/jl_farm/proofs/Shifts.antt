-- What a worker's jobs come to, job by job and worker by worker.
use Rattle.std.proofs.Common.{◌≡◌, ◌<◌, ℕ, zero, suc, List, [], ◌∷◌, ◌++◌, length, take, drop, get_or, All, Contains, ap, sym, ◌∙◌, subst, arith, append_assoc}
use Rattle.std.specs.List.{AllZip, sum_by, range_with_len}
use Rattle.std.specs.List.Sorted.{IsPermutation, IsNonDecreasingBy}
use Rattle.std.proofs.lemmas.List.{append-nil, map-append, take-append-le, take_all}
use Rattle.std.proofs.lemmas.List.Sorted.{IsPermutation-map, sum_by-IsPermutation}
use Rattle.std.proofs.lemmas.List.Elements.{All-append}
use mathlib.Core.List.{IsPrefix}
use Rattle.crossbeam_queue.specs.Passes.{view}
use Rattle.jl_types.specs.declared.limits.Limits.{Limits}
use Rattle.jl_types.specs.Events.Entries.{Entry}
use Rattle.jl_server.proofs.Beginnings.{prefix_self, prefix_trans, prefix_length}
use Rattle.jl_farm.specs.declared.job_queue.PassView.{PassView}
use Rattle.jl_farm.specs.declared.report.Report.{Report}
use Rattle.jl_farm.specs.declared.worker.Worker.{Worker}
use Rattle.jl_farm.specs.ForProofs.Queued.{pass_view, KnowsAll}
use Rattle.jl_farm.specs.Reports.{IsShown, job_sites, IsReport, jobs_of, installs_of}
use Rattle.jl_farm.specs.ForProofs.Work.{Works, HasSeen, IsHired, HasReported, HasOne}
use Rattle.jl_farm.proofs.Outcomes.{shown_before}
use Rattle.jl_farm.proofs.EachOnce.{each_once}
use Rattle.jl_farm.proofs.Installs.{between_both, between_least, installs_both, once_each}

-- ---- lists that are popped

all_parts : {X : Type 0} (P : X → Type 0) (xs : List X) (x : X) → All P (xs ++ x ∷ []) → All P xs × P x
all_parts P [] x all = ((λ k d lt. absurd (omega arith)), all 0 x (omega arith))
all_parts {X = X} P (y ∷ xs) x all =
    let rest = all_parts P xs x (λ k d lt. all (suc k) d (omega arith)) in (by_place rest.0, rest.1)
  where
    by_place : All P xs → All P (y ∷ xs)
    by_place rest zero d lt = all 0 d (omega arith)
    by_place rest (suc k) d lt = rest k d (omega arith)

pub all_popped : {X : Type 0} (P : X → Type 0) (all xs : List X) (x : X) → all ≡ xs ++ x ∷ [] → All P all → All P xs × P x
all_popped P all xs x is each = all_parts P xs x (subst (All P) is each)

pub all_pushed : {X : Type 0} (P : X → Type 0) (xs ys : List X) (x : X) → ys ≡ xs ++ x ∷ [] → All P xs → P x → All P ys
all_pushed P xs ys x is all one = subst (All P) (sym is) (All-append P xs (x ∷ []) all by_place)
  where
    by_place : All P (x ∷ [])
    by_place zero d lt = one
    by_place (suc k) d lt = absurd (omega arith)

pub all_none : {X : Type 0} (P : X → Type 0) → All P []
all_none P k d lt = absurd (omega arith)

-- what holds at each place
pub zip_each : {X : Type 0} (R : X → X → Type 0) (xs ys : List X) → length ys ≡ length xs
    → ((k : ℕ) (d : X) → k < length xs → R (get_or xs k d) (get_or ys k d)) → AllZip R xs ys
zip_each R [] [] same each = tt
zip_each R [] (y ∷ ys) same each = absurd (omega arith)
zip_each R (x ∷ xs) [] same each = absurd (omega arith)
zip_each R (x ∷ xs) (y ∷ ys) same each = (each 0 x (omega arith), zip_each R xs ys (omega arith) (λ k d lt. each (suc k) d (omega arith)))

-- a vector's items after a function over all of them
pub zip_served : {X : Type 0} (R : X → X → Type 0) (old new : List X) (len : ℕ) → length old ≡ len → length new ≡ length old
    → ((k : ℕ) (d : X) → k < length old → R (get_or old k d) (get_or new k d)) → AllZip R old (take len (new ++ drop (length new) old))
zip_served R old new len whole same each =
    subst (AllZip R old) (sym (take-append-le len new (drop (length new) old) (omega arith) ∙ take_all len new (omega arith))) (zip_each R old new same each)

all_cons : {X : Type 0} (P : X → Type 0) (x : X) (xs : List X) → P x → All P xs → All P (x ∷ xs)
all_cons P x xs one all zero d lt = one
all_cons P x xs one all (suc k) d lt = all k d (omega arith)

-- ---- jobs, one after another

module _ {K : Type 0} (n : Limits) (jobs : List (List ℕ)) where
  pub works_none : (old new : Worker K) → new.reports.items ≡ old.reports.items → view new.pass ≡ view old.pass → new.caller ≡ old.caller → Works n jobs old new
  works_none old new reports pass own = record {
    more = [];
    reports = reports ∙ sym (append-nil old.reports.items);
    pass = pass ∙ ap (pass_view (view old.pass).parts (view old.pass).put) (sym (append-nil (view old.pass).taken));
    own = subst (IsPrefix old.caller) (sym own) (prefix_self old.caller);
    shown = all_none (λ report. IsShown n old.caller (job_sites jobs report.job) report.outcome);
    once = λ serial. omega (arith);
  }

  -- one job more
  pub works_one : (old new : Worker K) (report : Report K) → new.reports.items ≡ old.reports.items ++ report ∷ []
      → view new.pass ≡ pass_view (view old.pass).parts (view old.pass).put ((view old.pass).taken ++ report.job ∷ []) → IsPrefix old.caller new.caller
      → IsShown n old.caller (job_sites jobs report.job) report.outcome → HasSeen new.caller report.outcome → Works n jobs old new
  works_one old new report reports pass own shown seen = record {
    more = report ∷ [];
    reports = reports;
    pass = pass;
    own = own;
    shown = one;
    once = λ serial. omega (arith, once_each n old.caller new.caller (job_sites jobs report.job) report.outcome serial shown seen);
  }
    where
      one : All (λ r. IsShown n old.caller (job_sites jobs r.job) r.outcome) (report ∷ [])
      one zero d lt = shown
      one (suc k) d lt = absurd (omega arith)

  pub works_more : (old mid new : Worker K) → Works n jobs old mid → Works n jobs mid new → Works n jobs old new
  works_more old mid new a b = record {
    more = a.more ++ b.more;
    reports = b.reports ∙ ap (λ rs. rs ++ b.more) a.reports ∙ append_assoc old.reports.items a.more b.more;
    pass = b.pass
        ∙ ap (λ (v : PassView). pass_view v.parts v.put (v.taken ++ jobs_of b.more)) a.pass
        ∙ ap (pass_view (view old.pass).parts (view old.pass).put)
        (append_assoc (view old.pass).taken (jobs_of a.more) (jobs_of b.more)
        ∙ ap (λ js. (view old.pass).taken ++ js) (sym (map-append (λ r. r.job) a.more b.more)));
    own = prefix_trans old.caller mid.caller new.caller a.own b.own;
    shown = All-append (λ r. IsShown n old.caller (job_sites jobs r.job) r.outcome) a.more b.more a.shown
        (λ k d lt. shown_before n old.caller mid.caller (job_sites jobs (get_or b.more k d).job) (get_or b.more k d).outcome a.own (b.shown k d lt));
    once = λ serial. omega (
      arith,
      installs_both serial a.more b.more,
      a.once serial,
      b.once serial,
      between_both (length old.caller) (length mid.caller) (length new.caller) serial (prefix_length old.caller mid.caller a.own)
          (prefix_length mid.caller new.caller b.own),
    );
  }

  -- ---- workers

  module _ (callers : List (List Entry)) where
    reports_of : (before : List Entry) (rs : List (Report K)) → Contains callers before → All (λ r. IsShown n before (job_sites jobs r.job) r.outcome) rs
        → All (IsReport n callers jobs) rs
    reports_of before rs mine shown k d lt = record { before = before; of_caller = mine; shown = shown k d lt }

    pub reported : (old new : Worker K) → IsHired callers old → Works n jobs old new → HasOne new × HasReported n callers jobs new
    reported old new hired works =
        let start : view new.pass ≡ pass_view 1 [] (jobs_of works.more) = works.pass
        ∙ ap (λ (v : PassView). pass_view v.parts v.put (v.taken ++ jobs_of works.more)) hired.pass in
        let all : new.reports.items ≡ works.more = works.reports ∙ ap (λ rs. rs ++ works.more) hired.none in (
          (
            ap (λ (v : PassView). v.parts) start,
            ap (λ (v : PassView). v.put) start,
            λ serial. omega (arith, ap (installs_of serial) all, works.once serial, between_least (length old.caller) (length new.caller) serial),
          ),
          record {
            taken = ap (λ (v : PassView). v.taken) start ∙ ap jobs_of (sym all);
            shown = subst (All (IsReport n callers jobs)) (sym all) (reports_of old.caller works.more hired.own works.shown);
            before = old.caller;
            of_caller = hired.own;
            own = works.own;
          },
        )

    -- a worker that goes on
    pub reported_more : (old new : Worker K) → HasReported n callers jobs old → Works n jobs old new → HasReported n callers jobs new
    reported_more old new has works = record {
      taken = ap (λ (v : PassView). v.taken) works.pass ∙ ap (λ js. js ++ jobs_of works.more) has.taken
          ∙ sym (map-append (λ r. r.job) old.reports.items works.more) ∙ ap jobs_of (sym works.reports);
      shown = subst (All (IsReport n callers jobs)) (sym works.reports) (All-append (IsReport n callers jobs) old.reports.items works.more has.shown
          (reports_of has.before works.more has.of_caller (λ k d lt. shown_before n has.before old.caller (job_sites jobs (get_or works.more k d).job)
          (get_or works.more k d).outcome has.own (works.shown k d lt))));
      before = has.before;
      of_caller = has.of_caller;
      own = prefix_trans has.before old.caller new.caller has.own works.own;
    }

    -- a worker that takes over another one's turn and reports
    pub reported_both : (old other new : Worker K) → HasReported n callers jobs old → HasReported n callers jobs other → new.reports.items ≡ old.reports.items
        ++ other.reports.items
        → (view new.pass).taken ≡ (view old.pass).taken ++ (view other.pass).taken → new.caller ≡ old.caller → HasReported n callers jobs new
    reported_both old other new mine theirs reports taken own = record {
      taken = taken ∙ (λ i. mine.taken i ++ theirs.taken i) ∙ sym (map-append (λ r. r.job) old.reports.items other.reports.items) ∙ ap jobs_of (sym reports);
      shown = subst (All (IsReport n callers jobs)) (sym reports) (All-append (IsReport n callers jobs) old.reports.items other.reports.items mine.shown
          theirs.shown);
      before = mine.before;
      of_caller = mine.of_caller;
      own = subst (IsPrefix mine.before) (sym own) mine.own;
    }

    -- a worker that only takes over a turn which took no job
    pub reported_turn : (old new : Worker K) → HasReported n callers jobs old → new.reports.items ≡ old.reports.items
        → (view new.pass).taken ≡ (view old.pass).taken → new.caller ≡ old.caller → HasReported n callers jobs new
    reported_turn old new has reports taken own = record {
      taken = taken ∙ has.taken ∙ ap jobs_of (sym reports);
      shown = subst (All (IsReport n callers jobs)) (sym reports) has.shown;
      before = has.before;
      of_caller = has.of_caller;
      own = subst (IsPrefix has.before) (sym own) has.own;
    }

    -- all workers, once each has served
    module _ (Pass : Worker K → Type 0) where
      -- the last worker, and the others
      pub crew_popped : (crew others : List (Worker K)) (last : Worker K) → crew ≡ others ++ last ∷ []
          → All (λ worker. Pass worker × HasOne worker × HasReported n callers jobs worker) crew
          → All (λ worker. Pass worker × HasOne worker × HasReported n callers jobs worker) others
          × (Pass last × HasOne last × HasReported n callers jobs last)
      crew_popped = all_popped (λ worker. Pass worker × HasOne worker × HasReported n callers jobs worker)

      pub crew_reported : (old new : List (Worker K)) → All (λ worker. IsHired callers worker × Pass worker) old
          → AllZip (λ a b. Pass b × Works n jobs a b) old new → All (λ worker. Pass worker × HasOne worker × HasReported n callers jobs worker) new
      crew_reported [] [] hired served = all_none (λ worker. Pass worker × HasOne worker × HasReported n callers jobs worker)
      crew_reported [] (b ∷ new) hired served = absurd served
      crew_reported (a ∷ old) [] hired served = absurd served
      crew_reported (a ∷ old) (b ∷ new) hired served =
          let one = reported a b (hired 0 a (omega arith)).0 served.0.1 in
          all_cons (λ worker. Pass worker × HasOne worker × HasReported n callers jobs worker) b new (served.0.0, one.0, one.1)
          (crew_reported old new (λ k d lt. hired (suc k) d (omega arith)) served.1)

-- ---- all jobs

-- where nothing is queued, the pass with all parts has taken what was put
pub all_taken : (v : PassView) (put taken : List ℕ) (weight : ℕ → ℕ) → KnowsAll v [] → v.parts ≡ 1024 → v.put ≡ put → v.taken ≡ taken
    → sum_by weight put ≡ sum_by weight taken
all_taken v put taken weight knows whole put_is taken_is = omega (arith, knows whole weight, ap (sum_by weight) put_is, ap (sum_by weight) taken_is)

-- each job has one report, in order
pub in_order : {K : Type 0} (n : ℕ) (put : List ℕ) (reports ordered : List (Report K))
    → ((weight : ℕ → ℕ) → sum_by weight put ≡ sum_by weight (jobs_of reports)) → put ≡ range_with_len 0 n
    → IsPermutation reports ordered → IsNonDecreasingBy (λ report. report.job) ordered → jobs_of ordered ≡ range_with_len 0 n
in_order {K = K} n put reports ordered weighs is moved up =
    each_once (λ (report : Report K). report.job) n 0 ordered up
    (λ weight. ap (sum_by weight) (sym is) ∙ weighs weight
    ∙ sym (sum_by-IsPermutation weight (jobs_of reports) (jobs_of ordered) (IsPermutation-map (λ (report : Report K). report.job) reports ordered moved)))
