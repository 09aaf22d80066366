-- Which reports name one install.
use Rattle.std.proofs.Common.{◌≡◌, ◌≤◌, ◌<◌, ◌+◌, ◌==◌, ℕ, zero, suc, true, List, [], ◌∷◌, ◌++◌, map, length, get_or, All, cond, refl, ap, sym, ◌∙◌}
use Rattle.std.proofs.Common.{subst, arith}
use Rattle.std.specs.List.Sorted.{IsPermutation}
use Rattle.std.proofs.lemmas.Bool.Decides.{nat_tests}
use Rattle.std.proofs.lemmas.List.Sums.{sum_by-append}
use Rattle.std.proofs.lemmas.List.Sorted.{All-permutation, sum_by-IsPermutation}
use mathlib.Core.List.{IsPrefix}
use Rattle.jl_types.specs.declared.limits.Limits.{Limits}
use Rattle.jl_types.specs.declared.link.Link.{Link}
use Rattle.jl_types.specs.Events.Event.{Event}
use Rattle.jl_types.specs.declared.event.EventOf.TheVariants.{Install}
use Rattle.jl_types.specs.Events.Entries.{Entry}
use Rattle.jl_server.proofs.Beginnings.{prefix_trans, prefix_shorter, prefix_whole}
use Rattle.jl_server.specs.declared.book.Receipt.{Receipt}
use Rattle.jl_server.specs.History.{entry_after}
use Rattle.jl_farm.specs.declared.report.Report.{Report}
use Rattle.jl_farm.specs.declared.report.JobOutcome.{JobOutcome}
use Rattle.jl_farm.specs.declared.report.JobOutcome.TheVariants.{Installed, Stale, NotReady, Bad, Memory}
use Rattle.jl_farm.specs.declared.worker.Worker.{Worker}
use Rattle.jl_farm.specs.Reports.{lists_of, names_install, installs_of, IsInstalled, IsShown, IsReport, AreOfOneHistory, AreOfSameSites}
use Rattle.jl_farm.specs.ForProofs.Work.{between, HasSeen, HasOne, HasTaken, Works}

-- ---- numbers between two numbers

pub between_both : (a b c k : ℕ) → a ≤ b → b ≤ c → between a b k + between b c k ≤ between a c k
between_both a b c k ab bc = grind (arith, nat_tests)

pub between_least : (a b k : ℕ) → between a b k ≤ between 0 b k
between_least a b k = grind (arith, nat_tests)

pub between_one : (a b k : ℕ) → between a b k ≤ 1
between_one a b k = grind (arith, nat_tests)

in_between : (a b k serial : ℕ) → a < k → k ≤ b → cond (k == serial) 1 0 ≤ between a b serial
in_between a b k serial more most = grind (arith, nat_tests)

-- ---- how many reports name an install

pub installs_both : {K : Type 0} (serial : ℕ) (xs ys : List (Report K)) → installs_of serial (xs ++ ys) ≡ installs_of serial xs + installs_of serial ys
installs_both {K = K} serial xs ys = sum_by-append (λ (report : Report K). cond (names_install serial report.outcome) 1 0) xs ys

-- one report names an install past what its caller had seen before, and up to what it has seen then
pub once_each : {K : Type 0} (n : Limits) (before after : List Entry) (of : List ℕ) (o : JobOutcome K) (serial : ℕ) → IsShown n before of o → HasSeen after o
    → cond (names_install serial o) 1 0 ≤ between (length before) (length after) serial
once_each n before after of (Installed receipt) serial shown seen =
    in_between (length before) (length after) receipt.serial serial (omega (arith, shown.longer, shown.serial)) (omega (arith, ap length seen, shown.serial))
once_each n before after of (Stale first second) serial shown seen = omega (arith)
once_each n before after of (NotReady list) serial shown seen = omega (arith)
once_each n before after of (Bad list) serial shown seen = omega (arith)
once_each n before after of Memory serial shown seen = omega (arith)

module _ {K : Type 0} where
  -- a worker that takes over the reports of another one
  pub taken_one : (old other new : Worker K) → HasOne other → new.reports.items ≡ old.reports.items ++ other.reports.items → new.caller ≡ old.caller
      → HasTaken 1 old new
  taken_one old other new one is own = record {
    own = own;
    most = λ serial. omega (
      arith,
      ap (installs_of serial) is,
      installs_both serial old.reports.items other.reports.items,
      one.2 serial,
      between_one 0 (length other.caller) serial,
    );
  }

  pub taken_none : (old : Worker K) → HasTaken 0 old old
  taken_none old = record { own = refl; most = λ serial. omega (arith) }

  pub taken_more : (others : ℕ) (old mid new : Worker K) → HasTaken others old mid → HasTaken 1 mid new → HasTaken (others + 1) old new
  taken_more others old mid new a b = record { own = b.own ∙ a.own; most = λ serial. omega (arith, a.most serial, b.most serial) }

  pub taken_most : (few many : ℕ) (old new : Worker K) → few ≤ many → HasTaken few old new → HasTaken many old new
  taken_most few many old new le has = record { own = has.own; most = λ serial. omega (arith, has.most serial, le) }

  -- a worker that took over the reports of others and then goes on
  pub installs_at_most : (n : Limits) (jobs : List (List ℕ)) (others : ℕ) (start mid new : Worker K) (serial : ℕ)
      → installs_of serial start.reports.items ≤ between 0 (length start.caller) serial → HasTaken others start mid → Works n jobs mid new
      → length mid.caller ≤ length new.caller
      → installs_of serial new.reports.items ≤ others + 1
  installs_at_most n jobs others start mid new serial once has works longer =
      omega (
        arith,
        ap (installs_of serial) works.reports,
        installs_both serial mid.reports.items works.more,
        works.once serial,
        has.most serial,
        once,
        ap length has.own,
        between_both 0 (length mid.caller) (length new.caller) serial (omega (arith)) longer,
        ap (λ (xs : List Entry). between 0 (length xs) serial) has.own,
        between_one 0 (length new.caller) serial,
      )

-- ---- what a caller has learnt

module _ {K : Type 0} where
  -- what began the shorter list begins the longer one
  pub still_begin : (old new : List Entry) (reports : List (Report K)) → IsPrefix old new
      → All (λ report. All (λ list. IsPrefix list old) (lists_of report.outcome)) reports
      → All (λ report. All (λ list. IsPrefix list new) (lists_of report.outcome)) reports
  still_begin old new reports p all k d lt j e less = prefix_trans (get_or (lists_of (get_or reports k d).outcome) j e) old new (all k d lt j e less) p

pub one_begins : (whole list : List Entry) → IsPrefix list whole → All (λ list. IsPrefix list whole) (list ∷ [])
one_begins whole list p zero d lt = p
one_begins whole list p (suc k) d lt = absurd (omega (arith))

pub both_begin : (mid whole first second : List Entry) → IsPrefix first mid → IsPrefix mid whole → IsPrefix second whole
    → All (λ list. IsPrefix list whole) (first ∷ second ∷ [])
both_begin mid whole first second p more q zero d lt = prefix_trans first mid whole p more
both_begin mid whole first second p more q (suc zero) d lt = q
both_begin mid whole first second p more q (suc (suc k)) d lt = absurd (omega (arith))

pub named_begin : {K : Type 0} (whole : List Entry) (o p : JobOutcome K) → o ≡ p → All (λ list. IsPrefix list whole) (lists_of p)
    → All (λ list. IsPrefix list whole) (lists_of o)
named_begin {K = K} whole o p is all = subst (λ (x : JobOutcome K). All (λ list. IsPrefix list whole) (lists_of x)) (sym is) all

-- ---- the reports in order

pub installs_in_order : {K : Type 0} (serial : ℕ) (reports ordered : List (Report K)) → IsPermutation reports ordered
    → installs_of serial ordered ≡ installs_of serial reports
installs_in_order {K = K} serial reports ordered moved = sum_by-IsPermutation (λ (report : Report K). cond (names_install serial report.outcome) 1 0) reports
    ordered moved

pub history_in_order : {K : Type 0} (reports ordered : List (Report K)) → IsPermutation reports ordered → AreOfOneHistory reports → AreOfOneHistory ordered
history_in_order {K = K} reports ordered moved history = record {
  whole = history.whole;
  begins = All-permutation (λ (report : Report K). All (λ list. IsPrefix list history.whole) (lists_of report.outcome)) reports ordered moved history.begins;
}

-- ---- the sites of an install

-- lists with one last entry
pub last_same : (e f : Entry) (xs ys : List Entry) → xs ++ e ∷ [] ≡ ys ++ f ∷ [] → e ≡ f
last_same e f [] [] is = cc is
last_same e f [] (y ∷ []) is = absurd (cc is)
last_same e f [] (y ∷ z ∷ ys) is = absurd (cc is)
last_same e f (x ∷ []) [] is = absurd (cc is)
last_same e f (x ∷ w ∷ xs) [] is = absurd (cc is)
last_same e f (x ∷ xs) (y ∷ ys) is = last_same e f xs ys (cc is)

abbrev pub rows_of : Event → List (ℕ × Link)
rows_of (Install rows) = rows
rows_of _ = []

pub same_serial : (a b : ℕ) → (a == b) ≡ true → a ≡ b
same_serial a b is = grind (arith, nat_tests)

module _ {K : Type 0} (n : Limits) where
  -- of one list there is one install, which has one job's sites
  sites_by_list : (before earlier : List Entry) (of others : List ℕ) (mine theirs : Receipt K) → IsInstalled n before of mine
      → IsInstalled n earlier others theirs → mine.seen ≡ theirs.seen → of ≡ others
  sites_by_list before earlier of others mine theirs a b same =
      let last = last_same (entry_after a.last.0 (Install a.rows) mine.reply) (entry_after b.last.0 (Install b.rows) theirs.reply) a.last.0 b.last.0
      (sym a.last.1 ∙ same ∙ b.last.1) in
      sym a.of_sites ∙ ap (λ (e : Entry). map (λ row. row.0) (rows_of e.event)) last ∙ b.of_sites

  -- two beginnings of one list, as long as each other
  sites_by_length : (whole before earlier : List Entry) (of others : List ℕ) (mine theirs : Receipt K) (serial : ℕ) → IsInstalled n before of mine
      → IsInstalled n earlier others theirs
      → IsPrefix mine.seen whole → IsPrefix theirs.seen whole → mine.serial ≡ serial → theirs.serial ≡ serial → of ≡ others
  sites_by_length whole before earlier of others mine theirs serial a b p q is also =
      sites_by_list before earlier of others mine theirs a b
      (prefix_whole mine.seen theirs.seen (prefix_shorter mine.seen theirs.seen whole p q (omega (arith, a.serial, b.serial, is, also)))
      (omega (arith, a.serial, b.serial, is, also)))

  sites_by_name : (whole before earlier : List Entry) (of others : List ℕ) (serial : ℕ) (o p : JobOutcome K) → IsShown n before of o
      → IsShown n earlier others p
      → All (λ list. IsPrefix list whole) (lists_of o) → All (λ list. IsPrefix list whole) (lists_of p) → names_install serial o ≡ true
      → names_install serial p ≡ true → of ≡ others
  sites_by_name whole before earlier of others serial (Installed mine) (Installed theirs) a b p q is also =
      sites_by_length whole before earlier of others mine theirs serial a b (p 0 [] (omega arith)) (q 0 [] (omega arith)) (same_serial mine.serial serial is)
      (same_serial theirs.serial serial also)
  sites_by_name whole before earlier of others serial (Installed mine) (Stale first second) a b p q is also = absurd (cc also)
  sites_by_name whole before earlier of others serial (Installed mine) (NotReady list) a b p q is also = absurd (cc also)
  sites_by_name whole before earlier of others serial (Installed mine) (Bad list) a b p q is also = absurd (cc also)
  sites_by_name whole before earlier of others serial (Installed mine) Memory a b p q is also = absurd (cc also)
  sites_by_name whole before earlier of others serial (Stale first second) o a b p q is also = absurd (cc is)
  sites_by_name whole before earlier of others serial (NotReady list) o a b p q is also = absurd (cc is)
  sites_by_name whole before earlier of others serial (Bad list) o a b p q is also = absurd (cc is)
  sites_by_name whole before earlier of others serial Memory o a b p q is also = absurd (cc is)

  -- reports that show what they say, all of one history
  pub same_sites : (callers : List (List Entry)) (jobs : List (List ℕ)) (reports : List (Report K)) → AreOfOneHistory reports
      → All (IsReport n callers jobs) reports → AreOfSameSites jobs reports
  same_sites callers jobs reports history shown serial k d lt j e less =
      let a = shown k d lt in
      let b = shown j e less in
      sites_by_name history.whole a.before b.before _ _ serial (get_or reports k d).outcome (get_or reports j e).outcome a.shown b.shown (history.begins k d lt)
      (history.begins j e less)
