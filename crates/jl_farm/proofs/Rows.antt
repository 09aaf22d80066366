-- Worked rows, by computation.
use Rattle.std.proofs.Common.{◌≡◌, ◌<◌, ◌≤◌, ◌+◌, ◌==◌, ℕ, zero, suc, true, false, cond, List, [], ◌∷◌, ◌++◌, map, length, get_or, All, refl, ap, ◌∙◌}
use Rattle.std.proofs.Common.{sym, arith}
use Rattle.std.proofs.lemmas.Bool.Decides.{nat_tests}
use Rattle.jl_types.specs.declared.limits.Limits.{Limits}
use mathlib.Core.List.{IsPrefix}
use Rattle.jl_types.specs.declared.link.Link.{Link}
use Rattle.jl_types.specs.Events.Event.{Event}
use Rattle.jl_types.specs.declared.event.EventOf.TheVariants.{Install, NewLoader, NewSwitch}
use Rattle.jl_types.specs.declared.event.Made.TheVariants.{Nothing}
use Rattle.jl_types.specs.declared.event.Reply.{Reply}
use Rattle.jl_types.specs.Events.Entries.{Entry}
use Rattle.jl_server.specs.declared.book.Receipt.{Receipt}
use Rattle.jl_server.specs.History.{entry_after}
use Rattle.jl_farm.specs.declared.report.Report.{Report}
use Rattle.jl_farm.specs.declared.report.JobOutcome.{JobOutcome}
use Rattle.jl_farm.specs.declared.report.JobOutcome.TheVariants.{Installed, Stale, NotReady, Bad, Memory}
use Rattle.jl_farm.specs.Reports.{has_twice, job_sites, world_of, lists_of, names_install, installs_of, IsInstalled, IsShown, AreOfOneHistory, AreOfSameSites}
use Rattle.jl_farm.specs.ForProofs.Work.{HasSeen}
use Rattle.jl_farm.proofs.Installs.{last_same, rows_of, same_serial}

-- no site, one, two equal ones and two different ones
twice_none : has_twice [] ≡ false
twice_none = refl

twice_one : has_twice (5 ∷ []) ≡ false
twice_one = refl

twice_equal : has_twice (5 ∷ 5 ∷ []) ≡ true
twice_equal = refl

twice_different : has_twice (5 ∷ 7 ∷ []) ≡ false
twice_different = refl

-- the first and the last one, which are no neighbours
twice_apart : has_twice (5 ∷ 7 ∷ 5 ∷ []) ≡ true
twice_apart = refl

-- jobs are numbered from 0, and past the last one there are no sites
sites_last : job_sites ((5 ∷ []) ∷ (7 ∷ 8 ∷ []) ∷ []) 1 ≡ 7 ∷ 8 ∷ []
sites_last = refl

sites_past : job_sites ((5 ∷ []) ∷ (7 ∷ 8 ∷ []) ∷ []) 2 ≡ []
sites_past = refl

-- ---- what no report shows

abbrev nothing : Reply
nothing = record { made = Nothing; dropped = [] }

abbrev quiet : Event → Entry
quiet e = record { event = e; reply = nothing; slots = [] }

module _ (K : Type 0) (limits : Limits) (before : List Entry) where
  -- Stale, where the second list doesn't go on the first
  no_stale_back : (first second : List Entry) (sites : List ℕ) → (IsPrefix first second → ⊥) → IsShown {K = K} limits before sites (Stale first second) → ⊥
  no_stale_back first second sites apart stale = apart stale.refused.0

  -- as where it is shorter by one
  no_stale_shorter : (sites : List ℕ) → IsShown {K = K} limits before sites (Stale (quiet NewSwitch ∷ []) []) → ⊥
  no_stale_shorter sites = no_stale_back (quiet NewSwitch ∷ []) [] sites (λ on. cc (on.1))

  -- Stale after one list, in which each link is what it was
  no_stale_same : (list : List Entry) (sites : List ℕ) → IsShown {K = K} limits before sites (Stale list list) → ⊥
  no_stale_same list sites stale = stale.differs.4 refl

  -- NotReady of a site that isn't requested
  no_unready_unrequested : (list : List Entry) (s : ℕ) → length (world_of list).places ≤ s → IsShown {K = K} limits before (s ∷ []) (NotReady list) → ⊥
  no_unready_unrequested list s past shown = by_place shown.unready.0 shown.unready.1 shown.unready.2 shown.unready.3 shown.unready.4.0
    where
      by_place : (k x : ℕ) → k < 1 → get_or (s ∷ []) k x ≡ x → x < length (world_of list).places → ⊥
      by_place zero x lt is few = omega (arith, is, past, few)
      by_place (suc k) x lt is few = omega (arith, lt)

  -- as before any event
  no_unready_at_first : IsShown {K = K} limits before (0 ∷ []) (NotReady []) → ⊥
  no_unready_at_first = no_unready_unrequested [] 0 (omega arith)

  -- NotReady of no site
  no_unready_of_none : (list : List Entry) → IsShown {K = K} limits before [] (NotReady list) → ⊥
  no_unready_of_none list shown = omega (arith, shown.unready.2)

module _ (K : Type 0) (limits : Limits) (before earlier : List Entry) (receipt : Receipt K) where
  -- what the list ends with, by the report
  abbrev last_of : {sites : List ℕ} → IsInstalled limits before sites receipt → Entry
  last_of shown = entry_after shown.last.0 (Install shown.rows) receipt.reply

  -- Installed of other sites than those of the last install
  no_installed_other : (rows : List (ℕ × Link)) (sites : List ℕ) → receipt.seen ≡ earlier ++ quiet (Install rows) ∷ [] → (map (λ row. row.0) rows ≡ sites → ⊥)
      → IsShown limits before sites (Installed receipt) → ⊥
  no_installed_other rows sites ends other shown =
      let same = last_same (quiet (Install rows)) (last_of shown) earlier shown.last.0 (sym ends ∙ shown.last.1) in
      other (ap (λ (e : Entry). map (λ row. row.0) (rows_of e.event)) same ∙ shown.of_sites)

  -- as of site 1 where site 0 was installed
  no_installed_next : (link : Link) → receipt.seen ≡ earlier ++ quiet (Install ((0, link) ∷ [])) ∷ [] → IsShown limits before (1 ∷ []) (Installed receipt)
      → ⊥
  no_installed_next link ends =
      no_installed_other ((0, link) ∷ []) (1 ∷ []) ends (λ same. let clash : ◌≡◌ {A = ℕ} 0 1 = ap (λ (sites : List ℕ). get_or sites 0 5) same in
      omega (arith, clash))

  -- nor after another event
  no_installed_switch : (sites : List ℕ) → receipt.seen ≡ earlier ++ quiet NewSwitch ∷ [] → IsShown limits before sites (Installed receipt) → ⊥
  no_installed_switch sites ends shown =
      let same = last_same (quiet NewSwitch) (last_of shown) earlier shown.last.0 (sym ends ∙ shown.last.1) in
      let events : NewSwitch ≡ Install shown.rows = ap (λ (e : Entry). e.event) same in cc events

-- ---- what the caller that ran a job has seen

abbrev one : List Entry
one = quiet NewSwitch ∷ []

module _ (K : Type 0) (list : List Entry) where
  saw_the_later_list : HasSeen {K = K} list (Stale [] list)
  saw_the_later_list = refl

  saw_what_it_installed : (receipt : Receipt K) → receipt.seen ≡ list → HasSeen list (Installed receipt)
  saw_what_it_installed receipt is = is

  nothing_of_want_of_memory : HasSeen {K = K} list Memory
  nothing_of_want_of_memory = tt

  -- no other list than the one that the outcome names
  not_the_earlier_list : HasSeen {K = K} [] (Stale [] one) → ⊥
  not_the_earlier_list e = cc

  no_other_when_not_ready : HasSeen {K = K} [] (NotReady one) → ⊥
  no_other_when_not_ready e = cc

  no_other_when_bad : HasSeen {K = K} [] (Bad one) → ⊥
  no_other_when_bad e = cc

  no_other_when_installed : (receipt : Receipt K) → receipt.seen ≡ one → HasSeen [] (Installed receipt) → ⊥
  no_other_when_installed receipt is e = let clash : one ≡ [] = sym is ∙ e in cc

-- ---- several reports

abbrev first_event : List Entry → Event
first_event [] = NewSwitch
first_event (entry ∷ list) = entry.event

module _ (K : Type 0) where
  lists_of_installed : (receipt : Receipt K) → lists_of (Installed receipt) ≡ receipt.seen ∷ []
  lists_of_installed receipt = refl

  lists_of_stale : lists_of {K = K} (Stale [] one) ≡ [] ∷ one ∷ []
  lists_of_stale = refl

  lists_of_not_ready : lists_of {K = K} (NotReady one) ≡ one ∷ []
  lists_of_not_ready = refl

  lists_of_bad : lists_of {K = K} (Bad one) ≡ one ∷ []
  lists_of_bad = refl

  lists_of_memory : lists_of {K = K} Memory ≡ []
  lists_of_memory = refl

  abbrev of_job : ℕ → JobOutcome K → Report K
  of_job job outcome = record { job = job; outcome = outcome }

  -- lists that go on differently are of two histories
  fork : (whole rest more : List Entry) → quiet NewSwitch ∷ rest ≡ whole → quiet NewLoader ∷ more ≡ whole → ⊥
  fork whole rest more p q = let events : NewSwitch ≡ NewLoader = ap first_event (p ∙ sym q) in cc events

  no_two_histories : AreOfOneHistory (of_job 0 (NotReady (quiet NewSwitch ∷ [])) ∷ of_job 1 (Bad (quiet NewLoader ∷ [])) ∷ []) → ⊥
  no_two_histories history =
      let p = history.begins 0 (of_job 0 Memory) (omega arith) 0 [] (omega arith) in
      let q = history.begins 1 (of_job 0 Memory) (omega arith) 0 [] (omega arith) in
      fork history.whole p.0 q.0 p.1 q.1

  -- as are those of one job
  no_two_histories_of_one_job : AreOfOneHistory (of_job 0 (Stale (quiet NewSwitch ∷ []) (quiet NewLoader ∷ [])) ∷ []) → ⊥
  no_two_histories_of_one_job history =
      let p = history.begins 0 (of_job 0 Memory) (omega arith) 0 [] (omega arith) in
      let q = history.begins 0 (of_job 0 Memory) (omega arith) 1 [] (omega arith) in
      fork history.whole p.0 q.0 p.1 q.1

  -- the install of serial 3, and of no other
  module _ (receipt : Receipt K) (third : receipt.serial ≡ 3) where
    names_its_serial : names_install 3 (Installed receipt) ≡ true
    names_its_serial = ap (λ n. n == 3) third

    names_no_other : names_install 4 (Installed receipt) ≡ false
    names_no_other = ap (λ n. n == 4) third

    -- two reports of one install, and another one
    counts_two : installs_of 3 (of_job 0 (Installed receipt) ∷ of_job 1 Memory ∷ of_job 2 (Installed receipt) ∷ []) ≡ 2
    counts_two = ap (λ n. 0 + cond (n == 3) 1 0 + 0 + cond (n == 3) 1 0) third

    counts_no_other : installs_of 4 (of_job 0 (Installed receipt) ∷ []) ≡ 0
    counts_no_other = ap (λ n. 0 + cond (n == 4) 1 0) third

  names_none_when_stale : names_install {K = K} 1 (Stale [] one) ≡ false
  names_none_when_stale = refl

  names_none_when_not_ready : names_install {K = K} 1 (NotReady one) ≡ false
  names_none_when_not_ready = refl

  names_none_when_bad : names_install {K = K} 1 (Bad one) ≡ false
  names_none_when_bad = refl

  names_none_of_memory : names_install {K = K} 0 Memory ≡ false
  names_none_of_memory = refl

  -- one install for the jobs of sites 5 and 7
  no_install_for_both : (receipt : Receipt K) → AreOfSameSites ((5 ∷ []) ∷ (7 ∷ []) ∷ []) (of_job 0 (Installed receipt) ∷ of_job 1 (Installed receipt) ∷ []) → ⊥
  no_install_for_both receipt same =
      let own : (receipt.serial == receipt.serial) ≡ true = grind (arith, nat_tests) in
      let clash = ap (λ (sites : List ℕ). get_or sites 0 0) (same receipt.serial 0 (of_job 0 Memory) (omega arith) 1 (of_job 0 Memory) (omega arith) own own) in
      omega (arith, clash)

  abbrev two : Receipt K → Receipt K → List (Report K)
  two mine theirs = of_job 0 (Installed mine) ∷ of_job 1 (Installed theirs) ∷ []

  -- two installs, each of its job
  two_installs : (mine theirs : Receipt K) → mine.serial ≡ 3 → theirs.serial ≡ 4 → AreOfSameSites ((5 ∷ []) ∷ (7 ∷ []) ∷ []) (two mine theirs)
  two_installs mine theirs third fourth serial = by_place
    where
      other : (mine.serial == serial) ≡ true → (theirs.serial == serial) ≡ true → ⊥
      other is also = omega (arith, same_serial mine.serial serial is, same_serial theirs.serial serial also, third, fourth)

      by_place : All (λ a. All (λ b. names_install serial a.outcome ≡ true → names_install serial b.outcome ≡ true
          → job_sites ((5 ∷ []) ∷ (7 ∷ []) ∷ []) a.job ≡ job_sites ((5 ∷ []) ∷ (7 ∷ []) ∷ []) b.job) (two mine theirs)) (two mine theirs)
      by_place zero d lt zero e less is also = refl
      by_place zero d lt (suc zero) e less is also = absurd (other is also)
      by_place (suc zero) d lt zero e less is also = absurd (other also is)
      by_place (suc zero) d lt (suc zero) e less is also = refl
      by_place zero d lt (suc (suc j)) e less is also = absurd (omega (arith, less))
      by_place (suc zero) d lt (suc (suc j)) e less is also = absurd (omega (arith, less))
      by_place (suc (suc k)) d lt j e less is also = absurd (omega (arith, lt))
