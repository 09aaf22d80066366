-- What a core is after any events.
use Rattle.std.specs.Prelude.{◌≡◌, ◌↔◌, ℕ, suc, ◌<◌, ◌≤◌, ◌⊎◌, true, List, [], ◌∷◌, ◌++◌, take, length, slice_get, Some, Result, Ok, Err, Contains}
use Rattle.std.specs.List.{list_all}
use Rattle.std.proofs.Common.{refl, ap, sym, subst, ◌∙◌, arith, inl, inr, length-append}
use Rattle.std.proofs.lemmas.Bool.{and_from, cases_lt}
use Rattle.std.proofs.lemmas.List.{map-append, take-append-le, length-map}
use Rattle.std.proofs.lemmas.List.Folds.{list_all-append}
use Rattle.std.proofs.lemmas.Option.{same_Some, slice_get_within}
use Rattle.std.proofs.Math.Seq.{take-length}
use Rattle.jl_types.specs.declared.limits.Limits.{Limits}
use Rattle.jl_types.specs.Events.Event.{Event}
use Rattle.jl_types.specs.declared.event.Reply.{Reply}
use Rattle.jl_types.specs.declared.link.Link.{Link}
use Rattle.jl_types.specs.declared.refusal.Refusal.{Refusal}
use Rattle.jl_types.specs.Linkage.Links.{scratch}
use Rattle.jl_types.specs.Events.History as history
use Rattle.jl_types.specs.Events.History.{Settled, world_after}
use Rattle.jl_types.proofs.Installed.{installed_to, installed_from, settled_now}
use Rattle.jl_types.proofs.InstalledLinks.{links_are, installed_requested}
use Rattle.jl_types.proofs.Lists.{before_end, at_end}
use Rattle.jl_core.specs.State.{State, empty_core, events, world_of, links_of, AreAnswered, IsApplied}
use Rattle.jl_core.specs.Headline.{AreApplied}
use Rattle.jl_core.specs.Logs.{Entry, told, AreToldThen}
use Rattle.jl_relink.specs.Laws.{has_read_file}

-- ---- the links

pub links_exact : (core : State) (s : ℕ) (l : Link) → Contains (links_of core) (s, l)
    ↔ ((s < length (world_of core).places) × Settled (events core) s l × (scratch (world_of core) s ≡ Ok l))
links_exact core s l = (to, λ p. (links_are h s l).0 (installed_from h s l p.1))
  where
    h : List Event
    h = events core

    to : Contains (links_of core) (s, l) → (s < length (world_of core).places) × Settled (events core) s l × (scratch (world_of core) s ≡ Ok l)
    to c =
        let found = (links_are h s l).1 c in
        let settled = installed_to h s l found in
        (installed_requested h s l found, settled, settled_now h s l settled)

-- ---- the log

module _ (m : Limits) (log : List (Event × Reply)) (e : Event) (reply : Reply) where
  abbrev before : State
  before = record { limits = m; log = log }

  abbrev after : State
  after = record { limits = m; log = log ++ (e, reply) ∷ [] }

  events_after : events after ≡ events before ++ e ∷ []
  events_after = map-append (λ (entry : Event × Reply). entry.0) log ((e, reply) ∷ [])

  first_events : (n : ℕ) → n ≤ length log → take n (events after) ≡ take n (events before)
  first_events n le =
      ap (take n) events_after
      ∙ take-append-le n (events before) (e ∷ []) (subst (λ k. n ≤ k) (sym (length-map log (λ (entry : Event × Reply). entry.0))) le)

  all_events : take (length log) (events before) ≡ events before
  all_events = ap (λ k. take k (events before)) (sym (length-map log (λ (entry : Event × Reply). entry.0))) ∙ take-length (events before)

  pub answered_more : AreAnswered before → history.reply m (events before) e ≡ Ok reply → AreAnswered after
  answered_more h now n x r is = by_place (cases_lt n (length log))
    where
      last : n ≡ length log → history.reply m (take n (events after)) x ≡ Ok r
      last same =
          let pair : (e, reply) ≡ (x, r) = same_Some (e, reply) (x, r) (sym (at_end log (e, reply)) ∙ ap (slice_get after.log) (sym same) ∙ is) in
          ap (λ (es : List Event). history.reply m es x) (first_events n (omega arith) ∙ ap (λ k. take k (events before)) same ∙ all_events)
          ∙ subst (λ (p : Event × Reply). history.reply m (events before) p.0 ≡ Ok p.1) pair now

      by_place : ((n < length log) ⊎ (length log ≤ n)) → history.reply m (take n (events after)) x ≡ Ok r
      by_place (inl lt) =
          ap (λ (es : List Event). history.reply m es x) (first_events n (omega arith))
          ∙ h n x r (sym (before_end log (e, reply) n lt) ∙ is)
      by_place (inr le) =
          let within = slice_get_within after.log n (x, r) is in
          last (omega (arith, length-append log ((e, reply) ∷ [])))

  pub files_more : list_all has_read_file (events before) ≡ true → has_read_file e ≡ true → list_all has_read_file (events after) ≡ true
  files_more files read =
      ap (list_all has_read_file) events_after
      ∙ list_all-append has_read_file (events before) (e ∷ [])
      ∙ and_from (list_all has_read_file (events before)) (list_all has_read_file (e ∷ [])) files (and_from (has_read_file e) true read refl)

  -- one entry more, which tells the event by the classes that there are then
  pub then_more : (entries : List Entry) (entry : Entry) → length entries ≡ length log
      → told (world_after (events before ++ e ∷ [])).classes.rows entry ≡ Some (e, reply) → AreToldThen before entries
      → AreToldThen after (entries ++ entry ∷ [])
  then_more entries entry same tells h n x is = by_place (cases_lt n (length log))
    where
      whole : n ≡ length log → take (suc n) (events after) ≡ events before ++ e ∷ []
      whole at =
          let count : suc n ≡ length (events before ++ e ∷ []) =
          omega (arith, at, length-append (events before) (e ∷ []), length-map log (λ (entry : Event × Reply). entry.0)) in
          ap (take (suc n)) events_after
          ∙ ap (λ k. take k (events before ++ e ∷ [])) count
          ∙ take-length (events before ++ e ∷ [])

      last : n ≡ length log → told (world_after (take (suc n) (events after))).classes.rows x ≡ slice_get after.log n
      last at =
          let one : entry ≡ x =
          same_Some entry x (sym (at_end entries entry) ∙ ap (slice_get (entries ++ entry ∷ [])) (same ∙ sym at) ∙ is) in
          (λ i. told (world_after (whole at i)).classes.rows (sym one i))
          ∙ tells
          ∙ sym (at_end log (e, reply))
          ∙ ap (slice_get after.log) (sym at)

      by_place : ((n < length log) ⊎ (length log ≤ n)) → told (world_after (take (suc n) (events after))).classes.rows x ≡ slice_get after.log n
      by_place (inl lt) =
          ap (λ (es : List Event). told (world_after es).classes.rows x) (first_events (suc n) lt)
          ∙ h n x (sym (before_end entries entry n (omega (arith, lt, same))) ∙ is)
          ∙ sym (before_end log (e, reply) n lt)
      by_place (inr le) =
          let within = slice_get_within (entries ++ entry ∷ []) n x is in
          last (omega (arith, same, length-append entries (entry ∷ [])))

applied_answered : (old : State) (e : Event) (answer : Result Reply Refusal) (new : State) → AreAnswered old → IsApplied old e answer new
    → AreAnswered new × (new.limits ≡ old.limits)
applied_answered old e (Ok reply) new h is = (
  subst AreAnswered (sym is.logged) (answered_more old.limits old.log e reply h is.answered),
  ap (λ (core : State). core.limits) is.logged,
)
applied_answered old e (Err r) new h is = (subst AreAnswered (sym is.1) h, ap (λ (core : State). core.limits) is.1)

all_answered : (old : State) (es : List Event) (new : State) → AreAnswered old → AreApplied old es new → AreAnswered new × (new.limits ≡ old.limits)
all_answered old [] new h is = (subst AreAnswered (sym is) h, ap (λ (core : State). core.limits) is)
all_answered old (e ∷ es) new h is =
    let next = is.0 in
    let one = applied_answered old e is.1 next h is.2 in
    let rest = all_answered next es new one.0 is.3 in
    (rest.0, rest.1 ∙ one.1)

pub none_answered : (m : Limits) → AreAnswered (empty_core m)
none_answered m n e reply is = absurd (nothing n (e, reply) is)
  where
    nothing : (n : ℕ) (x : Event × Reply) → slice_get [] n ≡ Some x → ⊥
    nothing n x e = cc

pub log_answered : (m : Limits) (es : List Event) (core : State) → AreApplied (empty_core m) es core → (n : ℕ) (e : Event) (reply : Reply)
    → slice_get core.log n ≡ Some (e, reply) → history.reply m (take n (events core)) e ≡ Ok reply
log_answered m es core is n e reply at =
    let all = all_answered (empty_core m) es core (none_answered m) is in
    ap (λ k. history.reply k (take n (events core)) e) (sym all.1) ∙ all.0 n e reply at
