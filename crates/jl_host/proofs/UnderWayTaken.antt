-- A renewal that begins is under way. It stays so while the linker accepts events, and as entries are taken.
use Rattle.std.specs.Prelude.{◌≡◌, ◌≤◌, ◌+◌, ℕ, true, slice_get, List, [], ◌∷◌, ◌++◌, length, take, drop, Some, option_and_then}
use Rattle.std.proofs.Common.{refl, sym, ap, subst, ◌∙◌, arith, inl, inr, length-append, append_assoc}
use Rattle.std.proofs.lemmas.List.{append-nil, length-take-le, take-append-drop}
use Rattle.std.proofs.lemmas.Option.{same_Some, slice_get_within}
use Rattle.jl_types.specs.declared.event.Reply.{Reply}
use Rattle.jl_types.specs.Values.World.{World, Class, Classes}
use Rattle.jl_types.specs.Events.Event.{Event}
use Rattle.jl_types.specs.Events.Limits.{AreNoFewer}
use Rattle.jl_types.proofs.Lists.{element_at}
use Rattle.jl_events.specs.Accepted.{event_of}
use Rattle.jl_events.proofs.AcceptedLaws.{event_still}
use Rattle.jl_relink.specs.Laws.{AreAccepted, has_read_file}
use Rattle.jl_core.specs.State.{State, events, world_of, IsAccepted}
use Rattle.jl_core.specs.Logs.{Entry, are_told, shown}
use Rattle.jl_core.proofs.LogLaws.{all_still, length_told}
use Rattle.jl_renewal.specs.declared.released.Released.{Released}
use Rattle.jl_renewal.specs.Numbers.{Numbers}
use Rattle.jl_renewal.specs.Carries.{carried}
use Rattle.jl_host.specs.Linkers.{Opened}
use Rattle.jl_host.specs.Renewing.{Renewing, HasBegun, AreBrought, IsTakenFrom}
use Rattle.jl_host.specs.UnderWay.{HasAccepted, AreAmong, IsGathering, IsHeldUp, HasFresh, IsUnderWay}
use Rattle.jl_host.proofs.LimitLaws.{no_fewer_for}
use Rattle.jl_host.proofs.UnderWayLists.{same_fronts, some_of, both_told, told_both, first_told, shown_both, accepted_more, classes_next}

-- ---- the begin

pub begun_under_way : (opened : Opened) (released : Released) (max_sites : ℕ) (renewing : Renewing)
    → AreAccepted opened.session.core.limits (events opened.session.core) → opened.session.core.limits.sites ≤ max_sites
    → HasBegun opened released max_sites renewing → IsUnderWay opened.session.core released opened.session.core renewing
begun_under_way opened released max_sites renewing accepted limit (past, entries, allowed, is) =
    subst (λ (renewing : Renewing). IsUnderWay opened.session.core released opened.session.core renewing) (sym is) (record {
      had = opened.session.core.log;
      later = [];
      all_told = refl;
      log = sym (append-nil opened.session.core.log);
      taken = none_more (length opened.session.core.log);
      classes = λ c row at. absurd (nothing c row at);
      phase = inl (record {
        accepted = accepted;
        allowed = allowed;
        limit = no_fewer_for opened.session.core max_sites limit;
        log = refl;
        grown = refl;
        past = past;
        entries = entries;
        start = refl;
        fresh = refl;
      });
    })
  where
    nothing : {A : Type 0} (n : ℕ) (x : A) → slice_get [] n ≡ Some x → ⊥
    nothing n x e = cc

    none_more : (n : ℕ) → n ≡ n + 0
    none_more n = omega arith

-- ---- the linker accepts an event

module _ (begun : State) (released : Released) (core after : State) (e : Event) (reply : Reply) (renewing : Renewing)
    (way : IsUnderWay begun released core renewing) (accepted : IsAccepted core after e reply) (read : has_read_file e ≡ true) where
  abbrev waits : List (Event × Reply)
  waits = shown renewing.defined.classes.rows renewing.waiting

  log_after : after.log ≡ way.had ++ (waits ++ (way.later ++ (e, reply) ∷ []))
  log_after =
      ap (λ (s : State). s.log) accepted.logged
      ∙ (ap (λ (log : List (Event × Reply)). log ++ (e, reply) ∷ []) way.log
      ∙ (append_assoc way.had (waits ++ way.later) ((e, reply) ∷ [])
      ∙ ap (λ (log : List (Event × Reply)). way.had ++ log) (append_assoc waits way.later ((e, reply) ∷ []))))

  pub later_under_way : IsUnderWay begun released after renewing
  later_under_way = record {
    had = way.had;
    later = way.later ++ (e, reply) ∷ [];
    all_told = way.all_told;
    log = log_after;
    taken = way.taken;
    classes = λ c row at. classes_next core after e reply accepted c row (way.classes c row at);
    phase = elim way.phase [
      | inl first ↦ inl (record {
        accepted = first.accepted;
        allowed = first.allowed;
        limit = first.limit;
        log = first.log;
        grown =
            subst (λ (xs : List (Event × Reply)). HasAccepted begun xs after) (append_assoc waits way.later ((e, reply) ∷ []))
            (accepted_more (waits ++ way.later) begun core after e reply first.grown accepted read);
        past = first.past;
        entries = first.entries;
        start = first.start;
        fresh = first.fresh;
      })
      | inr second ↦ inr (record {
        old = second.old;
        log = second.log;
        grown =
            subst (λ (xs : List (Event × Reply)). HasAccepted second.old xs after) (append_assoc waits way.later ((e, reply) ∷ []))
            (accepted_more (waits ++ way.later) second.old core after e reply second.grown accepted read);
        start = second.start;
        made = second.made;
        fresh = second.fresh;
        numbers = second.numbers;
        beside = second.beside;
        links = second.links;
        noted = second.noted;
      })
    ];
  }

-- ---- entries are taken

-- what was carried over, what waits and what wasn't taken yet are all that there is
pub parts_length : (begun : State) (released : Released) (core : State) (renewing : Renewing) (way : IsUnderWay begun released core renewing)
    → length core.log ≡ length way.had + (length renewing.waiting + length way.later)
parts_length begun released core renewing way =
    let counted = length_told renewing.defined.classes.rows renewing.waiting way.all_told in
    let all = ap length way.log in
    let a = length-append way.had (shown renewing.defined.classes.rows renewing.waiting ++ way.later) in
    let b = length-append (shown renewing.defined.classes.rows renewing.waiting) way.later in
    omega (arith, counted, all, a, b)

-- classes that were brought are those of the core
brought : (cs : Classes) (old new : World) → AreAmong old.classes.rows cs.rows → AreBrought cs old new
    → AreAmong old.classes.rows new.classes.rows × AreAmong new.classes.rows cs.rows × AreAmong cs.rows new.classes.rows
brought cs old new among (inl are) =
    let e = ap (λ (classes : Classes). classes.rows) are in (
      λ c row at. ap (λ (rows : List Class). slice_get rows c) e ∙ among c row at,
      λ c row at. ap (λ (rows : List Class). slice_get rows c) (sym e) ∙ at,
      λ c row at. ap (λ (rows : List Class). slice_get rows c) e ∙ at,
    )
brought cs old new among (inr (same, few)) =
    let e = ap (λ (w : World). w.classes.rows) same in (
      λ c row at. ap (λ (rows : List Class). slice_get rows c) e ∙ at,
      λ c row at. among c row (ap (λ (rows : List Class). slice_get rows c) (sym e) ∙ at),
      λ c row at.
          let lt = slice_get_within cs.rows c row at in
          let found = element_at old.classes.rows c (omega (arith, lt, few)) in
          ap (λ (rows : List Class). slice_get rows c) e
          ∙ (found.1 ∙ ap Some (same_Some found.0 row (sym (among c found.0 found.1) ∙ at))),
    )

module _ (begun : State) (released : Released) (core : State) (most : ℕ) (old new : Renewing) (way : IsUnderWay begun released core old)
    (taking : IsTakenFrom most core old new) where
  abbrev entries : List Entry
  entries = taking.0

  abbrev portion : List Entry
  portion = take most (drop old.taken entries)

  abbrev rest : List Entry
  rest = drop most (drop old.taken entries)

  abbrev before : List Class
  before = old.defined.classes.rows

  abbrev rows : List Class
  rows = new.defined.classes.rows

  abbrev now : List Class
  now = (world_of core).classes.rows

  are_brought : AreAmong before rows × AreAmong rows now × AreAmong now rows
  are_brought = brought (world_of core).classes old.defined new.defined way.classes taking.2.defined

  -- ---- the entries in three parts

  split : entries ≡ take old.taken entries ++ (portion ++ rest)
  split = sym (ap (λ (xs : List Entry). take old.taken entries ++ xs) (take-append-drop most (drop old.taken entries)) ∙ take-append-drop old.taken entries)

  parts_told : (are_told now (take old.taken entries) ≡ true) × (are_told now (portion ++ rest) ≡ true)
  parts_told = both_told now (take old.taken entries) (portion ++ rest) (ap (are_told now) (sym split) ∙ taking.1.told)

  portion_told : are_told now portion ≡ true
  portion_told = (both_told now portion rest parts_told.1).0

  waiting_still : (are_told rows old.waiting ≡ true) × (shown rows old.waiting ≡ shown before old.waiting)
  waiting_still = all_still before rows are_brought.0 old.waiting way.all_told

  portion_still : (are_told rows portion ≡ true) × (shown rows portion ≡ shown now portion)
  portion_still = all_still now rows are_brought.2 portion portion_told

  -- ---- how many there are

  all_entries : length entries ≡ length core.log
  all_entries = sym (length_told now entries taking.1.told) ∙ ap length taking.1.events

  front_length : length (take old.taken entries) ≡ old.taken
  front_length =
      let e = all_entries in
      let f = parts_length begun released core old way in
      let g = way.taken in
      length-take-le old.taken entries (omega (arith, e, f, g))

  -- ---- what is left

  in_parts : core.log ≡ shown now (take old.taken entries) ++ (shown now portion ++ shown now rest)
  in_parts =
      sym taking.1.events
      ∙ (ap (shown now) split
      ∙ (shown_both now (take old.taken entries) (portion ++ rest)
      ∙ ap (λ (log : List (Event × Reply)). shown now (take old.taken entries) ++ log) (shown_both now portion rest)))

  equally_long : length (way.had ++ shown before old.waiting) ≡ length (shown now (take old.taken entries))
  equally_long =
      let a = length-append way.had (shown before old.waiting) in
      let b = length_told before old.waiting way.all_told in
      let c = length_told now (take old.taken entries) parts_told.0 in
      let d = front_length in
      let g = way.taken in
      omega (arith, a, b, c, d, g)

  later_is : way.later ≡ shown now portion ++ shown now rest
  later_is =
      (same_fronts (way.had ++ shown before old.waiting) (shown now (take old.taken entries)) way.later (shown now portion ++ shown now rest)
      equally_long (append_assoc way.had (shown before old.waiting) way.later ∙ (sym way.log ∙ in_parts))).1

  shown_next : shown rows new.waiting ≡ shown rows old.waiting ++ shown rows portion
  shown_next = ap (shown rows) taking.2.waiting ∙ shown_both rows old.waiting portion

  left_is : shown before old.waiting ++ way.later ≡ shown rows new.waiting ++ shown now rest
  left_is =
      (λ i. sym waiting_still.1 i ++ later_is i)
      ∙ (ap (λ (log : List (Event × Reply)). shown rows old.waiting ++ (log ++ shown now rest)) (sym portion_still.1)
      ∙ (sym (append_assoc (shown rows old.waiting) (shown rows portion) (shown now rest))
      ∙ ap (λ (log : List (Event × Reply)). log ++ shown now rest) (sym shown_next)))

  -- ---- before the fresh core is made

  gathering_next : IsGathering begun released core way.had (shown before old.waiting ++ way.later) old
      → IsGathering begun released core way.had (shown rows new.waiting ++ shown now rest) new
  gathering_next first = record {
    accepted = first.accepted;
    allowed = first.allowed;
    limit = subst (AreNoFewer begun.limits) (sym taking.2.limits) first.limit;
    log = first.log;
    grown = subst (λ (xs : List (Event × Reply)). HasAccepted begun xs core) left_is first.grown;
    past = first.past;
    entries = first.entries;
    start = taking.2.start ∙ first.start;
    fresh = taking.2.fresh ∙ first.fresh;
  }

  -- ---- once it is made

  held_next : (n m : Numbers) → IsHeldUp old n m → IsHeldUp new n m
  held_next n m held = record {
    entry = held.entry;
    others = held.others ++ portion;
    next = taking.2.waiting ∙ ap (λ (xs : List Entry). xs ++ portion) held.next;
    other = held.other;
    gone =
        ap (option_and_then (carried n))
        (event_still before rows are_brought.0 held.entry.event
        (some_of (λ (e : Event). (e, held.entry.reply)) (event_of before held.entry.event)
        (first_told before held.entry held.others (ap (are_told before) (sym held.next) ∙ way.all_told)).0))
        ∙ held.gone;
    noted = held.noted;
  }

  fresh_next : HasFresh begun released core way.had (shown before old.waiting ++ way.later) old
      → HasFresh begun released core way.had (shown rows new.waiting ++ shown now rest) new
  fresh_next second = record {
    old = second.old;
    log = second.log;
    grown = subst (λ (xs : List (Event × Reply)). HasAccepted second.old xs core) left_is second.grown;
    start = taking.2.start ∙ second.start;
    made = second.made;
    fresh = taking.2.fresh ∙ second.fresh;
    numbers = second.numbers;
    beside = second.beside;
    links = second.links;
    noted = elim second.noted [ inl same ↦ inl same | inr held ↦ inr (held_next second.numbers second.made.numbers held) ];
  }

  -- ---- at any time

  pub taken_under_way : IsUnderWay begun released core new
  taken_under_way = record {
    had = way.had;
    later = shown now rest;
    all_told = ap (are_told rows) taking.2.waiting ∙ told_both rows old.waiting portion waiting_still.0 portion_still.0;
    log = way.log ∙ ap (λ (log : List (Event × Reply)). way.had ++ log) left_is;
    taken =
        let a = taking.2.taken in
        let b = way.taken in
        let c = ap length taking.2.waiting in
        let d = length-append old.waiting portion in
        omega (arith, a, b, c, d);
    classes = are_brought.1;
    phase = elim way.phase [ inl first ↦ inl (gathering_next first) | inr second ↦ inr (fresh_next second) ];
  }
