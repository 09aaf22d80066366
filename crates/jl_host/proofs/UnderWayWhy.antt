-- Why a fill that has its fresh core stops.
use Rattle.std.specs.Prelude.{◌≡◌, ◌-◌, ℕ, true, is_ok, IsOk, slice_get, List, ◌∷◌, ◌++◌, length, Option, Some, None, MatchOption}
use Rattle.std.proofs.Common.{refl, sym, ap, subst, ◌∙◌, arith, inl, inr, length-append}
use Rattle.std.proofs.lemmas.Option.{MatchOption-at_none, same_Some, none-some}
use Rattle.jl_types.specs.declared.event.EventOf.TheVariants as event
use Rattle.jl_types.specs.declared.event.Reply.{Reply}
use Rattle.jl_types.specs.declared.link.Link.{Link}
use Rattle.jl_types.specs.declared.refusal.Refusal.TheVariants.{Memory}
use Rattle.jl_types.specs.Values.World.{World, Class}
use Rattle.jl_types.specs.Events.Event.{Event}
use Rattle.jl_types.specs.Events.Verdict.{verdict}
use Rattle.jl_types.specs.Events.History.{dropped}
use Rattle.jl_types.proofs.Places.{accepted_of}
use Rattle.jl_events.specs.Accepted.{Accepted, event_of}
use Rattle.jl_core.specs.State.{State, events, world_of}
use Rattle.jl_core.specs.Logs.{Entry, told, are_told, shown}
use Rattle.jl_core.proofs.LogLaws.{length_told}
use Rattle.jl_renewal.specs.declared.entries.CarryFault.{CarryFault}
use Rattle.jl_renewal.specs.declared.entries.CarryFault.TheVariants.{Gone, Refused}
use Rattle.jl_renewal.specs.declared.released.Released.{Released}
use Rattle.jl_renewal.specs.Numbers.{Numbers}
use Rattle.jl_renewal.specs.Renewal.{fresh_rows}
use Rattle.jl_renewal.specs.Carries.{carried_event, IsUncarried}
use Rattle.jl_renewal.specs.Moved.{Flags, flags_of, may_be_gone, IsBeside, IsFaultBeside}
use Rattle.jl_renewal.proofs.MovedFaults.{fault_beside}
use Rattle.jl_renewal.proofs.MovedLinks.{install_accepted}
use Rattle.jl_renewal.proofs.MovedTargets.{inv_map}
use Rattle.jl_renewal.proofs.StayLaws.{in_middle}
use Rattle.jl_renewal.proofs.StopLaws.{not_both}
use Rattle.jl_host.specs.declared.told.Told.{Told}
use Rattle.jl_host.specs.Numbers.{status_of_refusal}
use Rattle.jl_host.specs.Renewing.{Fresh, Renewing, installs_of, IsUnlinked, StopsBefore, IsToldOf, IsFilledOn, IsFilled}
use Rattle.jl_host.specs.UnderWay.{HasAccepted, IsHeldUp, HasFresh, IsUnderWay, is_of_call_site, IsFillAnswer, IsFillOrUnready}
use Rattle.jl_host.proofs.UnderWayLists.{some_value, both_told, first_told, shown_first, log_grows}
use Rattle.jl_host.proofs.UnderWayCarried.{HaveComeOver, gone_still, installs_told}
use Rattle.jl_host.proofs.UnderWayMade.{ready_under_way}
use Rattle.jl_host.proofs.UnderWayFilled.{come_over, held_front}

-- ---- the next entry

-- what the next of the entries that are left tells, and that it was accepted
record IsNext (w : World) (core : State) (entry : Entry) (old : State) : Type 0 where
  event : Event
  named : event_of w.classes.rows entry.event ≡ Some event
  ok : IsOk (verdict old.limits (world_of old) event)
  at : slice_get core.log (length old.log) ≡ Some (event, entry.reply)

next_is : (w : World) (core : State) (entry : Entry) (others : List Entry) (later : List (Event × Reply)) (old : State)
    → are_told w.classes.rows (entry ∷ others) ≡ true → HasAccepted old (shown w.classes.rows (entry ∷ others) ++ later) core → IsNext w core entry old
next_is w core entry others later old all grown =
    let value = some_value (told w.classes.rows entry) (first_told w.classes.rows entry others all).0 in
    let e = inv_map (λ (e : Event). (e, entry.reply)) (event_of w.classes.rows entry.event) value.0 value.1 in
    let is : shown w.classes.rows (entry ∷ others) ≡ (e.0, entry.reply) ∷ shown w.classes.rows others =
    shown_first w.classes.rows entry others value.0 value.1 ∙ ap (λ (x : Event × Reply). x ∷ shown w.classes.rows others) (sym e.2) in
    let next = subst (λ (xs : List (Event × Reply)). HasAccepted old (xs ++ later) core) is grown in
    record {
      event = e.0;
      named = e.1;
      ok = ap is_ok (accepted_of (dropped (events old) e.0) (verdict old.limits (world_of old) e.0) entry.reply next.1.answered).0;
      at =
          ap (λ (log : List (Event × Reply)). slice_get log (length old.log))
          (log_grows (shown w.classes.rows (entry ∷ others) ++ later) old core grown ∙ ap (λ (xs : List (Event × Reply)). old.log ++ (xs ++ later)) is)
          ∙ in_middle old.log (e.0, entry.reply) (shown w.classes.rows others ++ later);
    }

-- ---- why it isn't carried over to a fresh core beside the old one

-- it names what is gone, and is of a call site; or there is no memory
abbrev IsFaultOn : Event → CarryFault → Type 0
IsFaultOn e Gone = is_of_call_site e ≡ true
IsFaultOn e (Refused r) = r ≡ Memory

of_call_site : (e : Event) → may_be_gone e ≡ true → ((links : List (ℕ × Link)) → e ≡ event.Install links → ⊥) → is_of_call_site e ≡ true
of_call_site event.NewLoader gone other = cc
of_call_site (event.Define loader file) gone other = cc
of_call_site (event.Delegate loader name to) gone other = cc
of_call_site (event.Request place) gone other = cc
of_call_site (event.NewCallSite kind ty target) gone other = refl
of_call_site (event.SetTarget c target) gone other = refl
of_call_site event.NewSwitch gone other = cc
of_call_site (event.Invalidate points) gone other = cc
of_call_site (event.Bind s c) gone other = refl
of_call_site (event.Install links) gone other = absurd (other links refl)
of_call_site (event.Retire loader) gone other = cc
of_call_site (event.RetireAll loaders) gone other = cc
of_call_site (event.Release call_sites points) gone other = cc

no_install : (rows : List Class) (a : Accepted) (links : List (ℕ × Link)) → installs_of a ≡ None → event_of rows a ≡ Some (event.Install links) → ⊥
no_install rows event.NewLoader links none is = cc
no_install rows (event.Define loader c) links none is =
    let found = inv_map (λ (row : Class). event.Define loader row.file) (slice_get rows c) (event.Install links) is in
    let same : event.Define loader found.0.file ≡ event.Install links = found.2 in
    cc
no_install rows (event.Delegate loader name to) links none is = cc
no_install rows (event.Request place) links none is = cc
no_install rows (event.NewCallSite kind ty target) links none is = cc
no_install rows (event.SetTarget c target) links none is = cc
no_install rows event.NewSwitch links none is = cc
no_install rows (event.Invalidate points) links none is = cc
no_install rows (event.Bind s c) links none is = cc
no_install rows (event.Install old) links none is = cc
no_install rows (event.Retire loader) links none is = cc
no_install rows (event.RetireAll loaders) links none is = cc
no_install rows (event.Release call_sites points) links none is = cc

fault_on : (rows : List Class) (a : Accepted) (e : Event) (fault : CarryFault) → installs_of a ≡ None → event_of rows a ≡ Some e → IsFaultBeside e fault
    → IsFaultOn e fault
fault_on rows a e Gone none named gone = of_call_site e gone (λ links same. no_install rows a links none (named ∙ ap Some same))
fault_on rows a e (Refused r) none named lacks = lacks

module _ (k : Flags) (w : World) (core : State) (entry : Entry) (old : State) (next : IsNext w core entry old) (f : Fresh)
    (beside : IsBeside k old f.core f.numbers) where
  by_install : (fault : CarryFault) (o : Option (List (ℕ × Link))) → installs_of entry.event ≡ o
      → MatchOption o (IsUncarried w entry f.numbers f.core fault) (λ rows. IsUnlinked (fresh_rows (world_of f.core) f.numbers rows) f.core fault)
      → IsFaultOn next.event fault
  by_install fault None is why =
      fault_on w.classes.rows entry.event next.event fault is next.named
      (fault_beside k old f.core f.numbers beside w entry next.event next.named next.ok fault why)
  by_install Gone (Some rows) is why = absurd why
  by_install (Refused r) (Some rows) is (inl lacks) = lacks
  by_install (Refused r) (Some rows) is (inr (inr lacks)) = lacks.0
  by_install (Refused r) (Some rows) is (inr (inl refused)) =
      let same : next.event ≡ event.Install rows =
      same_Some next.event (event.Install rows) (sym next.named ∙ installs_told w.classes.rows entry.event rows is) in
      absurd (not_both (verdict f.core.limits (world_of f.core) (event.Install (fresh_rows (world_of f.core) f.numbers rows))) r refused
      (install_accepted k old f.core f.numbers beside rows
      (subst (λ (e : Event). IsOk (verdict old.limits (world_of old) e)) same next.ok)))

  why_beside : (fault : CarryFault)
      → MatchOption (installs_of entry.event) (IsUncarried w entry f.numbers f.core fault)
      (λ rows. IsUnlinked (fresh_rows (world_of f.core) f.numbers rows) f.core fault)
      → IsFaultOn next.event fault
  why_beside fault = by_install fault (installs_of entry.event) refl

-- ---- if the fresh core is there

-- by what was told
answer_of : (core : State) (new : Renewing) (fault : CarryFault) (status : ℕ) (told : Told) → IsToldOf new fault status told → (e : Event) (reply : Reply)
    → slice_get core.log (new.taken - length new.waiting) ≡ Some (e, reply) → IsFaultOn e fault → IsFillAnswer core new status
answer_of core new Gone status telling said e reply at named = inr (inr (said.0, (e, reply, at, named)))
answer_of core new (Refused r) status telling said e reply at lacks = inr (inl (said.0 ∙ ap status_of_refusal lacks))

module _ (begun : State) (released : Released) (core : State) (old : Renewing) (way : IsUnderWay begun released core old)
    (second : HasFresh begun released core way.had (shown old.defined.classes.rows old.waiting ++ way.later) old) where
  abbrev rows : List Class
  rows = old.defined.classes.rows

  abbrev flags : Flags
  flags = flags_of (world_of begun) released

  module _ (new : Renewing) (fault : CarryFault) (left : List Entry) (h : Fresh) (status : ℕ) (told : Told)
      (stops : StopsBefore old.defined old.waiting left second.made fault h) (taken : new.taken ≡ old.taken) (waiting : new.waiting ≡ left)
      (said : IsToldOf new fault status told) where
    abbrev front : List Entry
    front = stops.carried.0

    split : old.waiting ≡ front ++ left
    split = stops.carried.1

    front_told : are_told rows front ≡ true
    front_told = (both_told rows front left (ap (are_told rows) (sym split) ∙ way.all_told)).0

    left_told : are_told rows (stops.entry ∷ stops.others) ≡ true
    left_told = ap (are_told rows) (sym stops.next) ∙ (both_told rows front left (ap (are_told rows) (sym split) ∙ way.all_told)).1

    -- if nothing is noted
    module _ (same : second.made.numbers ≡ second.numbers) where
      came : HaveComeOver flags old.defined core front left way.later second.old stops.before
      came = come_over begun released core old way second same front left stops.before stops.before split stops.carried.2 refl (inl refl)

      came_next : IsNext old.defined core stops.entry came.new
      came_next =
          next_is old.defined core stops.entry stops.others way.later came.new left_told
          (subst (λ (xs : List Entry). HasAccepted came.new (shown rows xs ++ way.later) core) stops.next came.grown)

      came_place : new.taken - length new.waiting ≡ length came.new.log
      came_place =
          let a = way.taken in
          let b = ap length split in
          let c = length-append front left in
          let d = ap length came.log in
          let e = length-append second.old.log (shown rows front) in
          let f = ap length second.log in
          let g = length_told rows front front_told in
          let l = ap length waiting in
          omega (arith, a, b, c, d, e, f, g, l, taken)

      clean_answer : IsFillAnswer core new status
      clean_answer =
          answer_of core new fault status told said came_next.event stops.entry.reply
          (ap (λ (n : ℕ). slice_get core.log n) came_place ∙ came_next.at)
          (why_beside flags old.defined core stops.entry came.new came_next stops.before came.beside fault stops.uncarried.why)

    -- if it is noted that what the next entry made is gone
    module _ (held : IsHeldUp old second.numbers second.made.numbers) where
      none : (stops.before ≡ second.made) × (left ≡ old.waiting)
      none = held_front begun released core old way second held front left stops.before split stops.carried.2

      same_entry : stops.entry ≡ held.entry
      same_entry =
          let both : (stops.entry ∷ stops.others) ≡ (held.entry ∷ held.others) = sym stops.next ∙ (none.1 ∙ held.next) in
          cc

      held_next : IsNext old.defined core stops.entry second.old
      held_next =
          next_is old.defined core stops.entry stops.others way.later second.old left_told
          (subst (λ (xs : List Entry). HasAccepted second.old (shown rows xs ++ way.later) core) (sym none.1 ∙ stops.next) second.grown)

      held_place : new.taken - length new.waiting ≡ length second.old.log
      held_place =
          let a = way.taken in
          let b = ap length none.1 in
          let f = ap length second.log in
          let l = ap length waiting in
          omega (arith, a, b, f, l, taken)

      still_gone : carried_event old.defined stops.before.numbers stops.entry ≡ None
      still_gone =
          (λ i. carried_event old.defined (none.0 i).numbers (same_entry i))
          ∙ (ap (λ (n : Numbers). carried_event old.defined n held.entry) held.noted
          ∙ (gone_still old.defined held.entry second.numbers held.entry.reply.made ∙ held.gone))

      held_why : (fault : CarryFault)
          → MatchOption (installs_of stops.entry.event) (IsUncarried old.defined stops.entry stops.before.numbers stops.before.core fault)
          (λ rows. IsUnlinked (fresh_rows (world_of stops.before.core) stops.before.numbers rows) stops.before.core fault)
          → IsFaultOn held_next.event fault
      held_why Gone why =
          fault_on rows stops.entry.event held_next.event Gone (ap (λ (entry : Entry). installs_of entry.event) same_entry ∙ held.other) held_next.named
          (fault_beside flags second.old second.made.core second.numbers second.beside old.defined stops.entry held_next.event held_next.named
          held_next.ok Gone (ap (carried_event old.defined second.numbers) same_entry ∙ held.gone))
      held_why (Refused r) why =
          elim (MatchOption-at_none (IsUncarried old.defined stops.entry stops.before.numbers stops.before.core (Refused r))
          (λ rows. IsUnlinked (fresh_rows (world_of stops.before.core) stops.before.numbers rows) stops.before.core (Refused r))
          (ap (λ (entry : Entry). installs_of entry.event) same_entry ∙ held.other) why) [
            | inl lacks ↦ lacks
            | inr refused ↦ absurd (none-some refused.0 (sym still_gone ∙ refused.1))
          ]

      held_answer : IsFillAnswer core new status
      held_answer =
          answer_of core new fault status told said held_next.event stops.entry.reply
          (ap (λ (n : ℕ). slice_get core.log n) held_place ∙ held_next.at) (held_why fault stops.uncarried.why)

    stopped_answer : IsFillAnswer core new status
    stopped_answer = elim second.noted [ inl same ↦ clean_answer same | inr held ↦ held_answer held ]

  on_answer : (new : Renewing) (status : ℕ) (told : Told) → IsFilledOn old status told new → IsFillAnswer core new status
  on_answer new status told (inl is_done) = inl is_done.0
  on_answer new status told (inr stopped) =
      let made : stopped.1.0 ≡ second.made = same_Some stopped.1.0 second.made (sym stopped.1.3 ∙ second.fresh) in
      elim stopped.1.4 [
        | inl stops ↦
            stopped_answer new stopped.0 stopped.1.2 stopped.1.1 status told
            (subst (λ (f : Fresh). StopsBefore old.defined old.waiting stopped.1.2 f stopped.0 stopped.1.1) made stops)
            (ap (λ (renewing : Renewing). renewing.taken) stopped.1.5) (ap (λ (renewing : Renewing). renewing.waiting) stopped.1.5) stopped.2
        | inr lacks ↦ inr (inl (subst (λ (fault : CarryFault). IsToldOf new fault status told) lacks.0 stopped.2).0)
      ]

pub why_answered : (begun : State) (released : Released) (core : State) (old new : Renewing) (status : ℕ) (told : Told) → IsUnderWay begun released core old
    → IsFilled old status told new → IsFillOrUnready core old status new
why_answered begun released core old new status told way (inl filled) =
    let ready = ready_under_way begun released core old filled.0 way filled.1 in
    inl (elim ready.phase [
      | inl first ↦ elim filled.2 [
        | inl is_done ↦ inl is_done.0
        | inr stopped ↦ absurd (none-some stopped.1.0 (sym first.fresh ∙ stopped.1.3))
      ]
      | inr second ↦ on_answer begun released core filled.0 ready second new status told filled.2
    ])
why_answered begun released core old new status told way (inr unready) = inr (unready.0, unready.1, unready.2)
