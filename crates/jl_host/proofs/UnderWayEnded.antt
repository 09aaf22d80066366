-- What a renewal that was under way hands over at its end.
use Rattle.std.specs.Prelude.{◌≡◌, ◌⊎◌, ◌+◌, ◌^◌, ◌<◌, ◌==◌, ℕ, Bool, true, false, List, [], ◌∷◌, ◌++◌, length, take, drop, Option, Some, None}
use Rattle.std.specs.Prelude.{MatchBool, MatchOption}
use Rattle.std.proofs.Common.{refl, sym, ap, subst, ◌∙◌, arith, inl, inr}
use Rattle.std.proofs.lemmas.List.{length-drop, take_all}
use Rattle.std.proofs.lemmas.Option.{none-some, same_Some}
use Rattle.jl_types.specs.declared.refusal.Refusal.{Refusal}
use Rattle.jl_types.specs.declared.refusal.Refusal.TheVariants as refusal
use Rattle.jl_types.specs.declared.event.Reply.{Reply}
use Rattle.jl_types.specs.Events.Event.{Event}
use Rattle.jl_core.specs.State.{State, world_of}
use Rattle.jl_core.specs.Logs.{Entry, shown}
use Rattle.jl_core.proofs.LogLaws.{length_told}
use Rattle.jl_renewal.specs.declared.entries.CarryFault.{CarryFault}
use Rattle.jl_renewal.specs.declared.entries.CarryFault.TheVariants.{Gone, Refused}
use Rattle.jl_renewal.specs.declared.released.Released.{Released}
use Rattle.jl_renewal.specs.Numbers.{Numbers}
use Rattle.jl_renewal.specs.Moved.{flags_of, IsBeside, HaveSameLinks}
use Rattle.jl_host.specs.declared.told.Told.{Told}
use Rattle.jl_host.specs.Numbers.{done, malformed, too_short, status_of_refusal}
use Rattle.jl_host.specs.Linkers.{Opened, opened_over}
use Rattle.jl_host.specs.Renewals.{Arrays, have_room, counts_in, with_numbers}
use Rattle.jl_host.specs.Renewing.{Start, Fresh, Renewing, IsMade, AreCarried, IsReady, IsTakenFrom, IsUntaken, IsToldOf, IsFilledOn, IsFilled}
use Rattle.jl_host.specs.Renewing.{all_that_are_left, IsFilledAll, IsKept, IsHandedOver, IsFinished}
use Rattle.jl_host.specs.UnderWay.{HasAccepted, IsHeldUp, HasFresh, IsUnderWay}
use Rattle.jl_host.proofs.UnderWayLists.{none_behind}
use Rattle.jl_host.proofs.UnderWayTaken.{parts_length, taken_under_way}
use Rattle.jl_host.proofs.UnderWayFilled.{filled_under_way}

-- ---- statuses

refused_is_not_done : (r : Refusal) → (status_of_refusal r == done) ≡ true → ⊥
refused_is_not_done (refusal.Define fault) e = cc
refused_is_not_done refusal.UnknownClass e = cc
refused_is_not_done refusal.NoSuchPlace e = cc
refused_is_not_done (refusal.NotLinkable reason) e = cc
refused_is_not_done refusal.SitesFull e = cc
refused_is_not_done (refusal.CallSite fault) e = cc
refused_is_not_done refusal.NotDynamic e = cc
refused_is_not_done (refusal.AlreadyBound c) e = cc
refused_is_not_done refusal.TypeMismatch e = cc
refused_is_not_done (refusal.Stale s link) e = cc
refused_is_not_done (refusal.NotReady s) e = cc
refused_is_not_done (refusal.UnknownSite s) e = cc
refused_is_not_done (refusal.Repeated s) e = cc
refused_is_not_done refusal.BatchSize e = cc
refused_is_not_done refusal.Memory e = cc
refused_is_not_done (refusal.Delegate fault) e = cc
refused_is_not_done refusal.LoadersFull e = cc
refused_is_not_done (refusal.Retire fault) e = cc
refused_is_not_done (refusal.RetireAll loader fault) e = cc
refused_is_not_done (refusal.Release fault) e = cc

fault_is_not_done : (renewing : Renewing) (fault : CarryFault) (status : ℕ) (told : Told) → IsToldOf renewing fault status told → (status == done) ≡ true → ⊥
fault_is_not_done renewing Gone status told is e = apart (ap (λ (n : ℕ). n == done) (sym is.0) ∙ e)
  where
    apart : false ≡ true → ⊥
    apart e = cc
fault_is_not_done renewing (Refused r) status told is e = refused_is_not_done r (ap (λ (n : ℕ). n == done) (sym is.0) ∙ e)

untaken_is_not_done : (core : State) (old : Renewing) (status : ℕ) → IsUntaken core old status → (status == done) ≡ true → ⊥
untaken_is_not_done core old status (inl lacks) e = apart (ap (λ (n : ℕ). n == done) (sym lacks) ∙ e)
  where
    apart : false ≡ true → ⊥
    apart e = cc
untaken_is_not_done core old status (inr other) e = apart (ap (λ (n : ℕ). n == done) (sym other.0) ∙ e)
  where
    apart : false ≡ true → ⊥
    apart e = cc

-- ---- all is carried over

-- A fill that is done leaves nothing that waits if the fresh core is there.
none_waits : (old new : Renewing) (status : ℕ) (told : Told) (made : Fresh) → IsFilled old status told new → (status == done) ≡ true
    → new.fresh ≡ Some made → new.waiting ≡ []
none_waits old new status told made (inl filled) e there = by_way filled.2
  where
    by_fresh : (o : Option Fresh) → filled.0.fresh ≡ o
        → MatchOption o (new ≡ filled.0)
        (λ fresh. (after : Fresh) × AreCarried filled.0.defined filled.0.waiting fresh after × (new ≡ record filled.0 { fresh = Some after; waiting = [] }))
        → new.waiting ≡ []
    by_fresh None is same = absurd (none-some made (sym (ap (λ (renewing : Renewing). renewing.fresh) same ∙ is) ∙ there))
    by_fresh (Some fresh) is carried = ap (λ (renewing : Renewing). renewing.waiting) carried.2

    by_way : IsFilledOn filled.0 status told new → new.waiting ≡ []
    by_way (inl carried) = by_fresh filled.0.fresh refl carried.2
    by_way (inr stopped) = absurd (fault_is_not_done new stopped.0 status told stopped.2 e)
none_waits old new status told made (inr unready) e there =
    absurd (refused_is_not_done unready.0 (ap (λ (n : ℕ). n == done) (sym unready.2) ∙ e))

-- ---- a fill takes nothing

ready_takes_none : (old new : Renewing) → IsReady old new → new.taken ≡ old.taken
ready_takes_none old new is = by_start old.start is
  where
    by_start : (o : Option Start)
        → MatchOption o (new ≡ old)
        (λ start. (made : Fresh) × IsMade start old.limits made × (new ≡ record old { start = None; fresh = Some made }))
        → new.taken ≡ old.taken
    by_start None same = ap (λ (renewing : Renewing). renewing.taken) same
    by_start (Some start) made = ap (λ (renewing : Renewing). renewing.taken) made.2

fill_takes_none : (old new : Renewing) (status : ℕ) (told : Told) → IsFilled old status told new → new.taken ≡ old.taken
fill_takes_none old new status told (inl filled) = by_way filled.2 ∙ ready_takes_none old filled.0 filled.1
  where
    by_fresh : (o : Option Fresh)
        → MatchOption o (new ≡ filled.0)
        (λ fresh. (after : Fresh) × AreCarried filled.0.defined filled.0.waiting fresh after × (new ≡ record filled.0 { fresh = Some after; waiting = [] }))
        → new.taken ≡ filled.0.taken
    by_fresh None same = ap (λ (renewing : Renewing). renewing.taken) same
    by_fresh (Some fresh) carried = ap (λ (renewing : Renewing). renewing.taken) carried.2

    by_way : IsFilledOn filled.0 status told new → new.taken ≡ filled.0.taken
    by_way (inl carried) = by_fresh filled.0.fresh carried.2
    by_way (inr stopped) = ap (λ (renewing : Renewing). renewing.taken) stopped.1.5
fill_takes_none old new status told (inr unready) = ap (λ (renewing : Renewing). renewing.taken) unready.4

-- all that is left is taken
takes_all : (begun : State) (released : Released) (core : State) (old new : Renewing) → IsUnderWay begun released core old → length core.log < 2 ^ 64
    → IsTakenFrom all_that_are_left core old new → new.taken ≡ length core.log
takes_all begun released core old new way few taking =
    let entries = taking.0 in
    let counted : length entries ≡ length core.log =
    sym (length_told (world_of core).classes.rows entries taking.1.told) ∙ ap length taking.1.events in
    let parts = parts_length begun released core old way in
    let left = length-drop old.taken entries in
    let all : take all_that_are_left (drop old.taken entries) ≡ drop old.taken entries =
    take_all all_that_are_left (drop old.taken entries) (omega (arith, few, counted, left)) in
    let more = taking.2.taken ∙ ap (λ (xs : List Entry). old.taken + length xs) all in
    let g = way.taken in
    omega (arith, counted, parts, left, more, g)

-- ---- the end

module _ (begun : State) (released : Released) (core : State) (old : Renewing) (way : IsUnderWay begun released core old) (before after : Arrays)
    (status : ℕ) (told : Told) where
  filled_all : (filling : ℕ) (filled : Renewing) → IsFilledAll core old filling told filled → IsUnderWay begun released core filled
  filled_all filling filled (inl untaken) = subst (λ (renewing : Renewing). IsUnderWay begun released core renewing) (sym untaken.2) way
  filled_all filling filled (inr is) =
      filled_under_way begun released core is.0 filled filling told
      (taken_under_way begun released core all_that_are_left old is.0 way is.1) is.2

  -- nothing was handed over
  module _ (next : Renewing) (fresh : Option Opened) (finished : IsFinished core old before status told (Some next) fresh after) where
    abbrev kept_from : Renewing
    kept_from = finished.0

    abbrev kept_why : ℕ
    kept_why = finished.1

    kept_as_filled : Some next ≡ Some kept_from → IsUnderWay begun released core next
    kept_as_filled same =
        subst (λ (renewing : Renewing). IsUnderWay begun released core renewing) (sym (same_Some next kept_from same))
        (filled_all kept_why kept_from finished.2)

    kept_by_room : (made : Fresh) (b : Bool)
        → MatchBool b
        ((status ≡ done) × (◌≡◌ {A = Option Renewing} (Some next) None) × (fresh ≡ Some (opened_over made.core))
        × (after ≡ with_numbers made.numbers before))
        (IsKept too_short (Some kept_from) None before status (Some next) fresh after)
        → IsUnderWay begun released core next
    kept_by_room made true handed = absurd (none-some next (sym handed.1))
    kept_by_room made false kept = kept_as_filled kept.1

    kept_by_fresh : (o : Option Fresh)
        → MatchOption o (IsKept malformed (Some kept_from) None before status (Some next) fresh after)
        (λ made. MatchBool (have_room (counts_in made.numbers) before)
        ((status ≡ done) × (◌≡◌ {A = Option Renewing} (Some next) None) × (fresh ≡ Some (opened_over made.core))
        × (after ≡ with_numbers made.numbers before))
        (IsKept too_short (Some kept_from) None before status (Some next) fresh after))
        → IsUnderWay begun released core next
    kept_by_fresh None kept = kept_as_filled kept.1
    kept_by_fresh (Some made) is = kept_by_room made (have_room (counts_in made.numbers) before) is

    kept_by_status : (b : Bool)
        → MatchBool b (IsHandedOver (Some kept_from) None before status (Some next) fresh after)
        (IsKept kept_why (Some kept_from) None before status (Some next) fresh after)
        → IsUnderWay begun released core next
    kept_by_status true handed = kept_by_fresh kept_from.fresh handed
    kept_by_status false kept = kept_as_filled kept.1

    pub kept_under_way : IsUnderWay begun released core next
    kept_under_way = kept_by_status (kept_why == done) finished.3

  -- the linker over the fresh core
  module _ (new : Option Renewing) (opened : Opened) (few : length core.log < 2 ^ 64)
      (finished : IsFinished core old before status told new (Some opened) after) where
    abbrev filled : Renewing
    filled = finished.0

    abbrev filling : ℕ
    filling = finished.1

    abbrev IsHanded : Type 0
    IsHanded = (numbers : Numbers) × IsBeside (flags_of (world_of begun) released) core opened.session.core numbers
        × HaveSameLinks core opened.session.core numbers × (after ≡ with_numbers numbers before)

    under_way : IsUnderWay begun released core filled
    under_way = filled_all filling filled finished.2

    is_kept : (reason : ℕ) → IsKept reason (Some filled) None before status new (Some opened) after → IsHanded
    is_kept reason kept = absurd (none-some opened (sym kept.2))

    -- all was taken, and is there
    module _ (is_done : (filling == done) ≡ true) (made : Fresh) (there : filled.fresh ≡ Some made) (open_over : Some opened ≡ Some (opened_over made.core))
        (written : after ≡ with_numbers made.numbers before) where
      none_left : IsFilledAll core old filling told filled → (filled.waiting ≡ []) × (filled.taken ≡ length core.log)
      none_left (inl untaken) = absurd (untaken_is_not_done core old filling untaken.0 is_done)
      none_left (inr is) = (
        none_waits is.0 filled filling told made is.2 is_done there,
        fill_takes_none is.0 filled filling told is.2 ∙ takes_all begun released core old is.0 way few is.1,
      )

      waits : filled.waiting ≡ []
      waits = (none_left finished.2).0

      later_none : under_way.later ≡ []
      later_none =
          none_behind under_way.later
          (let a = (none_left finished.2).1 in
          let b = under_way.taken in
          let c = parts_length begun released core filled under_way in
          omega (arith, a, b, c))

      by_noted : (second : HasFresh begun released core under_way.had (shown filled.defined.classes.rows filled.waiting ++ under_way.later) filled)
          → (second.made.numbers ≡ second.numbers) ⊎ IsHeldUp filled second.numbers second.made.numbers → second.numbers ≡ made.numbers
      by_noted second (inl same) =
          sym same ∙ ap (λ (f : Fresh). f.numbers) (same_Some second.made made (sym second.fresh ∙ there))
      by_noted second (inr held) = absurd (apart held.entry held.others (sym waits ∙ held.next))
        where
          apart : (entry : Entry) (others : List Entry) → [] ≡ entry ∷ others → ⊥
          apart entry others e = cc

      of_phase : (second : HasFresh begun released core under_way.had (shown filled.defined.classes.rows filled.waiting ++ under_way.later) filled) → IsHanded
      of_phase second =
          let ended : core ≡ second.old =
          subst (λ (xs : List (Event × Reply)). HasAccepted second.old xs core)
          (λ i. shown filled.defined.classes.rows (waits i) ++ later_none i) second.grown in
          let core_is : second.made.core ≡ opened.session.core =
          ap (λ (f : Fresh). f.core) (same_Some second.made made (sym second.fresh ∙ there))
          ∙ ap (λ (o : Opened). o.session.core) (sym (same_Some opened (opened_over made.core) open_over)) in (
            made.numbers,
            subst (λ (s : State). IsBeside (flags_of (world_of begun) released) s opened.session.core made.numbers) (sym ended)
                (subst (λ (s : State). IsBeside (flags_of (world_of begun) released) second.old s made.numbers) core_is
                (subst (λ (n : Numbers). IsBeside (flags_of (world_of begun) released) second.old second.made.core n) (by_noted second second.noted)
                second.beside)),
            subst (λ (s : State). HaveSameLinks s opened.session.core made.numbers) (sym ended)
                (subst (λ (s : State). HaveSameLinks second.old s made.numbers) core_is
                (subst (λ (n : Numbers). HaveSameLinks second.old second.made.core n) (by_noted second second.noted) second.links)),
            written,
          )

      all_there : IsHanded
      all_there = elim under_way.phase [
        | inl first ↦ absurd (none-some made (sym first.fresh ∙ there))
        | inr second ↦ of_phase second
      ]

    by_room : (filling == done) ≡ true → (made : Fresh) → filled.fresh ≡ Some made → (b : Bool)
        → MatchBool b
        ((status ≡ done) × (new ≡ None) × (Some opened ≡ Some (opened_over made.core)) × (after ≡ with_numbers made.numbers before))
        (IsKept too_short (Some filled) None before status new (Some opened) after)
        → IsHanded
    by_room is_done made there true handed = all_there is_done made there handed.2 handed.3
    by_room is_done made there false kept = is_kept too_short kept

    by_fresh : (filling == done) ≡ true → (o : Option Fresh) → filled.fresh ≡ o
        → MatchOption o (IsKept malformed (Some filled) None before status new (Some opened) after)
        (λ made. MatchBool (have_room (counts_in made.numbers) before)
        ((status ≡ done) × (new ≡ None) × (Some opened ≡ Some (opened_over made.core)) × (after ≡ with_numbers made.numbers before))
        (IsKept too_short (Some filled) None before status new (Some opened) after))
        → IsHanded
    by_fresh is_done None there kept = is_kept malformed kept
    by_fresh is_done (Some made) there is = by_room is_done made there (have_room (counts_in made.numbers) before) is

    by_status : (b : Bool) → (filling == done) ≡ b
        → MatchBool b (IsHandedOver (Some filled) None before status new (Some opened) after)
        (IsKept filling (Some filled) None before status new (Some opened) after)
        → IsHanded
    by_status true is_done handed = by_fresh is_done filled.fresh refl handed
    by_status false is kept = is_kept filling kept

    pub handed_over : IsHanded
    handed_over = by_status (filling == done) refl finished.3
