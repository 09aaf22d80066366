-- A renewal stays under way as entries are carried over, and if one isn't.
use Rattle.std.specs.Prelude.{◌≡◌, ◌⊎◌, ℕ, true, List, [], ◌∷◌, ◌++◌, length, Option, Some, None, MatchOption}
use Rattle.std.proofs.Common.{refl, sym, ap, subst, ◌∙◌, arith, inl, inr, length-append, append_assoc}
use Rattle.std.proofs.lemmas.List.{append-nil}
use Rattle.std.proofs.lemmas.Option.{MatchOption-at_some, MatchOption-at_none, same_Some, none-some}
use Rattle.jl_types.specs.declared.event.Reply.{Reply}
use Rattle.jl_types.specs.declared.link.Link.{Link}
use Rattle.jl_types.specs.Values.World.{World, Class}
use Rattle.jl_types.specs.Events.Event.{Event}
use Rattle.jl_core.specs.State.{State, world_of}
use Rattle.jl_core.specs.Logs.{Entry, are_told, shown}
use Rattle.jl_core.proofs.LogLaws.{length_told}
use Rattle.jl_renewal.specs.declared.entries.CarryFault.{CarryFault}
use Rattle.jl_renewal.specs.declared.entries.CarryFault.TheVariants.{Gone, Refused}
use Rattle.jl_renewal.specs.declared.released.Released.{Released}
use Rattle.jl_renewal.specs.Numbers.{Numbers}
use Rattle.jl_renewal.specs.Carries.{carried_event, with_made, IsAdded}
use Rattle.jl_renewal.specs.Renewal.{fresh_rows}
use Rattle.jl_renewal.specs.Moved.{flags_of, IsBeside, HaveSameLinks}
use Rattle.jl_host.specs.declared.told.Told.{Told}
use Rattle.jl_host.specs.Renewing.{Fresh, Renewing, installs_of, IsLinked, IsCarriedOn, AreCarried, IsUnlinked, StopsBefore}
use Rattle.jl_host.specs.Renewing.{AreAllCarried, HasStopped, IsFilledOn, IsFilled}
use Rattle.jl_host.specs.UnderWay.{HasAccepted, IsHeldUp, HasFresh, IsUnderWay}
use Rattle.jl_host.proofs.UnderWayLists.{both_told, shown_both}
use Rattle.jl_host.proofs.UnderWayCarried.{HaveComeOver, gone_still, noted_twice, all_on}
use Rattle.jl_host.proofs.UnderWayMade.{ready_under_way}

-- what names what is gone isn't carried over
not_carried : (renewing : Renewing) (n : Numbers) (f g : Fresh) (held : IsHeldUp renewing n f.numbers) → IsCarriedOn renewing.defined held.entry f g → ⊥
not_carried renewing n f g held carried =
    let added = MatchOption-at_none (IsAdded renewing.defined held.entry f.numbers g.numbers f.core g.core)
    (λ rows. IsLinked (fresh_rows (world_of f.core) f.numbers rows) f g) held.other carried in
    let gone = ap (λ (m : Numbers). carried_event renewing.defined m held.entry) held.noted
    ∙ (gone_still renewing.defined held.entry n held.entry.reply.made ∙ held.gone) in
    none-some added.event (sym gone ∙ added.is)

-- an entry that names what is gone is no install
gone_is_other : (w : World) (entry : Entry) (f : Fresh) (o : Option (List (ℕ × Link))) → installs_of entry.event ≡ o
    → MatchOption o (carried_event w f.numbers entry ≡ None) (λ rows. IsUnlinked (fresh_rows (world_of f.core) f.numbers rows) f.core Gone)
    → (installs_of entry.event ≡ None) × (carried_event w f.numbers entry ≡ None)
gone_is_other w entry f None is why = (is, why)
gone_is_other w entry f (Some rows) is why = absurd why

module _ (begun : State) (released : Released) (core : State) (renewing : Renewing) (way : IsUnderWay begun released core renewing)
    (second : HasFresh begun released core way.had (shown renewing.defined.classes.rows renewing.waiting ++ way.later) renewing) where
  abbrev rows : List Class
  rows = renewing.defined.classes.rows

  -- with this fresh core, and with these entries that wait
  abbrev with_fresh : Fresh → List Entry → Renewing
  with_fresh h left = record renewing { fresh = Some h; waiting = left }

  -- ---- if nothing is noted

  module _ (same : second.made.numbers ≡ second.numbers) (front left : List Entry) (g h : Fresh) (split : renewing.waiting ≡ front ++ left)
      (carried : AreCarried renewing.defined front second.made g) (core_same : h.core ≡ g.core)
      (noted : (h.numbers ≡ g.numbers) ⊎ IsHeldUp (with_fresh h left) g.numbers h.numbers) where
    told_split : are_told rows (front ++ left) ≡ true
    told_split = ap (are_told rows) (sym split) ∙ way.all_told

    pub come_over : HaveComeOver (flags_of (world_of begun) released) renewing.defined core front left way.later second.old g
    come_over =
        all_on (flags_of (world_of begun) released) renewing.defined core left way.later front second.old second.made g told_split
        (subst (λ (xs : List Entry). HasAccepted second.old (shown rows xs ++ way.later) core) split second.grown)
        (subst (λ (n : Numbers). IsBeside (flags_of (world_of begun) released) second.old second.made.core n) (sym same) second.beside)
        (subst (λ (n : Numbers). HaveSameLinks second.old second.made.core n) (sym same) second.links) carried

    clean_under_way : IsUnderWay begun released core (with_fresh h left)
    clean_under_way = record {
      had = way.had ++ shown rows front;
      later = way.later;
      all_told = (both_told rows front left told_split).1;
      log =
          way.log
          ∙ (ap (λ (log : List (Event × Reply)). way.had ++ (log ++ way.later)) (ap (shown rows) split ∙ shown_both rows front left)
          ∙ (ap (λ (log : List (Event × Reply)). way.had ++ log) (append_assoc (shown rows front) (shown rows left) way.later)
          ∙ sym (append_assoc way.had (shown rows front) (shown rows left ++ way.later))));
      taken =
          let a = way.taken in
          let b = ap length split in
          let c = length-append front left in
          let d = length-append way.had (shown rows front) in
          let e = length_told rows front (both_told rows front left told_split).0 in
          omega (arith, a, b, c, d, e);
      classes = way.classes;
      phase = inr (record {
        old = come_over.new;
        log = come_over.log ∙ ap (λ (log : List (Event × Reply)). log ++ shown rows front) second.log;
        grown = come_over.grown;
        start = second.start;
        made = h;
        fresh = refl;
        numbers = g.numbers;
        beside =
            subst (λ (c : State). IsBeside (flags_of (world_of begun) released) come_over.new c g.numbers) (sym core_same) come_over.beside;
        links = subst (λ (c : State). HaveSameLinks come_over.new c g.numbers) (sym core_same) come_over.links;
        noted = noted;
      });
    }

  -- ---- if it is noted that what the next entry made is gone

  apart : (entry : Entry) (others : List Entry) → [] ≡ entry ∷ others → ⊥
  apart entry others e = cc

  module _ (held : IsHeldUp renewing second.numbers second.made.numbers) where
    -- none was carried over
    pub held_front : (front left : List Entry) (g : Fresh) → renewing.waiting ≡ front ++ left → AreCarried renewing.defined front second.made g
        → (g ≡ second.made) × (left ≡ renewing.waiting)
    held_front [] left g split carried = (carried, sym split)
    held_front (entry ∷ front) left g split carried =
        let both : (entry ∷ (front ++ left)) ≡ (held.entry ∷ held.others) = sym split ∙ held.next in
        let same : entry ≡ held.entry = cc in
        absurd (not_carried renewing second.numbers second.made carried.0 held
        (subst (λ (x : Entry). IsCarriedOn renewing.defined x second.made carried.0) same carried.1))

    held_under_way : (left : List Entry) (h : Fresh) → left ≡ renewing.waiting → h.core ≡ second.made.core → h.numbers ≡ second.made.numbers
        → IsUnderWay begun released core (with_fresh h left)
    held_under_way left h same core_same numbers_same =
        subst (λ (waiting : List Entry). IsUnderWay begun released core (with_fresh h waiting)) (sym same) (record {
          had = way.had;
          later = way.later;
          all_told = way.all_told;
          log = way.log;
          taken = way.taken;
          classes = way.classes;
          phase = inr (record {
            old = second.old;
            log = second.log;
            grown = second.grown;
            start = second.start;
            made = h;
            fresh = refl;
            numbers = second.numbers;
            beside =
                subst (λ (c : State). IsBeside (flags_of (world_of begun) released) second.old c second.numbers) (sym core_same) second.beside;
            links = subst (λ (c : State). HaveSameLinks second.old c second.numbers) (sym core_same) second.links;
            noted = inr (record {
              entry = held.entry;
              others = held.others;
              next = held.next;
              other = held.other;
              gone = held.gone;
              noted = numbers_same ∙ held.noted;
            });
          });
        })

  -- ---- all were carried over

  all_under_way : (second.made.numbers ≡ second.numbers) ⊎ IsHeldUp renewing second.numbers second.made.numbers → (g : Fresh)
      → AreCarried renewing.defined renewing.waiting second.made g → IsUnderWay begun released core (with_fresh g [])
  all_under_way (inl same) g carried =
      clean_under_way same renewing.waiting [] g g (sym (append-nil renewing.waiting)) carried refl (inl refl)
  all_under_way (inr held) g carried =
      let none = held_front held renewing.waiting [] g (sym (append-nil renewing.waiting)) carried in
      absurd (apart held.entry held.others (none.1 ∙ held.next))

  -- ---- those before one that isn't were

  stopped_under_way : (second.made.numbers ≡ second.numbers) ⊎ IsHeldUp renewing second.numbers second.made.numbers → (fault : CarryFault)
      (left : List Entry) (h : Fresh) → StopsBefore renewing.defined renewing.waiting left second.made fault h
      → IsUnderWay begun released core (with_fresh h left)
  stopped_under_way (inl same) Gone left h stops =
      let gone = gone_is_other renewing.defined stops.entry stops.before (installs_of stops.entry.event) refl stops.uncarried.why in
      clean_under_way same stops.carried.0 left stops.before h stops.carried.1 stops.carried.2 stops.uncarried.core (inr (record {
        entry = stops.entry;
        others = stops.others;
        next = stops.next;
        other = gone.0;
        gone = gone.1;
        noted = stops.uncarried.numbers;
      }))
  stopped_under_way (inl same) (Refused r) left h stops =
      clean_under_way same stops.carried.0 left stops.before h stops.carried.1 stops.carried.2 stops.uncarried.core (inl stops.uncarried.numbers)
  stopped_under_way (inr held) Gone left h stops =
      let none = held_front held stops.carried.0 left stops.before stops.carried.1 stops.carried.2 in
      let both : (stops.entry ∷ stops.others) ≡ (held.entry ∷ held.others) = sym stops.next ∙ (none.1 ∙ held.next) in
      let same : stops.entry ≡ held.entry = cc in
      held_under_way held left h none.1 (stops.uncarried.core ∙ ap (λ (g : Fresh). g.core) none.0)
      (stops.uncarried.numbers
      ∙ ((λ i. with_made (none.0 i).numbers (same i).reply.made None)
      ∙ (ap (λ (n : Numbers). with_made n held.entry.reply.made None) held.noted
      ∙ (noted_twice second.numbers held.entry.reply.made ∙ sym held.noted))))
  stopped_under_way (inr held) (Refused r) left h stops =
      let none = held_front held stops.carried.0 left stops.before stops.carried.1 stops.carried.2 in
      held_under_way held left h none.1 (stops.uncarried.core ∙ ap (λ (g : Fresh). g.core) none.0)
      (stops.uncarried.numbers ∙ ap (λ (g : Fresh). g.numbers) none.0)

-- ---- a fill

module _ (begun : State) (released : Released) (core : State) (old new : Renewing) (status : ℕ) (told : Told) where
  module _ (way : IsUnderWay begun released core old) where
    as_before : new ≡ old → IsUnderWay begun released core new
    as_before same = subst (λ (renewing : Renewing). IsUnderWay begun released core renewing) (sym same) way

    carried_on : (second : HasFresh begun released core way.had (shown old.defined.classes.rows old.waiting ++ way.later) old) → AreAllCarried old new
        → IsUnderWay begun released core new
    carried_on second carried =
        let is = MatchOption-at_some (new ≡ old)
        (λ fresh. (after : Fresh) × AreCarried old.defined old.waiting fresh after × (new ≡ record old { fresh = Some after; waiting = [] }))
        second.made second.fresh carried in
        subst (λ (renewing : Renewing). IsUnderWay begun released core renewing) (sym is.2)
        (all_under_way begun released core old way second second.noted is.0 is.1)

    stopped_on : (second : HasFresh begun released core way.had (shown old.defined.classes.rows old.waiting ++ way.later) old) (fault : CarryFault)
        → HasStopped old fault new → IsUnderWay begun released core new
    stopped_on second fault stopped =
        let made : stopped.0 ≡ second.made = same_Some stopped.0 second.made (sym stopped.3 ∙ second.fresh) in
        subst (λ (renewing : Renewing). IsUnderWay begun released core renewing) (sym stopped.5) (elim stopped.4 [
          | inl stops ↦
              stopped_under_way begun released core old way second second.noted fault stopped.2 stopped.1
              (subst (λ (f : Fresh). StopsBefore old.defined old.waiting stopped.2 f fault stopped.1) made stops)
          | inr lacks ↦
              subst (λ (left : List Entry). IsUnderWay begun released core (record old { fresh = Some stopped.1; waiting = left })) (sym lacks.1)
              (all_under_way begun released core old way second second.noted stopped.1
              (subst (λ (f : Fresh). AreCarried old.defined old.waiting f stopped.1) made lacks.2))
        ])

    on_under_way : IsFilledOn old status told new → IsUnderWay begun released core new
    on_under_way is = elim way.phase [
      | inl first ↦ elim is [
        | inl carried ↦
            as_before (MatchOption-at_none (new ≡ old)
            (λ fresh. (after : Fresh) × AreCarried old.defined old.waiting fresh after × (new ≡ record old { fresh = Some after; waiting = [] }))
            first.fresh carried.2)
        | inr stopped ↦ absurd (none-some stopped.1.0 (sym first.fresh ∙ stopped.1.3))
      ]
      | inr second ↦ elim is [
        | inl carried ↦ carried_on second carried.2
        | inr stopped ↦ stopped_on second stopped.0 stopped.1
      ]
    ]

pub filled_under_way : (begun : State) (released : Released) (core : State) (old new : Renewing) (status : ℕ) (told : Told)
    → IsUnderWay begun released core old → IsFilled old status told new → IsUnderWay begun released core new
filled_under_way begun released core old new status told way (inl is) =
    on_under_way begun released core is.0 new status told (ready_under_way begun released core old is.0 way is.1) is.2
filled_under_way begun released core old new status told way (inr is) =
    subst (λ (renewing : Renewing). IsUnderWay begun released core renewing) (sym is.4) way
