-- Whatever the old core accepts after a renewal, the fresh one accepts under new numbers, and comes to what the old one comes to.
use Rattle.std.specs.Prelude.{◌≡◌, ℕ, zero, suc, ◌≤◌, ◌<◌, List, [], ◌∷◌, ◌++◌, fold, length, take, Some, IsOk}
use Rattle.std.specs.List.{list_all}
use Rattle.std.proofs.Common.{refl, sym, ap, subst, ◌∙◌, arith, append_assoc}
use Rattle.std.proofs.lemmas.Bool.{and_parts}
use Rattle.std.proofs.lemmas.List.Folds.{list_all-append}
use Rattle.std.proofs.lemmas.Option.{same_Some, slice_get_within}
use Rattle.jl_types.specs.declared.limits.Limits.{Limits}
use Rattle.jl_types.specs.declared.event.EventOf.TheVariants as event
use Rattle.jl_types.specs.Values.World.{World, nothing_yet}
use Rattle.jl_types.specs.Events.Event.{Event}
use Rattle.jl_types.specs.Events.Limits.{AreNoFewer}
use Rattle.jl_types.specs.Events.Verdict.{verdict, step}
use Rattle.jl_types.specs.Events.History.{world_after}
use Rattle.jl_types.proofs.Orders.{world_good}
use Rattle.jl_types.proofs.Places.{world_more}
use Rattle.jl_relink.specs.Laws.{AreAccepted, has_read_file, IsInOrder}
use Rattle.jl_relink.proofs.InOrder.{accepted_in_order}
use Rattle.jl_core.specs.State.{State, events, world_of}
use Rattle.jl_renewal.specs.declared.released.Released.{Released}
use Rattle.jl_renewal.specs.Renewed.{renewed}
use Rattle.jl_renewal.specs.Moved.{Flags, flags_of, Rests, Names, event_there, events_there, AreThere, moved_world}
use Rattle.jl_renewal.proofs.FitLaws.{fit_after}
use Rattle.jl_renewal.proofs.ClassPhase.{loaders_after}
use Rattle.jl_renewal.proofs.Phases.{Leads, leads_nowhere, leads_on}
use Rattle.jl_renewal.proofs.StayLaws.{in_middle, in_front}
use Rattle.jl_renewal.proofs.MovedTargets.{inv_map}
use Rattle.jl_renewal.proofs.MovedEvents.{each_follows}
use Rattle.jl_renewal.proofs.MovedRests.{rests_after}
use Rattle.jl_renewal.proofs.MovedNames.{names_first, names_after}
use Rattle.jl_renewal.proofs.MovedRecords.{all_after, known_after}
use Rattle.jl_renewal.proofs.MovedFirst.{rests_first}
use Rattle.jl_renewal.proofs.MovedWorld.{world_first}

-- ---- a front of accepted events

pub take_front : (front rest : List Event) (n : ℕ) → n ≤ length front → take n (front ++ rest) ≡ take n front
take_front front rest zero le = refl
take_front [] rest (suc n) le = absurd (omega (arith, le))
take_front (e ∷ front) rest (suc n) le = ap (λ (es : List Event). e ∷ es) (take_front front rest n (omega (arith, le)))

pub take_whole : (front : List Event) → take (length front) front ≡ front
take_whole [] = refl
take_whole (e ∷ front) = ap (λ (es : List Event). e ∷ es) (take_whole front)

module _ (limits : Limits) (front rest : List Event) (accepted : AreAccepted limits (front ++ rest)) where
  pub front_accepted : AreAccepted limits front
  front_accepted = record {
    each = λ n e at.
        let lt = slice_get_within front n e at in
        subst (λ (es : List Event). IsOk (verdict limits (world_after es) e)) (take_front front rest n (omega (arith, lt)))
        (accepted.each n e (in_front front rest n e at));
    files = (and_parts (list_all has_read_file front) (list_all has_read_file rest) (sym (list_all-append has_read_file front rest) ∙ accepted.files)).0;
  }

pub next_accepted : (limits : Limits) (front : List Event) (e : Event) (rest : List Event) → AreAccepted limits (front ++ e ∷ rest)
    → IsOk (verdict limits (world_after front) e)
next_accepted limits front e rest accepted =
    subst (λ (es : List Event). IsOk (verdict limits (world_after es) e)) (take_front front (e ∷ rest) (length front) (omega arith) ∙ take_whole front)
    (accepted.each (length front) e (in_middle front e rest))

-- ---- one event

module _ (k : Flags) (limits more : Limits) (most : AreNoFewer limits more) (h : List Event) (all : AreAccepted limits h)
    (rests : Rests k (world_after h)) (names : Names k (world_after h)) where
  abbrev w : World
  w = world_after h

  order : IsInOrder w
  order = accepted_in_order limits h all

  -- the fresh core follows, and what stays then names what stays
  abbrev GoesOn : Event → List Event → Type 0
  GoesOn e now = Leads more (moved_world k w) now (moved_world k (step w e)) × Names k (step w e)

  one_event : (e : Event) (now : List Event) → (f : Event) × (event_there k e ≡ Some f) × (f ∷ [] ≡ now) → IsOk (verdict limits w e) → GoesOn e now
  one_event e now there accepted =
      let fit = fit_after limits h all.each in
      let follows = each_follows k w rests names fit order.classes.closed order.classes.ordered limits more most e there.0 there.1 accepted in (
        subst (λ (es : List Event). Leads more (moved_world k w) es (moved_world k (step w e))) there.2
            (record { follow = (follows.accepted, tt); after = follows.after }),
        names_after k w rests names e there.0 there.1,
      )

  pub each_leads : (e : Event) (now : List Event) → events_there k e ≡ Some now → IsOk (verdict limits w e) → GoesOn e now
  each_leads event.NewLoader now there ok = one_event event.NewLoader now (inv_map (λ f. f ∷ []) (event_there k event.NewLoader) now there) ok
  each_leads (event.Define loader file) now there ok =
      one_event (event.Define loader file) now (inv_map (λ f. f ∷ []) (event_there k (event.Define loader file)) now there) ok
  each_leads (event.Delegate loader name to) now there ok =
      one_event (event.Delegate loader name to) now (inv_map (λ f. f ∷ []) (event_there k (event.Delegate loader name to)) now there) ok
  each_leads (event.Request place) now there ok = one_event (event.Request place) now (inv_map (λ f. f ∷ []) (event_there k (event.Request place)) now there) ok
  each_leads (event.NewCallSite kind ty t) now there ok =
      one_event (event.NewCallSite kind ty t) now (inv_map (λ f. f ∷ []) (event_there k (event.NewCallSite kind ty t)) now there) ok
  each_leads (event.SetTarget c t) now there ok = one_event (event.SetTarget c t) now (inv_map (λ f. f ∷ []) (event_there k (event.SetTarget c t)) now there) ok
  each_leads event.NewSwitch now there ok = one_event event.NewSwitch now (inv_map (λ f. f ∷ []) (event_there k event.NewSwitch) now there) ok
  each_leads (event.Invalidate points) now there ok =
      one_event (event.Invalidate points) now (inv_map (λ f. f ∷ []) (event_there k (event.Invalidate points)) now there) ok
  each_leads (event.Bind s c) now there ok = one_event (event.Bind s c) now (inv_map (λ f. f ∷ []) (event_there k (event.Bind s c)) now there) ok
  each_leads (event.Install rows) now there ok = (
    subst (λ (es : List Event). Leads more (moved_world k w) es (moved_world k w)) (same_Some [] now there) (leads_nowhere more (moved_world k w)),
    names,
  )
  each_leads (event.Retire loader) now there ok = one_event (event.Retire loader) now (inv_map (λ f. f ∷ []) (event_there k (event.Retire loader)) now there) ok
  each_leads (event.RetireAll loaders) now there ok =
      one_event (event.RetireAll loaders) now (inv_map (λ f. f ∷ []) (event_there k (event.RetireAll loaders)) now there) ok
  each_leads (event.Release call_sites points) now there ok =
      one_event (event.Release call_sites points) now (inv_map (λ f. f ∷ []) (event_there k (event.Release call_sites points)) now there) ok

-- ---- all of them

pub all_lead : (k : Flags) (limits more : Limits) → AreNoFewer limits more → (es fs h : List Event) → AreAccepted limits (h ++ es) → Rests k (world_after h)
    → Names k (world_after h) → AreThere k es fs → Leads more (moved_world k (world_after h)) fs (moved_world k (fold step (world_after h) es))
all_lead k limits more most [] fs h accepted rests names there =
    subst (λ (gs : List Event). Leads more (moved_world k (world_after h)) gs (moved_world k (world_after h))) (sym there)
    (leads_nowhere more (moved_world k (world_after h)))
all_lead k limits more most (e ∷ es) fs h accepted rests names there =
    let now = there.0 in
    let later = there.1 in
    let ok = next_accepted limits h e es accepted in
    let all = front_accepted limits h (e ∷ es) accepted in
    let one = each_leads k limits more most h all rests names e now there.2 ok in
    let next = all_lead k limits more most es later (h ++ e ∷ []) (subst (AreAccepted limits) (sym (append_assoc h (e ∷ []) es)) accepted)
    (subst (Rests k) (sym (world_more h e)) (rests_after k (world_after h) rests limits e ok))
    (subst (Names k) (sym (world_more h e)) one.1) there.4 in
    subst (λ (gs : List Event). Leads more (moved_world k (world_after h)) gs (moved_world k (fold step (step (world_after h) e) es))) (sym there.3)
    (leads_on more (moved_world k (world_after h)) (moved_world k (step (world_after h) e)) (moved_world k (fold step (step (world_after h) e) es))
    now later one.0
    (subst (λ (w : World). Leads more (moved_world k w) later (moved_world k (fold step w es))) (world_more h e) next))

-- ---- from a renewal on

module _ (old : State) (released : Released) (accepted : AreAccepted old.limits (events old)) where
  abbrev x : World
  x = world_of old

  its_order : IsInOrder x
  its_order = accepted_in_order old.limits (events old) accepted

  some : zero < length x.classes.loaders
  some = let more = loaders_after (events old) nothing_yet in omega (arith, more)

  pub rests_there : Rests (flags_of x released) x
  rests_there =
      rests_first x released (fit_after old.limits (events old) accepted.each) its_order.classes.closed some
      (all_after old.limits (events old) accepted.each)

  pub world_there : moved_world (flags_of x released) x ≡ renewed x released
  world_there =
      world_first x released (fit_after old.limits (events old) accepted.each) its_order.classes.closed (world_good (events old)) some
      (all_after old.limits (events old) accepted.each) (known_after old.limits (events old) accepted.each)

pub entries_lead : (old : State) (released : Released) (es fs : List Event) (more : Limits) → AreAccepted old.limits (events old ++ es)
    → AreNoFewer old.limits more → AreThere (flags_of (world_of old) released) es fs
    → Leads more (renewed (world_of old) released) fs (moved_world (flags_of (world_of old) released) (fold step (world_of old) es))
entries_lead old released es fs more accepted most there =
    let front = front_accepted old.limits (events old) es accepted in
    subst (λ (v : World). Leads more v fs (moved_world (flags_of (world_of old) released) (fold step (world_of old) es))) (world_there old released front)
    (all_lead (flags_of (world_of old) released) old.limits more most es fs (events old) accepted (rests_there old released front)
    (names_first (world_of old) released (fit_after old.limits (events old) front.each)) there)
