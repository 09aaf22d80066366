-- No event of a renewal is refused, and they lead to what stays of the old world.
use Rattle.std.specs.Prelude.{◌≡◌, ◌<◌, ◌-◌, ℕ, zero, suc, List, [], ◌∷◌, ◌++◌, map, filter_map, length, take, replicate, slice_get, Some, Result, IsOk}
use Rattle.std.proofs.Common.{refl, sym, ap, subst, ◌∙◌, arith}
use Rattle.std.proofs.lemmas.List.{append-nil}
use Rattle.std.proofs.lemmas.Option.{slice_get-map, slice_get_within}
use Rattle.jl_types.specs.declared.limits.Limits.{Limits}
use Rattle.jl_types.specs.declared.event.Made.{Made}
use Rattle.jl_types.specs.declared.event.Reply.{Reply}
use Rattle.jl_types.specs.declared.refusal.Refusal.{Refusal}
use Rattle.jl_types.specs.Values.World.{World, nothing_yet}
use Rattle.jl_types.specs.Events.Event.{Event}
use Rattle.jl_types.specs.Events.Verdict.{verdict}
use Rattle.jl_types.specs.Events.History.{world_after, dropped}
use Rattle.jl_types.proofs.Places.{accepted_of}
use Rattle.jl_hierarchy.specs.Constancy.{IsClosed}
use Rattle.jl_core.specs.State.{State, events, world_of, AreAnswered}
use Rattle.jl_names.proofs.Tests.{map-some}
use Rattle.jl_renewal.specs.declared.released.Released.{Released}
use Rattle.jl_renewal.specs.Numbers.{Numbers, staying}
use Rattle.jl_renewal.specs.Staying.{numbers_of, staying_loaders, staying_classes}
use Rattle.jl_renewal.specs.Renewal.{class_event, new_loaders, site_events, renewal}
use Rattle.jl_renewal.specs.Renewed.{renewed, renumbered_record, renumbered_class}
use Rattle.jl_renewal.proofs.Fit.{IsFit, AllAccepted}
use Rattle.jl_renewal.proofs.FitLaws.{fit_after}
use Rattle.jl_renewal.proofs.Phases.{Leads, leads_on}
use Rattle.jl_renewal.proofs.ClassLaws.{fresh_of, padded}
use Rattle.jl_renewal.proofs.ClassPhase.{of_classes, loaders_after, classes_lead}
use Rattle.jl_renewal.proofs.LoaderPhase.{loaders_lead}
use Rattle.jl_renewal.proofs.SitePhases.{only_classes, sites_lead}
use Rattle.jl_renewal.proofs.RoomLaws.{HasRoom}

-- each event of a core was accepted
pub all_accepted : (core : State) → AreAnswered core → AllAccepted core.limits (events core)
all_accepted core answered k e at =
    let entry = map-some (λ (x : Event × Reply). x.0) (slice_get core.log k) e (sym (slice_get-map (λ (x : Event × Reply). x.0) core.log k) ∙ at) in
    let said = answered k entry.0.0 entry.0.1 entry.1 in
    let made = accepted_of (dropped (take k (events core)) entry.0.0) (verdict core.limits (world_after (take k (events core))) entry.0.0) entry.0.1 said in
    subst (λ (x : Event). IsOk (verdict core.limits (world_after (take k (events core))) x)) entry.2
    (subst (λ (r : Result Made Refusal). IsOk r) (sym made.0) refl)

-- those of a front
fronts : (limits : Limits) (h front rest : List Event) → h ≡ front ++ rest → AllAccepted limits h → AllAccepted limits front
fronts limits h front rest split all k e at =
    let lt = slice_get_within front k e at in
    subst (λ (es : List Event). IsOk (verdict limits (world_after es) e))
    (ap (take k) split ∙ taken front k lt) (all k e (ap (λ (es : List Event). slice_get es k) split ∙ (before front k lt ∙ at)))
  where
    taken : (front : List Event) (k : ℕ) → k < length front → take k (front ++ rest) ≡ take k front
    taken [] k lt = absurd (omega (arith, lt))
    taken (f ∷ front) zero lt = refl
    taken (f ∷ front) (suc k) lt = ap (λ (es : List Event). f ∷ es) (taken front k (omega (arith, lt)))

    before : (front : List Event) (k : ℕ) → k < length front → slice_get (front ++ rest) k ≡ slice_get front k
    before [] k lt = absurd (omega (arith, lt))
    before (f ∷ front) zero lt = refl
    before (f ∷ front) (suc k) lt = before front k (omega (arith, lt))

at_last : (limits : Limits) (h front : List Event) (e : Event) (rest : List Event) → h ≡ front ++ e ∷ rest → AllAccepted limits h
    → IsOk (verdict limits (world_after front) e)
at_last limits h front e rest split all =
    subst (λ (es : List Event). IsOk (verdict limits (world_after es) e)) (ap (take (length front)) split ∙ front_is front)
    (all (length front) e (ap (λ (es : List Event). slice_get es (length front)) split ∙ there front))
  where
    front_is : (front : List Event) → take (length front) (front ++ e ∷ rest) ≡ front
    front_is [] = refl
    front_is (f ∷ front) = ap (λ (es : List Event). f ∷ es) (front_is front)

    there : (front : List Event) → slice_get (front ++ e ∷ rest) (length front) ≡ Some e
    there [] = refl
    there (f ∷ front) = there front

module _ (old : State) (released : Released) (all : AllAccepted old.limits (events old)) (closed : IsClosed (world_of old).classes) (limits : Limits)
    (room : HasRoom limits (world_of old) released) where
  abbrev w : World
  w = world_of old

  abbrev n : Numbers
  n = numbers_of w released

  pub fit : IsFit w
  fit = fit_after old.limits (events old) all

  some : zero < length w.classes.loaders
  some = let more = loaders_after (events old) nothing_yet in omega (arith, more)

  -- the classes are all there
  classes_are : of_classes (fresh_of w released w.classes) ≡ only_classes w released
  classes_are = λ i. of_classes (record {
    loaders = map (map (renumbered_record n)) (staying (staying_loaders w.classes) (unpadded i));
    rows = map (renumbered_class n) (staying (staying_classes w.classes) w.classes.rows);
    retired = [];
  })
    where
      none_more : length w.classes.loaders - length w.classes.loaders ≡ zero
      none_more = omega arith

      unpadded : padded (length w.classes.loaders) w.classes.loaders ≡ w.classes.loaders
      unpadded = ap (λ (k : ℕ). w.classes.loaders ++ replicate k []) none_more ∙ append-nil w.classes.loaders

  pub renewal_leads : Leads limits nothing_yet (renewal old released) (renewed w released)
  renewal_leads =
      leads_on limits nothing_yet (of_classes (fresh_of w released nothing_yet.classes)) (renewed w released) (new_loaders n.loaders)
      (filter_map (class_event w n) (events old) ++ site_events w n)
      (loaders_lead limits w released closed.first some room.loaders)
      (leads_on limits (of_classes (fresh_of w released nothing_yet.classes)) (only_classes w released) (renewed w released)
      (filter_map (class_event w n) (events old)) (site_events w n)
      (subst (λ (v : World). Leads limits (of_classes (fresh_of w released nothing_yet.classes)) (filter_map (class_event w n) (events old)) v) classes_are
      (classes_lead old.limits (events old) released closed
      (λ front rest split. fit_after old.limits front (fronts old.limits (events old) front rest split all))
      (λ front e rest split. at_last old.limits (events old) front e rest split all) limits room.classes))
      (sites_lead limits w released fit room))
