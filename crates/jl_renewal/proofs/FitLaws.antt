-- After accepted events a world is fit for a renewal.
use Rattle.std.specs.Prelude.{◌≡◌, ◌≤◌, ◌+◌, ◌&&◌, ◌||◌, ℕ, zero, suc, Bool, true, false, not, List, [], ◌∷◌, ◌++◌, length, take, slice_get, Option, Some}
use Rattle.std.specs.Prelude.{IsOk, is_none}
use Rattle.std.proofs.Common.{refl, ap, sym, subst, ◌∙◌, arith}
use Rattle.std.proofs.lemmas.Bool.{or_parts, both_ways}
use Rattle.std.proofs.lemmas.List.{take_more, take_all}
use Rattle.std.proofs.lemmas.Option.{slice_get_within, get_or_from_slice_get}
use Rattle.jl_types.specs.declared.limits.Limits.{Limits}
use Rattle.jl_types.specs.declared.event.EventOf.TheVariants as event
use Rattle.jl_types.specs.declared.event.Made.TheVariants as made
use Rattle.jl_types.specs.declared.refusal.Refusal.TheVariants.{Define, CallSite, Release}
use Rattle.jl_types.specs.Values.Target.{Target, Method, Guard, Invoker}
use Rattle.jl_types.specs.Values.World.{World, Classes, Sites, CallSite as CallSiteRow, nothing_yet, unreleased}
use Rattle.jl_types.specs.Events.Definitions.{define_fault}
use Rattle.jl_types.specs.Events.Retirement.{is_listed, is_of, is_of_any, has_target, names_from, retired}
use Rattle.jl_types.specs.Events.Release.{invokes_one, guards_by_one, release_fault, released_from}
use Rattle.jl_types.specs.Events.Event.{Event}
use Rattle.jl_types.specs.Events.Verdict.{new_call_site_fault, set_target_fault, invalidated, bind_fault, verdict, step, with_classes}
use Rattle.jl_types.specs.Events.History.{world_after}
use Rattle.jl_types.proofs.Lists.{element_at}
use Rattle.jl_types.proofs.Orders.{IsGood, world_good}
use Rattle.jl_types.proofs.Places.{world_more}
use Rattle.jl_types.proofs.Releasing.{MayRelease, may_release, length_without}
use Rattle.jl_types.proofs.Retiring.{present_after, one_of_any, AreFree, untargeted}
use Rattle.jl_hierarchy.proofs.Closed.{present_still}
use Rattle.jl_events.proofs.AcceptedLaws.{rows_stay}
use Rattle.jl_events.proofs.CallSiteLaws.{no_fault as no_refusal}
use Rattle.jl_relink.proofs.Closing.{no_fault, free_loader, free_loaders}
use Rattle.jl_renewal.proofs.Fit.{AllAccepted, IsFit}
use Rattle.jl_renewal.proofs.FitParts.{StaysPresent, StayNamed, all_named, none_placed}
use Rattle.jl_renewal.proofs.FitClasses.{fit_with_loader, fit_delegated, fit_defined, fit_retired}
use Rattle.jl_renewal.proofs.FitSites.{classes_fit, with_classes_fit, with_sites_fit, new_call_site_fit, set_target_fit, with_switches_fit}
use Rattle.jl_renewal.proofs.FitSites.{request_fit, bind_fit}
use Rattle.jl_renewal.proofs.ReleasedRows.{row_at, row_left, row_stays, present_more, present_invalidated}

-- what targets name stays where no class goes, and neither call sites nor switch points change
same_sites : (w : World) (cs : Classes) → ((c : ℕ) → StaysPresent w (with_classes w cs) c) → (t : Target) → StayNamed w (with_classes w cs) t
same_sites w cs classes t = all_named w (with_classes w cs) classes (λ p there. there) (λ d site there. (site, there, refl)) t

-- ---- a retirement

module _ (w : World) (loaders : List ℕ) where
  abbrev left : World
  left = with_classes w (retired w.classes loaders)

  -- a class that is of none of the loaders
  of_none : (c : ℕ) → ((l : ℕ) → is_listed loaders l ≡ true → is_of w.classes l c ≡ false) → is_of_any w.classes loaders c ≡ false
  of_none c other = by_test (is_of_any w.classes loaders c) refl
    where
      by_test : (b : Bool) → is_of_any w.classes loaders c ≡ b → b ≡ false
      by_test true is = let one = one_of_any w.classes loaders c is in absurd (both_ways (is_of w.classes one.0 c) (other one.0 one.1) one.2)
      by_test false is = refl

  -- what is present stays so where it isn't of the loaders
  left_present : (t : Target) → ((l : ℕ) → is_listed loaders l ≡ true → names_from w.classes l t ≡ false) → StayNamed w left t
  left_present (Method m) other =
      let none = of_none m.class other in
      λ is. present_after w.classes loaders m.class ∙ (λ i. is i && not (none i))
  left_present (Guard p first fallback) other = (
    λ there. there,
    left_present first (λ l there. (or_parts (names_from w.classes l first) (names_from w.classes l fallback) (other l there)).0),
    left_present fallback (λ l there. (or_parts (names_from w.classes l first) (names_from w.classes l fallback) (other l there)).1),
  )
  left_present (Invoker c) other = λ site there. (site, there, refl)

  -- no target names a method of loaders that may be retired
  unnamed : AreFree w loaders → (l : ℕ) → is_listed loaders l ≡ true → (c : ℕ) (site : CallSiteRow) → unreleased w.sites.call_sites c ≡ Some site
      → names_from w.classes l site.target ≡ false
  unnamed free l there c site at =
      none_placed (has_target (names_from w.classes l)) w.sites.call_sites (untargeted w loaders free l there) c (Some site)
      (row_at w.sites.call_sites c site at)

  retired_fit : IsGood w.classes → IsFit w → AreFree w loaders → IsFit left
  retired_fit good fit free =
      with_classes_fit w fit left.classes (fit_retired w.classes good (classes_fit w fit) loaders)
      (rows_stay w (event.RetireAll loaders))
      (λ c site at. left_present site.target (λ l there. unnamed free l there c site at))

-- ---- a release

module _ (w : World) (call_sites points : List ℕ) (fit : IsFit w) (may : MayRelease w.sites call_sites points) where
  abbrev those_left : Sites
  those_left = released_from w.sites call_sites points

  -- what a target names stays where it is none of those that go
  unnamed_stay : (t : Target) → invokes_one call_sites t ≡ false → guards_by_one points t ≡ false → StayNamed w (record w { sites = those_left }) t
  unnamed_stay (Method m) invokes guards = λ is. is
  unnamed_stay (Guard p first fallback) invokes guards =
      let invoked = or_parts (invokes_one call_sites first) (invokes_one call_sites fallback) invokes in
      let here = or_parts (is_listed points p) (guards_by_one points first || guards_by_one points fallback) guards in
      let guarded = or_parts (guards_by_one points first) (guards_by_one points fallback) here.1 in (
        λ there. ap (λ (o : Option Bool). is_none o) (row_stays w.sites.switches points p here.0) ∙ there,
        unnamed_stay first invoked.0 guarded.0,
        unnamed_stay fallback invoked.1 guarded.1,
      )
  unnamed_stay (Invoker d) invokes guards = λ site there. (site, row_stays w.sites.call_sites call_sites d invokes ∙ there, refl)

  released_fit : IsFit (record w { sites = those_left })
  released_fit =
      let long = length_without call_sites w.sites.call_sites in
      with_sites_fit w fit those_left (omega (arith, long))
      (λ c after lt at. (after, (row_left w.sites.call_sites call_sites c after at).1, refl))
      (λ c site at.
      let before = row_left w.sites.call_sites call_sites c site at in (
        fit.targets c site before.1,
        unnamed_stay site.target (may.uninvoked c site before.1 before.0) (may.unguarded c site before.1 before.0),
      ))

-- ---- each event

-- what is fit stays so through an accepted event, where what loaders have recorded is there
pub fit_step : (limits : Limits) (w : World) (e : Event) → IsGood w.classes → IsFit w → IsOk (verdict limits w e) → IsFit (step w e)
fit_step limits w event.NewLoader good fit accepted =
    with_classes_fit w fit (step w event.NewLoader).classes
    (fit_with_loader w.classes good (classes_fit w fit))
    (rows_stay w event.NewLoader)
    (λ c site at. same_sites w (step w event.NewLoader).classes (λ c is. is) site.target)
fit_step limits w (event.Define loader file) good fit accepted =
    with_classes_fit w fit (step w (event.Define loader file)).classes
    (fit_defined w.classes good (classes_fit w fit) loader file
    (record { most_classes = limits.classes; accepted = no_fault Define (define_fault limits.classes w.classes loader file) _ accepted }))
    (rows_stay w (event.Define loader file))
    (λ c site at. same_sites w (step w (event.Define loader file)).classes (present_still w.classes good loader file) site.target)
fit_step limits w (event.Delegate loader name to) good fit accepted =
    with_classes_fit w fit (step w (event.Delegate loader name to)).classes (fit_delegated w.classes good (classes_fit w fit) loader name to)
    (rows_stay w (event.Delegate loader name to))
    (λ c site at. same_sites w (step w (event.Delegate loader name to)).classes (λ c is. is) site.target)
fit_step limits w (event.Request place) good fit accepted = request_fit w fit limits place accepted
fit_step limits w (event.NewCallSite kind ty t) good fit accepted =
    new_call_site_fit w fit limits.call_sites kind ty t (no_fault CallSite (new_call_site_fault limits.call_sites w ty t) _ accepted)
fit_step limits w (event.SetTarget c t) good fit accepted =
    set_target_fit w fit c t (no_fault CallSite (set_target_fault w c (unreleased w.sites.call_sites c) t) _ accepted)
fit_step limits w event.NewSwitch good fit accepted =
    with_switches_fit w fit (w.sites.switches ++ Some true ∷ []) (present_more w.sites.switches (Some true))
fit_step limits w (event.Invalidate points) good fit accepted =
    with_switches_fit w fit (invalidated w.sites.switches points) (present_invalidated w.sites.switches points)
fit_step limits w (event.Bind s c) good fit accepted =
    bind_fit w fit s c (no_refusal (bind_fault w s c (slice_get w.places s)) made.Nothing accepted)
fit_step limits w (event.Install rows) good fit accepted = fit
fit_step limits w (event.Retire loader) good fit accepted =
    retired_fit w (loader ∷ []) good fit (free_loader limits w loader accepted)
fit_step limits w (event.RetireAll loaders) good fit accepted =
    retired_fit w loaders good fit (free_loaders limits w loaders accepted)
fit_step limits w (event.Release call_sites points) good fit accepted =
    released_fit w call_sites points fit (may_release w.sites call_sites points (no_fault Release (release_fault w.sites call_sites points) _ accepted))

-- ---- all events

at_first : IsFit nothing_yet
at_first = record {
  named = λ loader name c row e at. cc;
  found = λ c row e. cc;
  targets = λ c site e. cc;
  places = λ s place e. cc;
  once = λ s t p q e. cc;
  bindings = λ i b e. cc;
  bound_once = λ i j a b e. cc;
}

-- what accepted events leave is fit
pub fit_after : (limits : Limits) (h : List Event) → AllAccepted limits h → IsFit (world_after h)
fit_after limits h all = subst (λ (es : List Event). IsFit (world_after es)) (take_all (length h) h (omega arith)) (first (length h) (omega arith))
  where
    -- one event more of them
    next : (n : ℕ) (e : Event) → slice_get h n ≡ Some e → IsFit (world_after (take n h)) → IsFit (world_after (take (n + 1) h))
    next n e at fit =
        subst (λ (es : List Event). IsFit (world_after es))
        (sym (take_more h n e (slice_get_within h n e at) ∙ ap (λ (f : Event). take n h ++ f ∷ []) (get_or_from_slice_get h n e e at)))
        (subst IsFit (sym (world_more (take n h) e)) (fit_step limits (world_after (take n h)) e (world_good (take n h)) fit (all n e at)))

    first : (n : ℕ) → n ≤ length h → IsFit (world_after (take n h))
    first zero le = at_first
    first (suc n) le =
        let one = element_at h n (omega (arith, le)) in
        let more : n + 1 ≡ suc n = omega arith in
        subst (λ (k : ℕ). IsFit (world_after (take k h))) more (next n one.0 one.1 (first n (omega (arith, le))))
