-- An event that changes nothing of what a site's link rests on leaves the link, and what it rests on.
use Rattle.std.specs.Prelude.{◌≡◌, ℕ, ◌<◌, ◌==◌, ◌&&◌, ◌||◌, Bool, true, false, cond, List, [], ◌∷◌, ◌++◌, length, map, slice_get, Option, Some, None}
use Rattle.std.specs.Prelude.{option_and_then, Ok, if◌then◌else◌, IsOk}
use Rattle.std.proofs.Common.{refl, ap, sym, ◌∙◌}
use Rattle.std.proofs.lemmas.Bool.{both_ways}
use Rattle.std.proofs.lemmas.Cmp.{nat_eq_equiv}
use Rattle.jl_types.specs.declared.limits.Limits.{Limits}
use Rattle.jl_class.specs.Class.{ClassFile}
use Rattle.jl_class.specs.Site.{Site}
use Rattle.jl_class.specs.declared.site.Kind.{Kind}
use Rattle.jl_class.specs.declared.site.Operand.{Operand}
use Rattle.jl_class.specs.declared.site.Operand.TheVariants as operand
use Rattle.jl_class.specs.Flags.{object}
use Rattle.jl_types.specs.declared.answer.Unlinked.TheVariants.{Gone}
use Rattle.jl_types.specs.declared.ids.MethodId.{MethodId}
use Rattle.jl_types.specs.declared.ids.Place.{Place}
use Rattle.jl_types.specs.Events.Event.{Event}
use Rattle.jl_types.specs.declared.event.EventOf.TheVariants as event
use Rattle.jl_types.specs.declared.link.Link.{Link}
use Rattle.jl_types.specs.Values.World.{Classes, CallSite, Sites, World, unreleased}
use Rattle.jl_types.specs.Values.Members.{lookup, is_concrete, is_present}
use Rattle.jl_types.specs.Values.Ancestry.{ancestors, is_ancestor, receivers}
use Rattle.jl_types.specs.Events.Definitions.{defined}
use Rattle.jl_types.specs.Linkage.Targets.{evaluated, method_of}
use Rattle.jl_types.specs.Linkage.Links.{link_of, scratch}
use Rattle.jl_types.specs.Linkage.Stages.{Stage, ResolvedCall, Waits, Fails, Calls, Selects, stage, stage_at, stage_of, by_operand, by_binding, by_method}
use Rattle.jl_types.specs.Linkage.Stages.{invocation_at, bound_to}
use Rattle.jl_types.specs.Events.Verdict.{verdict, step}
use Rattle.jl_types.proofs.Bools.{any-map}
use Rattle.jl_types.proofs.Grown.{among_ancestors, receivers_after}
use Rattle.jl_types.proofs.Orders.{IsGood, defined_good}
use Rattle.jl_types.proofs.Releasing.{unreleased_within}
use Rattle.jl_hierarchy.proofs.Objects.{is_there}
use Rattle.jl_resolve.specs.Constancy.{RecordsObject}
use Rattle.jl_resolve.proofs.Constancy.{settled_stays}
use Rattle.jl_resolve.proofs.Later.{step_stays}
use Rattle.jl_select.specs.Constancy.{IsConstant}
use Rattle.jl_select.proofs.Constancy.{selected_stays, outcomes_stay}
use Rattle.jl_types.specs.declared.key.Key.{Key}
use Rattle.jl_types.specs.declared.key.Key.TheVariants as key
use Rattle.jl_types.specs.Events.Footprints.{same_key, has_key, path, of_call_site, of_class, of_stage, of_operand, of_invocation, of_place, footprint, keys}
use Rattle.jl_types.specs.Events.Footprints.{touches, retires}
use Rattle.jl_hierarchy.specs.Constancy.{IsClosed}
use Rattle.jl_relink.specs.Laws.{IsInOrder, SiteStays, changes_receivers}
use Rattle.jl_relink.proofs.Closing.{ordered_after, closed_after, still_present, receivers_stay as receivers_left_stay}
use Rattle.jl_relink.proofs.Staying.{bound_before, requested_stays}
use Rattle.jl_relink.proofs.WayKeys.{rests_on_target}
use Rattle.jl_relink.proofs.Paths.{RunsOn, site_runs_on, target_runs_on, switch_runs_on, invalid_runs_on}
use Rattle.jl_relink.proofs.Releases.{released_runs_on}
use Rattle.jl_relink.proofs.Closing.{may_release_then}
use Rattle.jl_relink.proofs.Untouched.{IsLater, waits, apart, site_stays, site_keeps}

-- ---- classes

module _ (w : World) (order : IsInOrder w) where
  pub good : IsGood w.classes
  good = record { there = order.classes.there; ordered = order.classes.ordered }

  recorded : RecordsObject w.classes
  recorded c is = is_there (lookup w.classes 0 object) (order.classes.object.interfaces c is)

  pub constant : (e : Event) → IsClosed (step w e).classes → IsConstant w.classes (step w e).classes
  constant e closed = record {
    resolved = settled_stays w.classes (step w e).classes (step_stays w good e) good (ordered_after w order.classes e) closed recorded;
    chosen = selected_stays w.classes (step w e).classes (step_stays w good e) good;
    outcomes = outcomes_stay w.classes (step w e).classes (step_stays w good e) good closed.first recorded;
  }

  -- ---- call sites

  there : (c : ℕ) (m : MethodId) → method_of w.sites c ≡ Some m → c < length w.sites.call_sites
  there c m = by_site (unreleased w.sites.call_sites c) refl
    where
      by_site : (o : Option CallSite) → unreleased w.sites.call_sites c ≡ o → option_and_then (λ site. evaluated w.sites c site.target) o ≡ Some m
          → c < length w.sites.call_sites
      by_site None is e = cc
      by_site (Some site) is e = unreleased_within w.sites.call_sites c site is

  abbrev Runs : Sites → ℕ → MethodId → Type 0
  Runs new c m = (method_of new c ≡ Some m) × (of_call_site new c ≡ of_call_site w.sites c)

  as_before : (new : Sites) (c : ℕ) (m : MethodId) → RunsOn w.sites new c → method_of w.sites c ≡ Some m → Runs new c m
  as_before new c m on run = (on.method ∙ run, on.keys)

  -- ---- receivers

  module _ (loader : ℕ) (file : ClassFile) (c : ℕ) where
    abbrev new : Classes
    new = defined w.classes loader file

    abbrev n : ℕ
    n = length w.classes.rows

    receivers_stay : has_key (of_class new n) (key.Receivers c) ≡ false → receivers new c ≡ receivers w.classes c
    receivers_stay none =
        receivers_after w.classes good.ordered loader file c
        ∙ ap (λ (b : Bool). receivers w.classes c ++ cond b (n ∷ []) []) (by_concrete (is_concrete new n) refl none)
        ∙ append_nil (receivers w.classes c)
      where
        append_nil : (xs : List ℕ) → xs ++ [] ≡ xs
        append_nil [] = refl
        append_nil (x ∷ xs) = ap (λ (ys : List ℕ). x ∷ ys) (append_nil xs)

        by_concrete : (b : Bool) → is_concrete new n ≡ b → has_key (if b then map key.Receivers (ancestors new.rows n) else []) (key.Receivers c) ≡ false
            → (is_concrete new n && is_ancestor new c n) ≡ false
        by_concrete false is h = ap (λ (b : Bool). b && is_ancestor new c n) is
        by_concrete true is h =
            ap (λ (b : Bool). b && is_ancestor new c n) is
            ∙ among_ancestors new (defined_good w.classes good loader file).ordered c n
            ∙ sym (any-map (λ other. same_key other (key.Receivers c)) key.Receivers (ancestors new.rows n))
            ∙ h

  -- ---- events

  module _ (s : ℕ) (l : Link) where
    settled : (t : Stage) → link_of w.classes t ≡ Ok l → waits t ≡ false
    settled (Waits reason) e = cc
    settled (Fails throwable) e = refl
    settled (Calls m) e = refl
    settled (Selects i) e = refl

    stays_by : (after : World) → (later : IsLater w after s)
        → ((c : ℕ) → has_key (footprint w s) (key.Receivers c) ≡ true → receivers after.classes c ≡ receivers w.classes c) → scratch w s ≡ Ok l
        → SiteStays w after s l
    stays_by after later same e =
        let one = site_keeps w after s later same l e in
        record { link = one.0; selects = (site_stays w after s later).same (settled (stage w s) e); rests_on = one.1 }

    -- another world with the same classes' rows
    of_rows : (after : World) → (later : IsLater w after s) → ((c : ℕ) → receivers after.classes c ≡ receivers w.classes c) → scratch w s ≡ Ok l
        → SiteStays w after s l
    of_rows after later same = stays_by after later (λ c h. same c)

    untouched : (m : Limits) (e : Event) → IsOk (verdict m w e) → retires w e s ≡ false → touches w e s ≡ false → scratch w s ≡ Ok l
        → SiteStays w (step w e) s l
    untouched m event.NewLoader accepted left none =
        of_rows (step w event.NewLoader) (record {
          good = good;
          stays = step_stays w good event.NewLoader;
          constant = constant event.NewLoader (closed_after w order.classes m event.NewLoader accepted);
          present = λ place at is. still_present w order.classes event.NewLoader s place at left is;
          places = λ place e. e;
          bindings = λ c e. e;
          runs = λ c listed m run. (run, refl);
        }) (λ c. refl)
    untouched m (event.Define loader file) accepted left none =
        stays_by (step w (event.Define loader file)) (record {
          good = good;
          stays = step_stays w good (event.Define loader file);
          constant = constant (event.Define loader file) (closed_after w order.classes m (event.Define loader file) accepted);
          present = λ place at is. still_present w order.classes (event.Define loader file) s place at left is;
          places = λ place e. e;
          bindings = λ c e. e;
          runs = λ c listed m run. (run, refl);
        }) (λ c h. receivers_stay loader file c (apart (footprint w s) (keys w (event.Define loader file)) (key.Receivers c) none h))
    untouched m (event.Delegate loader name to) accepted left none =
        of_rows (step w (event.Delegate loader name to)) (record {
          good = good;
          stays = step_stays w good (event.Delegate loader name to);
          constant = constant (event.Delegate loader name to) (closed_after w order.classes m (event.Delegate loader name to) accepted);
          present = λ place at is. still_present w order.classes (event.Delegate loader name to) s place at left is;
          places = λ place e. e;
          bindings = λ c e. e;
          runs = λ c listed m run. (run, refl);
        }) (λ c. refl)
    untouched m (event.Request place) accepted left none =
        of_rows (step w (event.Request place)) (record {
          good = good;
          stays = step_stays w good (event.Request place);
          constant = constant (event.Request place) (closed_after w order.classes m (event.Request place) accepted);
          present = λ place at is. still_present w order.classes (event.Request place) s place at left is;
          places = λ p e. requested_stays w.places place s p e;
          bindings = λ c e. e;
          runs = λ c listed m run. (run, refl);
        }) (λ c. refl)
    untouched m (event.NewCallSite kind ty t) accepted left none =
        of_rows (step w (event.NewCallSite kind ty t)) (record {
          good = good;
          stays = step_stays w good (event.NewCallSite kind ty t);
          constant = constant (event.NewCallSite kind ty t) (closed_after w order.classes m (event.NewCallSite kind ty t) accepted);
          present = λ place at is. still_present w order.classes (event.NewCallSite kind ty t) s place at left is;
          places = λ p e. e;
          bindings = λ c e. e;
          runs = λ c listed m run. as_before _ c m (site_runs_on w.sites kind ty t c (there c m run)) run;
        }) (λ c. refl)
    untouched m (event.SetTarget d t) accepted left none =
        of_rows (step w (event.SetTarget d t)) (record {
          good = good;
          stays = step_stays w good (event.SetTarget d t);
          constant = constant (event.SetTarget d t) (closed_after w order.classes m (event.SetTarget d t) accepted);
          present = λ place at is. still_present w order.classes (event.SetTarget d t) s place at left is;
          places = λ p e. e;
          bindings = λ c e. e;
          runs = λ c listed m run. as_before _ c m (target_runs_on w.sites d t c (other c listed (has_key (path w.sites c) (key.Target d)) refl)) run;
        }) (λ c. refl)
      where
        other : (c : ℕ) → ((k : Key) → has_key (of_call_site w.sites c) k ≡ true → has_key (footprint w s) k ≡ true) → (b : Bool)
            → has_key (path w.sites c) (key.Target d) ≡ b → b ≡ false
        other c listed false is = refl
        other c listed true is =
            let inside = listed (key.Target d) (rests_on_target w.sites c d is) in
            absurd (both_ways (d == d) (or_first (d == d) (apart (footprint w s) (key.Target d ∷ []) (key.Target d) none inside)) (nat_eq_equiv.refl d))
          where
            or_first : (b : Bool) → (b || false) ≡ false → b ≡ false
            or_first true h = cc
            or_first false h = refl
    untouched m event.NewSwitch accepted left none =
        of_rows (step w event.NewSwitch) (record {
          good = good;
          stays = step_stays w good event.NewSwitch;
          constant = constant event.NewSwitch (closed_after w order.classes m event.NewSwitch accepted);
          present = λ place at is. still_present w order.classes event.NewSwitch s place at left is;
          places = λ p e. e;
          bindings = λ c e. e;
          runs = λ c listed m run. as_before _ c m (switch_runs_on w.sites order.points c) run;
        }) (λ c. refl)
    untouched m (event.Invalidate points) accepted left none =
        of_rows (step w (event.Invalidate points)) (record {
          good = good;
          stays = step_stays w good (event.Invalidate points);
          constant = constant (event.Invalidate points) (closed_after w order.classes m (event.Invalidate points) accepted);
          present = λ place at is. still_present w order.classes (event.Invalidate points) s place at left is;
          places = λ p e. e;
          bindings = λ c e. e;
          runs = λ c listed m run.
              as_before _ c m (invalid_runs_on w.sites points order.points c
              (λ k h. apart (footprint w s) (keys w (event.Invalidate points)) k none (listed k h))) run;
        }) (λ c. refl)
    untouched m (event.Bind n d) accepted left none =
        of_rows (step w (event.Bind n d)) (record {
          good = good;
          stays = step_stays w good (event.Bind n d);
          constant = constant (event.Bind n d) (closed_after w order.classes m (event.Bind n d) accepted);
          present = λ place at is. still_present w order.classes (event.Bind n d) s place at left is;
          places = λ p e. e;
          bindings = λ c e. bound_before w.bindings (n, d) s c e;
          runs = λ c listed m run. (run, refl);
        }) (λ c. refl)
    untouched m (event.Install rows) accepted left none = λ e. record { link = e; selects = refl; rests_on = refl }
    untouched m (event.Retire loader) accepted left none =
        stays_by (step w (event.Retire loader)) (record {
          good = good;
          stays = step_stays w good (event.Retire loader);
          constant = constant (event.Retire loader) (closed_after w order.classes m (event.Retire loader) accepted);
          present = λ place at is. still_present w order.classes (event.Retire loader) s place at left is;
          places = λ place e. e;
          bindings = λ c e. e;
          runs = λ c listed m run. (run, refl);
        }) (λ c h. receivers_left_stay w.classes good.ordered (loader ∷ []) c (apart (footprint w s) (keys w (event.Retire loader)) (key.Receivers c) none h))
    untouched m (event.RetireAll loaders) accepted left none =
        stays_by (step w (event.RetireAll loaders)) (record {
          good = good;
          stays = step_stays w good (event.RetireAll loaders);
          constant = constant (event.RetireAll loaders) (closed_after w order.classes m (event.RetireAll loaders) accepted);
          present = λ place at is. still_present w order.classes (event.RetireAll loaders) s place at left is;
          places = λ place e. e;
          bindings = λ c e. e;
          runs = λ c listed m run. (run, refl);
        }) (λ c h. receivers_left_stay w.classes good.ordered loaders c (apart (footprint w s) (keys w (event.RetireAll loaders)) (key.Receivers c) none h))
    untouched limits (event.Release call_sites points) accepted left none =
        of_rows (step w (event.Release call_sites points)) (record {
          good = good;
          stays = step_stays w good (event.Release call_sites points);
          constant = constant (event.Release call_sites points) (closed_after w order.classes limits (event.Release call_sites points) accepted);
          present = λ place at is. still_present w order.classes (event.Release call_sites points) s place at left is;
          places = λ p e. e;
          bindings = λ c e. e;
          runs = λ c listed m run.
              as_before _ c m (released_runs_on w.sites call_sites points (may_release_then limits w call_sites points accepted) order.points c
              (λ k h. apart (footprint w s) (keys w (event.Release call_sites points)) k none (listed k h))) run;
        }) (λ c. refl)

pub untouched_stays : (limits : Limits) (w : World) → IsInOrder w → (e : Event) (s : ℕ) (l : Link) → IsOk (verdict limits w e) → retires w e s ≡ false
    → touches w e s ≡ false
    → scratch w s ≡ Ok l → SiteStays w (step w e) s l
untouched_stays limits w order e s l accepted left none = untouched w order s l limits e accepted left none

-- a site that selects does so by the same invocation after a definition or a retirement, and rests on the same
pub selecting_stays : (limits : Limits) (w : World) → IsInOrder w → (e : Event) (s : ℕ) (i : ResolvedCall) → IsOk (verdict limits w e)
    → changes_receivers e ≡ true → retires w e s ≡ false → stage w s ≡ Selects i
    → (stage (step w e) s ≡ Selects i) × (footprint (step w e) s ≡ footprint w s)
selecting_stays limits w order e s i accepted changes left is = by_event e accepted changes left
  where
    by_later : (after : World) → IsLater w after s → (stage after s ≡ Selects i) × (footprint after s ≡ footprint w s)
    by_later after later =
        let keeps = site_stays w after s later in
        let settled : waits (stage w s) ≡ false = ap waits is in
        (keeps.same settled ∙ is, keeps.keys settled)

    later : (e : Event) → IsOk (verdict limits w e) → retires w e s ≡ false
        → ((place : Place) → slice_get w.places s ≡ Some place → slice_get (step w e).places s ≡ Some place)
        → ((c : ℕ) → bound_to w s ≡ Some c → bound_to (step w e) s ≡ Some c) → (step w e).sites ≡ w.sites → IsLater w (step w e) s
    later e accepted left places bindings sites = record {
      good = good w order;
      stays = step_stays w (good w order) e;
      constant = constant w order e (closed_after w order.classes limits e accepted);
      present = λ place at is. still_present w order.classes e s place at left is;
      places = places;
      bindings = bindings;
      runs = λ c listed m run. (ap (λ sites. method_of sites c) sites ∙ run, ap (λ sites. of_call_site sites c) sites);
    }

    by_event : (e : Event) → IsOk (verdict limits w e) → changes_receivers e ≡ true → retires w e s ≡ false
        → (stage (step w e) s ≡ Selects i) × (footprint (step w e) s ≡ footprint w s)
    by_event (event.Define loader file) accepted changes left =
        by_later (step w (event.Define loader file)) (later (event.Define loader file) accepted left (λ place e. e) (λ c e. e) refl)
    by_event (event.Retire loader) accepted changes left =
        by_later (step w (event.Retire loader)) (later (event.Retire loader) accepted left (λ place e. e) (λ c e. e) refl)
    by_event (event.RetireAll loaders) accepted changes left =
        by_later (step w (event.RetireAll loaders)) (later (event.RetireAll loaders) accepted left (λ place e. e) (λ c e. e) refl)
    by_event event.NewLoader accepted changes left = cc
    by_event (event.Delegate loader name to) accepted changes left = cc
    by_event (event.Request place) accepted changes left = cc
    by_event (event.NewCallSite kind ty t) accepted changes left = cc
    by_event (event.SetTarget c t) accepted changes left = cc
    by_event event.NewSwitch accepted changes left = cc
    by_event (event.Invalidate points) accepted changes left = cc
    by_event (event.Bind t c) accepted changes left = cc
    by_event (event.Install rows) accepted changes left = cc
    by_event (event.Release call_sites points) accepted changes left = cc

-- what a site rests on that selects by its receiver
pub rests_on_stage : (w : World) (s : ℕ) (i : ResolvedCall) → stage w s ≡ Selects i → footprint w s ≡ of_stage w.classes (Selects i)
rests_on_stage w s i = by_place (slice_get w.places s)
  where
    by_run : (o : Option MethodId) → by_method o ≡ Selects i → ⊥
    by_run None e = cc
    by_run (Some m) e = cc

    by_bound : (o : Option ℕ) → by_binding w.sites o ≡ Selects i → ⊥
    by_bound None e = cc
    by_bound (Some c) e = by_run (method_of w.sites c) e

    by_site : (d : ℕ) (kind : Kind) (o : Operand (List ℕ)) → by_operand w s d kind o ≡ Selects i → of_operand w s d kind o ≡ of_stage w.classes (Selects i)
    by_site d kind (operand.Method ref) e = ap (of_stage w.classes) e
    by_site d kind (operand.CallSite specifier) e = absurd (by_bound (bound_to w s) e)

    by_invocation : (d : ℕ) (o : Option Site) → stage_of w s d o ≡ Selects i → of_invocation w s d o ≡ of_stage w.classes (Selects i)
    by_invocation d None e = cc
    by_invocation d (Some site) e = by_site d site.kind site.operand e

    by_class : (place : Place) (b : Bool) → (if b then stage_of w s place.class (invocation_at w.classes place) else Waits Gone) ≡ Selects i
        → (if b then of_invocation w s place.class (invocation_at w.classes place) else []) ≡ of_stage w.classes (Selects i)
    by_class place true e = by_invocation place.class (invocation_at w.classes place) e
    by_class place false e = cc

    by_place : (o : Option Place) → stage_at w s o ≡ Selects i → of_place w s o ≡ of_stage w.classes (Selects i)
    by_place None e = cc
    by_place (Some place) e = by_class place (is_present w.classes place.class) e
