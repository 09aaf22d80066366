-- What is left once the accepted event was performed.
use Rattle.std.specs.Prelude.{◌≡◌, ℕ, ◌+◌, ◌<◌, ◌≤◌, ◌^◌, ◌==◌, ◌&&◌, not, Bool, true, false, cond, List, [], ◌∷◌, length, map}
use Rattle.std.specs.Prelude.{filter, sum_by, slice_get, Option, Some, None, option_map, is_some, is_none}
use Rattle.std.specs.List.{list_any, range_with_len}
use Rattle.std.proofs.Common.{refl, ap, sym, subst, ◌∙◌, arith}
use Rattle.std.proofs.lemmas.Option.{same_Some}
use Rattle.jl_types.specs.Events.Event.{Event}
use Rattle.jl_types.specs.declared.link.Link.{Link}
use Rattle.jl_types.specs.Values.World.{Class, World}
use Rattle.jl_types.specs.Linkage.Links.{scratch}
use Rattle.jl_types.specs.Events.History.{kept}
use Rattle.jl_types.specs.Events.Verdict as events
use Rattle.jl_types.specs.Events.Verdict.{install_fault}
use Rattle.jl_types.specs.declared.event.EventOf.TheVariants as event
use Rattle.jl_types.proofs.InstalledLinks.{requested}
use Rattle.jl_hierarchy.proofs.Rising.{one_rising, filter_rises}
use Rattle.jl_types.specs.declared.key.Key.{Key}
use Rattle.jl_types.specs.Events.Retirement.{retires_site}
use Rattle.jl_types.specs.Events.Footprints.{keys, meets, most_for, touches}
use Rattle.jl_cache.specs.Links.{link_at, link_with}
use Rattle.jl_deps.specs.declared.form.Rests.{Rests}
use Rattle.jl_deps.specs.Indexes.{IsIndex, touched_by}
use Rattle.jl_types.proofs.BySite.{rises_of}
use Rattle.jl_deps.proofs.IndexLaws.{touched_of}
use Rattle.jl_deps.proofs.TouchLaws.{sites_rise}
use Rattle.jl_deps.proofs.PointLaws.{in_range}
use Rattle.jl_settle.specs.Settling.{AreUpToDate, HasChanged, defined_by, most_asked}
use Rattle.jl_settle.proofs.SettleLaws.{is_retirement, most_are}
use Rattle.jl_events.specs.Accepted.{Accepted, event_of}
use Rattle.jl_events.specs.Changes.{IsAcceptable, class_of}
use Rattle.jl_events.specs.Changes as changes
use Rattle.jl_events.proofs.ChangeLaws.{rows_free}
use Rattle.jl_relink.proofs.WorkCounts.{few_of_range}
use Rattle.jl_core.specs.ForProofs.Changes.{installs_at, retires_at, lost}
use Rattle.jl_core.specs.ForProofs.Steps.{IsRetirement, of_one, of_several, IsSound, HasStepped, most_to_settle, most_told}
use Rattle.jl_core.specs.ForProofs.Touched.{has, AreTouched}
use Rattle.jl_core.proofs.KeptLaws.{kept_once}
use Rattle.jl_core.proofs.InstallLaws.{install_keeps}
use Rattle.jl_core.proofs.RetireLaws.{retires_so}

some_link : (o : Option Link) (b : Bool) → (is_some o && b) ≡ true → (l : Link) × (o ≡ Some l)
some_link None b k = cc
some_link (Some l) b k = (l, refl)

module _ (w : World) (links : List (ℕ × Link)) (index : List (ℕ × Rests)) (sound : IsSound w links index) where
  -- what is listed where there was a link and is none is what is lost
  pub lost_are : (left : List (ℕ × Link)) (sites dropped : List ℕ) → ((s : ℕ) → has s sites ≡ (is_some (link_at links s) && is_none (link_at left s)))
      → AreTouched sites dropped → dropped ≡ lost (length w.places) links left
  lost_are left sites dropped listed are =
      one_rising dropped (lost (length w.places) links left) are.rises (filter_rises gone 0 (length w.places))
      (λ s. are.same s ∙ listed s ∙ sym (in_range gone (length w.places) (λ n e. within n e) s))
    where
      gone : ℕ → Bool
      gone s = is_some (link_at links s) && is_none (link_at left s)

      within : (n : ℕ) → gone n ≡ true → n < length w.places
      within n e =
          let one = some_link (link_at links n) (is_none (link_at left n)) e in
          requested w n one.0 (sound.scratch n one.0 one.1)

  -- no more are touched than are requested
  pub few_touched : (e : Event) → length (touched_by index (keys w e)) ≤ length w.places
  few_touched e =
      subst (λ (xs : List ℕ). length xs ≤ length w.places) (sym same) (few_of_range (λ s. has s those) (length w.places))
    where
      those : List ℕ
      those = touched_by index (keys w e)

      within : (s : ℕ) → has s those ≡ true → s < length w.places
      within s h =
          let one = some_link (link_at links s) (touches w e s) (sym (touched_of w e (link_at links) index sound.rising sound.indexed s) ∙ h) in
          requested w s one.0 (sound.scratch s one.0 one.1)

      same : those ≡ filter (λ s. has s those) (range_with_len 0 (length w.places))
      same =
          one_rising those (filter (λ s. has s those) (range_with_len 0 (length w.places)))
          (sites_rise (λ (r : Rests). meets r.footprint (keys w e)) index (rises_of index sound.rising))
          (filter_rises (λ s. has s those) 0 (length w.places))
          (λ s. sym (in_range (λ s. has s those) (length w.places) within s))

none_met : (footprint : List Key) → meets footprint [] ≡ false
none_met [] = refl
none_met (k ∷ footprint) = none_met footprint

-- no keys touch no site
pub none_touched : (index : List (ℕ × Rests)) → touched_by index [] ≡ []
none_touched [] = refl
none_touched (row ∷ index) =
    let met = filter (λ (r : ℕ × Rests). meets r.1.footprint []) index in
    ap (λ (b : Bool). map (λ (r : ℕ × Rests). r.0) (cond b (row ∷ met) met)) (none_met row.1.footprint) ∙ none_touched index

-- ---- what the log keeps of the event

-- the class that the event defines is the one that is settled
pub defined_so : (w : World) (e : Event) → changes.defined_by w e ≡ defined_by w e
defined_so w event.NewLoader = refl
defined_so w (event.Define loader file) = refl
defined_so w (event.Delegate loader name to) = refl
defined_so w (event.Request place) = refl
defined_so w (event.NewCallSite kind ty target) = refl
defined_so w (event.SetTarget c target) = refl
defined_so w event.NewSwitch = refl
defined_so w (event.Invalidate points) = refl
defined_so w (event.Bind s c) = refl
defined_so w (event.Install rows) = refl
defined_so w (event.Retire loader) = refl
defined_so w (event.RetireAll loaders) = refl
defined_so w (event.Release call_sites points) = refl

pub no_install : (s : ℕ) (told : Accepted) → ((rows : List (ℕ × Link)) → told ≡ event.Install rows → ⊥) → installs_at s told ≡ false
no_install s event.NewLoader other = refl
no_install s (event.Define loader c) other = refl
no_install s (event.Delegate loader name to) other = refl
no_install s (event.Request place) other = refl
no_install s (event.NewCallSite kind ty target) other = refl
no_install s (event.SetTarget c target) other = refl
no_install s event.NewSwitch other = refl
no_install s (event.Invalidate points) other = refl
no_install s (event.Bind site c) other = refl
no_install s (event.Install rows) other = absurd (other rows refl)
no_install s (event.Retire loader) other = refl
no_install s (event.RetireAll loaders) other = refl
no_install s (event.Release call_sites points) other = refl

pub no_retired : (w : World) (s : ℕ) (told : Accepted) → ((loaders : List ℕ) → IsRetirement told loaders → ⊥) → retires_at w told s ≡ false
no_retired w s event.NewLoader other = refl
no_retired w s (event.Define loader c) other = refl
no_retired w s (event.Delegate loader name to) other = refl
no_retired w s (event.Request place) other = refl
no_retired w s (event.NewCallSite kind ty target) other = refl
no_retired w s (event.SetTarget c target) other = refl
no_retired w s event.NewSwitch other = refl
no_retired w s (event.Invalidate points) other = refl
no_retired w s (event.Bind site c) other = refl
no_retired w s (event.Install rows) other = refl
no_retired w s (event.Retire loader) other = absurd (other (loader ∷ []) (of_one loader))
no_retired w s (event.RetireAll loaders) other = absurd (other loaders (of_several loaders))
no_retired w s (event.Release call_sites points) other = refl

-- the event is no retirement where the log keeps none
module _ (rows : List Class) (e : Event) where
  as_no : (x : Event) → Some x ≡ Some e → is_retirement x ≡ false → is_retirement e ≡ false
  as_no x is none = ap is_retirement (sym (same_Some x e is)) ∙ none

  no_row : (loader : ℕ) (o : Option Class) → option_map (λ (row : Class). event.Define loader row.file) o ≡ Some e → is_retirement e ≡ false
  no_row loader None is = absurd (cc is)
  no_row loader (Some row) is = as_no (event.Define loader row.file) is refl

  not_retirement : (told : Accepted) → event_of rows told ≡ Some e → ((loaders : List ℕ) → IsRetirement told loaders → ⊥) → is_retirement e ≡ false
  not_retirement event.NewLoader is other = as_no event.NewLoader is refl
  not_retirement (event.Define loader c) is other = no_row loader (slice_get rows c) is
  not_retirement (event.Delegate loader name to) is other = as_no (event.Delegate loader name to) is refl
  not_retirement (event.Request place) is other = as_no (event.Request place) is refl
  not_retirement (event.NewCallSite kind ty target) is other = as_no (event.NewCallSite kind ty target) is refl
  not_retirement (event.SetTarget c target) is other = as_no (event.SetTarget c target) is refl
  not_retirement event.NewSwitch is other = as_no event.NewSwitch is refl
  not_retirement (event.Invalidate points) is other = as_no (event.Invalidate points) is refl
  not_retirement (event.Bind site c) is other = as_no (event.Bind site c) is refl
  not_retirement (event.Install links) is other = as_no (event.Install links) is refl
  not_retirement (event.Retire loader) is other = absurd (other (loader ∷ []) (of_one loader))
  not_retirement (event.RetireAll loaders) is other = absurd (other loaders (of_several loaders))
  not_retirement (event.Release call_sites points) is other = as_no (event.Release call_sites points) is refl

-- how many evaluations it takes is told by the event
module _ (old new : World) (index : List (ℕ × Rests)) (e : Event) (ks : List Key) (step_is : new ≡ events.step old e) (keys_are : ks ≡ keys old e) where
  as_many : (x : Event) → Some x ≡ Some e → length (touched_by index (keys old x)) ≡ most_to_settle old index x
      → length (touched_by index ks) ≡ most_to_settle old index e
  as_many x is one =
      ap (λ (k : List Key). length (touched_by index k)) keys_are
      ∙ ap (λ (y : Event). length (touched_by index (keys old y))) (sym (same_Some x e is))
      ∙ one
      ∙ ap (most_to_settle old index) (same_Some x e is)

  row_many : (loader : ℕ) (o : Option Class) → option_map (λ (row : Class). event.Define loader row.file) o ≡ Some e
      → length (touched_by index ks) ≡ most_to_settle old index e
  row_many loader None is = absurd (cc is)
  row_many loader (Some row) is = as_many (event.Define loader row.file) is refl

  left_by : (x : Event) (loaders : List ℕ) → x ≡ e
      → sum_by (most_for new) (filter (λ s. not (retires_site new loaders s)) (touched_by index ks))
      ≡ sum_by (most_for (events.step old x)) (filter (λ s. not (retires_site (events.step old x) loaders s)) (touched_by index (keys old x)))
  left_by x loaders same =
      let new_is : new ≡ events.step old x = step_is ∙ ap (events.step old) (sym same) in
      let ks_are : ks ≡ keys old x = keys_are ∙ ap (keys old) (sym same) in
      (λ i. sum_by (most_for (new_is i)) (filter (λ s. not (retires_site (new_is i) loaders s)) (touched_by index (ks_are i))))

  pub most_by_told : (told : Accepted) → event_of new.classes.rows told ≡ Some e → most_told new told index ks ≡ most_to_settle old index e
  most_by_told event.NewLoader is = as_many event.NewLoader is refl
  most_by_told (event.Define loader c) is = row_many loader (slice_get new.classes.rows c) is
  most_by_told (event.Delegate loader name to) is = as_many (event.Delegate loader name to) is refl
  most_by_told (event.Request place) is = as_many (event.Request place) is refl
  most_by_told (event.NewCallSite kind ty target) is = as_many (event.NewCallSite kind ty target) is refl
  most_by_told (event.SetTarget c target) is = as_many (event.SetTarget c target) is refl
  most_by_told event.NewSwitch is = as_many event.NewSwitch is refl
  most_by_told (event.Invalidate points) is = as_many (event.Invalidate points) is refl
  most_by_told (event.Bind site c) is = as_many (event.Bind site c) is refl
  most_by_told (event.Install links) is = as_many (event.Install links) is refl
  most_by_told (event.Retire loader) is =
      let same : event.Retire loader ≡ e = same_Some (event.Retire loader) e is in
      left_by (event.Retire loader) (loader ∷ []) same ∙ ap (most_to_settle old index) same
  most_by_told (event.RetireAll loaders) is =
      let same : event.RetireAll loaders ≡ e = same_Some (event.RetireAll loaders) e is in
      left_by (event.RetireAll loaders) loaders same ∙ ap (most_to_settle old index) same
  most_by_told (event.Release call_sites points) is = as_many (event.Release call_sites points) is refl

-- ---- the event that was settled

module _ (w : World) (ks : List Key) (told : Accepted) (links : List (ℕ × Link)) (index : List (ℕ × Rests)) (led : HasStepped w ks told links index) where
  -- where no loader goes
  pub has_changed : ((loaders : List ℕ) → IsRetirement told loaders → ⊥) → (defined : Option ℕ) → class_of told ≡ defined
      → HasChanged w ks defined (link_at links) index
  has_changed other defined is = record {
    before = led.before;
    event = led.event;
    step = led.step;
    order = led.sound.order;
    accepted = (led.accepted.limits, led.accepted.accepted);
    left = λ s l linked. retires_so led.before w.classes.rows led.event s told led.tells ∙ no_retired led.before s told other;
    keys_are = led.keys_are;
    defined_is = sym is ∙ led.class_is ∙ defined_so led.before led.event;
    scratch = led.sound.scratch;
    index_is = led.sound.indexed;
  }

  pub most_so : (other : (loaders : List ℕ) → IsRetirement told loaders → ⊥) (defined : Option ℕ) → class_of told ≡ defined
      → sum_by (most_asked w defined) (touched_by index ks) ≡ length (touched_by index ks)
  unfolding has_changed
  most_so other defined is =
      most_are w ks (link_at links) index led.sound.rising defined (has_changed other defined is) (not_retirement w.classes.rows led.event told led.tells other)

  -- as many as are touched
  pub most_of_told : (other : (loaders : List ℕ) → IsRetirement told loaders → ⊥) → most_told w told index ks ≡ length (touched_by index ks)
  most_of_told other = by_told told other
    where
      by_told : (told : Accepted) → ((loaders : List ℕ) → IsRetirement told loaders → ⊥) → most_told w told index ks ≡ length (touched_by index ks)
      by_told event.NewLoader other = refl
      by_told (event.Define loader c) other = refl
      by_told (event.Delegate loader name to) other = refl
      by_told (event.Request place) other = refl
      by_told (event.NewCallSite kind ty target) other = refl
      by_told (event.SetTarget c target) other = refl
      by_told event.NewSwitch other = refl
      by_told (event.Invalidate points) other = refl
      by_told (event.Bind site c) other = refl
      by_told (event.Install rows) other = refl
      by_told (event.Retire loader) other = absurd (other (loader ∷ []) (of_one loader))
      by_told (event.RetireAll loaders) other = absurd (other loaders (of_several loaders))
      by_told (event.Release call_sites points) other = refl

  pub fits : (work : ℕ) → work ≤ 268435456 → work + length (touched_by index ks) < 2 ^ 64
  fits work small =
      let few = few_touched led.before links index led.sound led.event in
      let same : length (touched_by index ks) ≡ length (touched_by index (keys led.before led.event)) =
      ap (λ (k : List Key). length (touched_by index k)) led.keys_are in
      let places = led.few in
      omega arith

  pub fits_so : (other : (loaders : List ℕ) → IsRetirement told loaders → ⊥) (defined : Option ℕ) → class_of told ≡ defined → (work : ℕ) → work ≤ 268435456
      → work + sum_by (most_asked w defined) (touched_by index ks) < 2 ^ 64
  fits_so other defined is work small =
      let most = most_so other defined is in
      let few = fits work small in
      omega (arith, most, few)

  pub ticks_so : (other : (loaders : List ℕ) → IsRetirement told loaders → ⊥) (defined : Option ℕ) → class_of told ≡ defined → (work next : ℕ)
      → next ≤ work + sum_by (most_asked w defined) (touched_by index ks) → next ≤ work + most_told w told index ks
  ticks_so other defined is work next le =
      let most = most_so other defined is in
      let same = most_of_told other in
      omega (arith, most, same, le)

  pub up_to_date_so : ((rows : List (ℕ × Link)) → told ≡ event.Install rows → ⊥) → (left : ℕ → Option Link) (further : List (ℕ × Rests)) (lost : List ℕ)
      → AreUpToDate w (λ s. false) (link_at links) left further lost → AreUpToDate w (λ s. installs_at s told) (link_at links) left further lost
  up_to_date_so other left further lost settled = record {
    links = λ s. settled.links s ∙ ap (λ (b : Bool). kept b (link_at links s) (scratch w s)) (sym (no_install s told other));
    index = settled.index;
    lost = settled.lost;
  }

  -- ---- or installed

  module _ (rows : List (ℕ × Link)) (is : told ≡ event.Install rows) where
    event_is : event.Install rows ≡ led.event
    event_is = same_Some (event.Install rows) led.event (ap (event_of w.classes.rows) (sym is) ∙ led.tells)

    same_world : w ≡ led.before
    same_world = led.step ∙ ap (events.step led.before) (sym event_is)

    free : install_fault led.before rows ≡ None
    free = rows_free led.before rows (subst (IsAcceptable led.before) (sym event_is) led.accepted)

    pub was_index : IsIndex w (link_at links) index
    was_index = subst (λ (v : World). IsIndex v (link_at links) index) (sym same_world) led.sound.indexed

    module _ (left : List (ℕ × Link)) (linked : (s : ℕ) → link_at left s ≡ link_with rows (link_at links s) s) where
      by_rows : (s : ℕ) → link_at left s ≡ kept (list_any (λ row. row.0 == s) rows) (link_at links s) (scratch led.before s)
      by_rows s = linked s ∙ install_keeps led.before s links rows free led.sound.scratch

      none_lost : (s : ℕ) → false ≡ (is_some (link_at links s) && is_none (link_at left s))
      none_lost s = by_link (link_at links s) refl
        where
          by_link : (o : Option Link) → link_at links s ≡ o → false ≡ (is_some o && is_none (link_at left s))
          by_link None e = refl
          by_link (Some l) e =
              sym (ap is_none
              (by_rows s ∙ kept_once (list_any (λ row. row.0 == s) rows) (link_at links s) (scratch led.before s) l e (led.sound.scratch s l e)))

      pub up_to_date_installed : (further : List (ℕ × Rests)) → IsIndex w (link_at left) further
          → AreUpToDate w (λ s. installs_at s told) (link_at links) (link_at left) further []
      up_to_date_installed further indexed = record {
        links = λ s. by_rows s ∙ (λ i. kept (installs_at s (sym is i)) (link_at links s) (scratch (sym same_world i) s));
        index = indexed;
        lost = none_lost;
      }

-- neither of the events that retire loaders is none that does
pub no_retirement : (told : Accepted) → ((loader : ℕ) → told ≡ event.Retire loader → ⊥) → ((loaders : List ℕ) → told ≡ event.RetireAll loaders → ⊥)
    → (loaders : List ℕ) → IsRetirement told loaders → ⊥
no_retirement told not_one not_all loaders (of_one loader) = not_one loader refl
no_retirement told not_one not_all loaders (of_several ls) = not_all ls refl
