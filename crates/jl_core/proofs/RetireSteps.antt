-- The links and the index once loaders are retired.
use Rattle.std.specs.Prelude.{◌≡◌, ℕ, ◌+◌, ◌*◌, ◌<◌, ◌≤◌, ◌^◌, ◌==◌, ◌&&◌, ◌||◌, not, Bool, true, false, List, [], ◌∷◌, ◌++◌, filter, sum_by, length}
use Rattle.std.specs.Prelude.{Some, None, Option, is_some, if◌then◌else◌}
use Rattle.std.proofs.Common.{refl, ap, sym, subst, ◌∙◌, arith}
use Rattle.std.proofs.lemmas.Option.{same_Some}
use Rattle.jl_types.specs.declared.link.Link.{Link}
use Rattle.jl_types.specs.Events.Event.{Event}
use Rattle.jl_types.specs.declared.event.EventOf.TheVariants as event
use Rattle.jl_types.specs.Values.World.{World, Class}
use Rattle.jl_types.specs.Linkage.Links.{scratch}
use Rattle.jl_types.specs.Events.Retirement.{retires_site}
use Rattle.jl_types.specs.Events.Verdict.{step}
use Rattle.jl_types.specs.Events.History.{installs, kept}
use Rattle.jl_types.specs.declared.key.Key.{Key}
use Rattle.jl_types.specs.Events.Footprints.{footprint, keys, most_for, retires}
use Rattle.jl_cache.specs.Links.{link_at}
use Rattle.jl_deps.specs.declared.form.Rests.{Rests}
use Rattle.jl_deps.specs.Indexes.{rests_at, touched_by, AreRising}
use Rattle.jl_settle.specs.Settling.{AreUpToDate, HasChanged, most_asked}
use Rattle.jl_events.specs.Accepted.{Accepted, event_of}
use Rattle.jl_events.specs.Changes.{class_of}
use Rattle.jl_relink.proofs.WorkCounts.{no_more, few_by}
use Rattle.jl_core.specs.ForProofs.Changes.{AreScratch, retires_at}
use Rattle.jl_core.specs.ForProofs.Steps.{IsRetirement, of_one, of_several, AreGone, AreRetired, HasStepped, most_told}
use Rattle.jl_core.specs.ForProofs.Touched.{has}
use Rattle.jl_core.proofs.RetireLaws.{retires_so, retired_then, dropped_all, taken_all, lost_all, links_left, index_left}
use Rattle.jl_core.proofs.RetireLaws.{kept_left, touched_left, few_in_sum, lost_or_gone}
use Rattle.jl_core.proofs.StepLaws.{defined_so, few_touched}

has_both : (s : ℕ) (xs ys : List ℕ) → has s (xs ++ ys) ≡ (has s xs || has s ys)
has_both s [] ys = refl
has_both s (x ∷ xs) ys = ap (λ (b : Bool). (x == s) || b) (has_both s xs ys) ∙ sym (or_assoc (x == s) (has s xs) (has s ys))
  where
    or_assoc : (a b c : Bool) → ((a || b) || c) ≡ (a || (b || c))
    or_assoc true b c = refl
    or_assoc false b c = refl

-- ---- what is retired, by what the log keeps

retires_same : (told : Accepted) (loaders : List ℕ) → IsRetirement told loaders → (v : World) (s : ℕ) → retires_at v told s ≡ retires_site v loaders s
retires_same told loaders (of_one loader) v s = refl
retires_same told loaders (of_several ls) v s = refl

no_class : (told : Accepted) (loaders : List ℕ) → IsRetirement told loaders → None ≡ class_of told
no_class told loaders (of_one loader) = refl
no_class told loaders (of_several ls) = refl

retires_before : (told : Accepted) (loaders : List ℕ) → IsRetirement told loaders → (rows : List Class) (e : Event) → event_of rows told ≡ Some e
    → (v : World) (s : ℕ) → retires_site (step v e) loaders s ≡ retires_at v told s
retires_before told loaders (of_one loader) rows e tells v s =
    ap (λ (e : Event). retires_site (step v e) (loader ∷ []) s) (sym (same_Some (event.Retire loader) e tells))
retires_before told loaders (of_several ls) rows e tells v s =
    ap (λ (e : Event). retires_site (step v e) ls s) (sym (same_Some (event.RetireAll ls) e tells))

installs_none : (told : Accepted) (loaders : List ℕ) → IsRetirement told loaders → (rows : List Class) (e : Event) → event_of rows told ≡ Some e
    → (s : ℕ) → installs s e ≡ false
installs_none told loaders (of_one loader) rows e tells s = ap (installs s) (sym (same_Some (event.Retire loader) e tells))
installs_none told loaders (of_several ls) rows e tells s = ap (installs s) (sym (same_Some (event.RetireAll ls) e tells))

told_of_left : (told : Accepted) (loaders : List ℕ) → IsRetirement told loaders → (w : World) (index : List (ℕ × Rests)) (ks : List Key)
    → most_told w told index ks ≡ sum_by (most_for w) (filter (λ s. not (retires_site w loaders s)) (touched_by index ks))
told_of_left told loaders (of_one loader) w index ks = refl
told_of_left told loaders (of_several ls) w index ks = refl

module _ (w : World) (ks : List Key) (told : Accepted) (loaders : List ℕ) (is : IsRetirement told loaders) (links : List (ℕ × Link))
    (index : List (ℕ × Rests))
    (led : HasStepped w ks told links index) where
  same_site : (s : ℕ) → retires_site w loaders s ≡ retires_at led.before told s
  same_site s =
      ap (λ (v : World). retires_site v loaders s) led.step ∙ retires_before told loaders is w.classes.rows led.event led.tells led.before s

  no_install : (s : ℕ) → installs s led.event ≡ false
  no_install s = installs_none told loaders is w.classes.rows led.event led.tells s

  module _ (sites : List ℕ) (gone : AreGone w told links sites)
      (left : List (ℕ × Link)) (near : List (ℕ × Rests)) (rising : AreRising near)
      (dropped : (s : ℕ) → link_at left s ≡ (if has s sites then None else link_at links s))
      (taken : (s : ℕ) → rests_at near s ≡ (if has s sites then None else rests_at index s)) where
    only : (s : ℕ) → has s sites ≡ true → retires_site w loaders s ≡ true
    only s listed = sym (retires_same told loaders is w s) ∙ gone.only s listed

    linked : (s : ℕ) (l : Link) → link_at links s ≡ Some l → retires_site w loaders s ≡ true → has s sites ≡ true
    linked s l at goes = gone.linked s l at (retires_same told loaders is w s ∙ goes)

    dropped_so : (s : ℕ) → link_at left s ≡ (if retires_site w loaders s then None else link_at links s)
    dropped_so s = dropped s ∙ dropped_all links (retires_site w loaders) sites only linked s

    taken_so : (s : ℕ) → rests_at near s ≡ (if retires_site w loaders s then None else rests_at index s)
    taken_so s = taken s ∙ taken_all links (retires_site w loaders) sites only linked s led.before index led.sound.indexed

    dropped_then : (s : ℕ) → link_at left s ≡ (if retires_at led.before told s then None else link_at links s)
    dropped_then s = dropped_so s ∙ ap (λ (b : Bool). if b then None else link_at links s) (same_site s)

    taken_then : (s : ℕ) → rests_at near s ≡ (if retires_at led.before told s then None else rests_at index s)
    taken_then s = taken_so s ∙ ap (λ (b : Bool). if b then None else rests_at index s) (same_site s)

    pub has_retired : HasChanged w ks None (link_at left) near
    has_retired = record {
      before = led.before;
      event = led.event;
      step = led.step;
      order = led.sound.order;
      accepted = (led.accepted.limits, led.accepted.accepted);
      left = λ s l linked.
          retires_so led.before w.classes.rows led.event s told led.tells
          ∙ (links_left led.before told links left index near dropped_then taken_then s l linked).0;
      keys_are = led.keys_are;
      defined_is = no_class told loaders is ∙ led.class_is ∙ defined_so led.before led.event;
      scratch = λ s l linked. led.sound.scratch s l (links_left led.before told links left index near dropped_then taken_then s l linked).1;
      index_is = index_left led.before told links left index near dropped_then taken_then led.sound.indexed;
    }

    touched_are : touched_by near ks ≡ filter (λ s. not (retires_site w loaders s)) (touched_by index ks)
    touched_are = touched_left (retires_site w loaders) index near ks led.sound.rising rising taken_so

    pub fits_left : length w.classes.rows ≤ 1048576 → (work : ℕ) → work ≤ 268435456 → work + sum_by (most_asked w None) (touched_by near ks) < 2 ^ 64
    fits_left few work small =
        let sum : sum_by (most_asked w None) (touched_by near ks) ≤ length (touched_by near ks) * 1048576 =
        few_in_sum (most_for w) (λ s. few_by w.classes few (footprint w s)) (touched_by near ks) in
        let fewer : length (touched_by near ks) ≤ length (touched_by index ks) =
        subst (λ (ts : List ℕ). length ts ≤ length (touched_by index ks)) (sym touched_are)
        (no_more (λ s. not (retires_site w loaders s)) (touched_by index ks))
        in
        let some = few_touched led.before links index led.sound led.event in
        let same : length (touched_by index ks) ≡ length (touched_by index (keys led.before led.event)) =
        ap (λ (k : List Key). length (touched_by index k)) led.keys_are in
        let places = led.few in
        omega (arith, sum, fewer, some, same, places)

    -- as many are looked at as the event says
    pub ticks_left : (work next : ℕ) → next ≤ work + sum_by (most_asked w None) (touched_by near ks) → next ≤ work + most_told w told index ks
    ticks_left work next le = subst (λ (n : ℕ). next ≤ work + n) (ap (sum_by (most_for w)) touched_are ∙ sym (told_of_left told loaders is w index ks)) le

    -- once the others were settled
    pub up_to_date_retired : (first lost : List ℕ) → ((s : ℕ) → has s first ≡ (has s sites && is_some (link_at links s)))
        → (after : ℕ → Option Link) (further : List (ℕ × Rests)) → AreUpToDate w (λ s. false) (link_at left) after further lost
        → AreUpToDate w (λ s. false) (link_at links) after further (first ++ lost)
    up_to_date_retired first lost first_are after further settled = record {
      links = λ s.
          settled.links s
          ∙ (λ i. kept (sym (no_install s) i) (link_at left s) (scratch (led.step i) s))
          ∙ sym (kept_left led.before told links left index near dropped_then taken_then led.event
          (λ t. retires_so led.before w.classes.rows led.event t told led.tells) s)
          ∙ (λ i. kept (no_install s i) (link_at links s) (scratch (sym led.step i) s));
      index = settled.index;
      lost = λ s.
          has_both s first lost
          ∙ (λ i. (first_are s ∙ lost_all links (retires_site w loaders) sites only linked s) i || settled.lost s i)
          ∙ lost_or_gone (retires_site w loaders s) (link_at links s) (link_at left s) (after s) (scratch w s) (dropped_so s) (settled.links s);
    }

-- what is retired goes by what the log keeps, too
pub are_gone : (w new : World) (e : Event) (told : Accepted) (links : List (ℕ × Link)) (sites : List ℕ) → new ≡ step w e
    → event_of new.classes.rows told ≡ Some e → AreScratch w links → AreRetired w e sites → AreGone new told links sites
are_gone w new e told links sites is tells sound retired = record {
  only = λ s listed. goes_so s ∙ retired.only s listed;
  linked = λ s l at gone. retired.linked s l (sound s l at) (sym (goes_so s) ∙ gone);
}
  where
    goes_so : (s : ℕ) → retires_at new told s ≡ retires w e s
    goes_so s = ap (λ (v : World). retires_at v told s) is ∙ retired_then w new.classes.rows e s told tells
