-- An accepted event once more: what it needs, and what it leaves as it was.
use Rattle.std.specs.Prelude.{◌≡◌, ℕ, Bool, true, false, List, map, length, Option, Some, None, option_map, slice_get, if◌then◌else◌}
use Rattle.std.proofs.Common.{refl, ap, sym, subst, ◌∙◌}
use Rattle.std.proofs.lemmas.Option.{same_Some}
use Rattle.jl_class.specs.Class.{ClassFile}
use Rattle.jl_types.specs.declared.link.Link.{Link}
use Rattle.jl_types.specs.Events.Event.{Event}
use Rattle.jl_types.specs.declared.event.EventOf.TheVariants as event
use Rattle.jl_types.specs.Values.World.{Class, World}
use Rattle.jl_types.specs.Linkage.Links.{scratch}
use Rattle.jl_types.specs.Events.Verdict.{step}
use Rattle.jl_types.specs.Events.History.{installs, kept}
use Rattle.jl_relink.specs.Laws.{IsInOrder}
use Rattle.jl_types.specs.Events.Footprints.{keys, retires}
use Rattle.jl_cache.specs.Links.{link_at}
use Rattle.jl_deps.specs.declared.form.Rests.{Rests}
use Rattle.jl_deps.specs.Indexes.{rests_at, touched_by, AreRising, IsIndex, rests_if}
use Rattle.jl_settle.specs.Settling.{HasChanged, defined_by}
use Rattle.jl_settle.proofs.SettleLaws.{footprint_stays, untouched_stays}
use Rattle.jl_events.specs.Changes.{IsAcceptable}
use Rattle.jl_events.specs.Accepted.{Accepted, event_of}
use Rattle.jl_core.specs.ForProofs.Changes.{AreScratch, retires_at}
use Rattle.jl_core.specs.ForProofs.Replays.{IsFurther, IsUntouched}
use Rattle.jl_core.specs.ForProofs.Touched.{has}
use Rattle.jl_core.proofs.RetireLaws.{retires_so, links_left, index_left, kept_left}
use Rattle.jl_core.proofs.StepLaws.{none_touched}
use Rattle.jl_core.proofs.PlanLaws.{installs_has}

-- ---- an install

-- an install changes no other sites
pub install_untouched : (w : World) (rows : List Class) (index : List (ℕ × Rests)) (e : Event) (told : Accepted) (links : List (ℕ × Link))
    → told ≡ event.Install links → event_of rows told ≡ Some e → (s : ℕ) → has s (map (λ (row : ℕ × Link). row.0) links) ≡ false → IsUntouched w index e s
install_untouched w rows index e told links is tells s none =
    let same : event.Install links ≡ e = same_Some (event.Install links) e (ap (event_of rows) (sym is) ∙ tells) in (
      ap (λ (x : Event). has s (touched_by index (keys w x))) (sym same) ∙ ap (has s) (none_touched index),
      ap (installs s) (sym same) ∙ installs_has s links ∙ none,
    )

-- ---- once a class was defined

module _ (old ahead : World) (links : List (ℕ × Link)) (index : List (ℕ × Rests)) (loader : ℕ) (file : ClassFile)
    (order : IsInOrder old) (accepted : IsAcceptable old (event.Define loader file)) (stepped : ahead ≡ step old (event.Define loader file))
    (were_scratch : AreScratch old links) (rising : AreRising index) (indexed : IsIndex old (link_at links) index) where
  defined : HasChanged ahead (keys old (event.Define loader file)) (Some (length old.classes.rows)) (link_at links) index
  defined = record {
    before = old;
    event = event.Define loader file;
    step = stepped;
    order = order;
    accepted = (accepted.limits, accepted.accepted);
    left = λ s l is. refl;
    keys_are = refl;
    defined_is = refl;
    scratch = were_scratch;
    index_is = indexed;
  }

  -- each link rests on what it rested on
  rests_on : (s : ℕ) → rests_at index s ≡ rests_if ahead s (link_at links s)
  rests_on s = by_touched (has s (touched_by index (keys old (event.Define loader file)))) refl
    where
      by_touched : (b : Bool) → has s (touched_by index (keys old (event.Define loader file))) ≡ b
          → rests_at index s ≡ rests_if ahead s (link_at links s)
      by_touched true is =
          footprint_stays ahead (keys old (event.Define loader file)) (link_at links) index rising (length old.classes.rows) defined s is
      by_touched false is =
          sym (untouched_stays ahead (keys old (event.Define loader file)) (Some (length old.classes.rows)) (link_at links) index defined rising s is).1

-- the index once the sites whose links went were taken out
pub definition_followed : (old ahead : World) (told : Accepted) (links linked after : List (ℕ × Link)) (index far near : List (ℕ × Rests))
    → IsFurther old ahead told links linked index far → (loader c : ℕ) → told ≡ event.Define loader c → (gone : List ℕ)
    → ((s : ℕ) → link_at after s ≡ (if has s gone then None else link_at links s))
    → ((s : ℕ) → rests_at near s ≡ (if has s gone then None else rests_at index s))
    → IsIndex ahead (link_at after) near
definition_followed old ahead told links linked after index far near further loader c is gone left taken s =
    taken s ∙ by_gone (has s gone) ∙ ap (rests_if ahead s) (sym (left s))
  where
    by_row : (o : Option Class) → option_map {U = Event} (λ (row : Class). event.Define loader row.file) o ≡ Some further.next.event
        → rests_at index s ≡ rests_if ahead s (link_at links s)
    by_row None tells = absurd (cc tells)
    by_row (Some row) tells =
        let same : event.Define loader row.file ≡ further.next.event = same_Some (event.Define loader row.file) further.next.event tells in
        rests_on old ahead links index loader row.file further.order (subst (IsAcceptable old) (sym same) further.next.accepted)
        (further.next.step ∙ ap (step old) (sym same)) further.were_scratch further.rising further.indexed s

    by_gone : (b : Bool) → (if b then None else rests_at index s) ≡ rests_if ahead s (if b then None else link_at links s)
    by_gone true = refl
    by_gone false = by_row (slice_get ahead.classes.rows c) (ap (event_of ahead.classes.rows) (sym is) ∙ further.next.tells)

-- ---- what is left once retired sites were dropped

pub further_left : (old ahead : World) (told : Accepted) (links left linked : List (ℕ × Link)) (index near far : List (ℕ × Rests))
    → IsFurther old ahead told links linked index far → AreRising near
    → ((s : ℕ) → link_at left s ≡ (if retires_at old told s then None else link_at links s))
    → ((s : ℕ) → rests_at near s ≡ (if retires_at old told s then None else rests_at index s))
    → IsFurther old ahead told left linked near far
further_left old ahead told links left linked index near far further rising dropped taken = record {
  next = further.next;
  were_scratch = λ s l is. further.were_scratch s l (links_left old told links left index near dropped taken s l is).1;
  order = further.order;
  rising = rising;
  indexed = index_left old told links left index near dropped taken further.indexed;
  kept_so = λ s.
      further.kept_so s
      ∙ ap (λ (w : World). kept (installs s further.next.event) (link_at links s) (scratch w s)) further.next.step
      ∙ kept_left old told links left index near dropped taken further.next.event
      (λ t. retires_so old ahead.classes.rows further.next.event t told further.next.tells) s
      ∙ ap (λ (w : World). kept (installs s further.next.event) (link_at left s) (scratch w s)) (sym further.next.step);
  ahead_indexed = further.ahead_indexed;
}

-- ---- what is taken over

module _ (old ahead : World) (told : Accepted) (links linked : List (ℕ × Link)) (index far : List (ℕ × Rests))
    (further : IsFurther old ahead told links linked index far) (sites : List ℕ)
    (others : (s : ℕ) → has s sites ≡ false → IsUntouched old index further.next.event s)
    (left_there : (s : ℕ) (l : Link) → link_at links s ≡ Some l → retires old further.next.event s ≡ false) where
  abbrev e : Event
  e = further.next.event

  changed : HasChanged ahead (keys old e) (defined_by old e) (link_at links) index
  changed = record {
    before = old;
    event = e;
    step = further.next.step;
    order = further.order;
    accepted = (further.next.accepted.limits, further.next.accepted.accepted);
    left = left_there;
    keys_are = refl;
    defined_is = refl;
    scratch = further.were_scratch;
    index_is = further.indexed;
  }

  stays : (s : ℕ) → has s sites ≡ false
      → (kept false (link_at links s) (scratch ahead s) ≡ link_at links s) × (rests_if ahead s (link_at links s) ≡ rests_at index s)
  stays s none = untouched_stays ahead (keys old e) (defined_by old e) (link_at links) index changed further.rising s (others s none).0

  pub links_taken : (left : List (ℕ × Link)) → ((s : ℕ) → link_at left s ≡ (if has s sites then link_at linked s else link_at links s))
      → (s : ℕ) → link_at left s ≡ link_at linked s
  links_taken left taken s = taken s ∙ by_site (has s sites) refl
    where
      by_site : (b : Bool) → has s sites ≡ b → (if b then link_at linked s else link_at links s) ≡ link_at linked s
      by_site true is = refl
      by_site false is =
          sym (further.kept_so s
          ∙ ap (λ (b : Bool). kept b (link_at links s) (scratch ahead s)) (others s is).1
          ∙ (stays s is).0)

  pub index_taken : (left : List (ℕ × Link)) → ((s : ℕ) → link_at left s ≡ (if has s sites then link_at linked s else link_at links s))
      → (near : List (ℕ × Rests)) → ((s : ℕ) → rests_at near s ≡ (if has s sites then rests_at far s else rests_at index s))
      → IsIndex ahead (link_at left) near
  index_taken left taken near looked s = looked s ∙ by_site (has s sites) refl ∙ ap (rests_if ahead s) (sym (taken s))
    where
      by_site : (b : Bool) → has s sites ≡ b → (if b then rests_at far s else rests_at index s)
          ≡ rests_if ahead s (if b then link_at linked s else link_at links s)
      by_site true is = further.ahead_indexed s
      by_site false is = sym (stays s is).1

-- the same where the links of retired sites were dropped first
module _ (old ahead : World) (told : Accepted) (links left linked : List (ℕ × Link)) (index near far : List (ℕ × Rests))
    (further : IsFurther old ahead told links linked index far) (rising : AreRising near)
    (dropped : (s : ℕ) → link_at left s ≡ (if retires_at old told s then None else link_at links s))
    (taken : (s : ℕ) → rests_at near s ≡ (if retires_at old told s then None else rests_at index s))
    (sites : List ℕ) (others : (s : ℕ) → has s sites ≡ false → IsUntouched old near further.next.event s) where
  left_there : (s : ℕ) (l : Link) → link_at left s ≡ Some l → retires old further.next.event s ≡ false
  left_there s l is =
      retires_so old ahead.classes.rows further.next.event s told further.next.tells ∙ (links_left old told links left index near dropped taken s l is).0

  module _ (after : List (ℕ × Link)) (took : (s : ℕ) → link_at after s ≡ (if has s sites then link_at linked s else link_at left s)) where
    pub links_followed : (s : ℕ) → link_at after s ≡ link_at linked s
    unfolding further_left
    links_followed =
        links_taken old ahead told left linked near far (further_left old ahead told links left linked index near far further rising dropped taken)
        sites others left_there after took

    pub index_followed : (farther : List (ℕ × Rests))
        → ((s : ℕ) → rests_at farther s ≡ (if has s sites then rests_at far s else rests_at near s))
        → IsIndex ahead (link_at after) farther
    unfolding further_left
    index_followed farther put =
        index_taken old ahead told left linked near far (further_left old ahead told links left linked index near far further rising dropped taken)
        sites others left_there after took farther put
