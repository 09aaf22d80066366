-- What is present rests on what is present after each accepted event, too, and which sites stay present.
use Rattle.std.specs.Prelude.{◌≡◌, ℕ, ◌<◌, ◌==◌, not, ◌&&◌, ◌||◌, nat_le, Bool, true, false, cond, List, [], ◌∷◌, map, filter, length}
use Rattle.std.specs.Prelude.{slice_get, Option, Some, None, option_map, IsOk}
use Rattle.std.specs.Option.{option_map_or}
use Rattle.std.specs.List.{list_any}
use Rattle.std.specs.Bool.{then_some}
use Rattle.std.proofs.Common.{refl, ap, sym, ◌∙◌, arith}
use Rattle.std.proofs.lemmas.Bool.{both_ways, and_parts}
use Rattle.std.proofs.lemmas.Cmp.{nat_eq_equiv}
use Rattle.jl_types.specs.declared.limits.Limits.{Limits}
use Rattle.jl_types.specs.Events.Event.{Event}
use Rattle.jl_types.specs.declared.event.EventOf.TheVariants as event
use Rattle.jl_types.specs.declared.event.Made.{Made}
use Rattle.jl_types.specs.declared.ids.Place.{Place}
use Rattle.jl_types.specs.declared.refusal.DelegateFault.TheVariants.{UnknownLoader}
use Rattle.jl_types.specs.declared.refusal.Refusal.{Refusal}
use Rattle.jl_types.specs.declared.refusal.Refusal.TheVariants.{Delegate, Retire, Release}
use Rattle.jl_types.specs.Values.World.{World, Classes}
use Rattle.jl_types.specs.Values.Members.{is_retired, is_present, is_concrete, lookup, numbers}
use Rattle.jl_types.specs.Values.Ancestry.{AreOrdered, is_ancestor, receivers}
use Rattle.jl_types.specs.Events.Definitions.{is_unknown, with_record, delegate_fault, delegated}
use Rattle.jl_types.specs.Events.Retirement.{is_of_any, retire_fault, retired, losing_receivers, retires_site}
use Rattle.jl_types.specs.Events.Release.{release_fault}
use Rattle.jl_types.specs.Events.Verdict.{retire_all_fault, unless, verdict, step}
use Rattle.jl_types.specs.declared.key.Key.TheVariants as key
use Rattle.jl_types.specs.Events.Footprints.{same_key, has_key, retires}
use Rattle.jl_types.proofs.Ancestors.{ancestor_decides}
use Rattle.jl_types.proofs.Bools.{any-filter, any-filter-at, any-map, any-range-from}
use Rattle.jl_types.proofs.Firsts.{first_none, test_none}
use Rattle.jl_types.proofs.Grown.{above}
use Rattle.jl_types.proofs.Orders.{IsGood, defined_good}
use Rattle.jl_types.proofs.Releasing.{MayRelease, may_release}
use Rattle.jl_types.proofs.Retiring.{AreFree, one_free, all_free, may_retire, present_after, receivers_left}
use Rattle.jl_hierarchy.specs.Constancy.{AreInOrder, IsClosed}
use Rattle.jl_hierarchy.proofs.Closed.{closed_with_record, closed_with_loader, closed_defined, closed_retired, present_still}
use Rattle.jl_relink.proofs.Staying.{present_there}

-- ---- no fault

pub no_fault : {A : Type 0} (F : A → Refusal) (o : Option A) (m : Made) → IsOk (unless (option_map F o) m) → o ≡ None
no_fault F None m h = refl
no_fault F (Some f) m h = cc

pub no_refusal : (o : Option Refusal) (m : Made) → IsOk (unless o m) → o ≡ None
no_refusal None m h = refl
no_refusal (Some r) m h = cc

-- nothing speaks against a retirement that is accepted
pub free_loader : (limits : Limits) (w : World) (loader : ℕ) → IsOk (verdict limits w (event.Retire loader)) → AreFree w (loader ∷ [])
free_loader limits w loader accepted = one_free w loader (no_fault Retire (retire_fault w (loader ∷ []) loader) _ accepted)

-- what an accepted release says
pub may_release_then : (limits : Limits) (w : World) (call_sites points : List ℕ) → IsOk (verdict limits w (event.Release call_sites points))
    → MayRelease w.sites call_sites points
may_release_then limits w call_sites points accepted =
    may_release w.sites call_sites points (no_fault Release (release_fault w.sites call_sites points) _ accepted)

pub free_loaders : (limits : Limits) (w : World) (loaders : List ℕ) → IsOk (verdict limits w (event.RetireAll loaders)) → AreFree w loaders
free_loaders limits w loaders accepted = all_free w loaders (no_refusal (retire_all_fault w loaders) _ accepted)

module _ (cs : Classes) (closed : IsClosed cs) where
  pub closed_delegated : (loader : ℕ) (name : List ℕ) (to : ℕ) → delegate_fault cs loader name to ≡ None → IsClosed (delegated cs loader name to)
  closed_delegated loader name to none = by_found (lookup cs to name) refl
    where
      live : is_retired cs to ≡ false
      live =
          last (is_unknown cs loader) (nat_le (length cs.loaders) to) (is_retired cs to)
          (test_none (is_unknown cs loader || is_unknown cs to) UnknownLoader
          (first_none (then_some (is_unknown cs loader || is_unknown cs to) UnknownLoader) _ none).0)
        where
          last : (a b c : Bool) → (a || (b || c)) ≡ false → c ≡ false
          last true b c e = cc
          last false true c e = cc
          last false false c e = e

      by_found : (o : Option ℕ) → lookup cs to name ≡ o → IsClosed (record cs { loaders = option_map_or (with_record cs.loaders loader name) o cs.loaders })
      by_found None is = closed
      by_found (Some c) is = closed_with_record cs closed loader name c (closed.records to name c live is)

module _ (cs : Classes) (order : AreInOrder cs) where
  good : IsGood cs
  good = record { there = order.there; ordered = order.ordered }

  pub rows_delegated : (loader : ℕ) (name : List ℕ) (to : ℕ) → AreOrdered (delegated cs loader name to).rows
  rows_delegated loader name to = order.ordered

module _ (limits : Limits) (w : World) (is_good : IsGood w.classes) (closed : IsClosed w.classes) where
  pub closed_once : (e : Event) → IsOk (verdict limits w e) → IsClosed (step w e).classes
  closed_once event.NewLoader accepted = closed_with_loader w.classes closed
  closed_once (event.Define loader file) accepted = closed_defined w.classes is_good loader file closed
  closed_once (event.Delegate loader name to) accepted =
      closed_delegated w.classes closed loader name to (no_fault Delegate (delegate_fault w.classes loader name to) _ accepted)
  closed_once (event.Request place) accepted = closed
  closed_once (event.NewCallSite kind ty t) accepted = closed
  closed_once (event.SetTarget c t) accepted = closed
  closed_once event.NewSwitch accepted = closed
  closed_once (event.Invalidate points) accepted = closed
  closed_once (event.Bind s c) accepted = closed
  closed_once (event.Install rows) accepted = closed
  closed_once (event.Retire loader) accepted =
      closed_retired w.classes is_good.ordered closed (loader ∷ []) (may_retire w (loader ∷ []) (free_loader limits w loader accepted))
  closed_once (event.RetireAll loaders) accepted =
      closed_retired w.classes is_good.ordered closed loaders (may_retire w loaders (free_loaders limits w loaders accepted))
  closed_once (event.Release call_sites points) accepted = closed

module _ (w : World) (order : AreInOrder w.classes) where
  pub ordered_after : (e : Event) → AreOrdered (step w e).classes.rows
  ordered_after event.NewLoader = order.ordered
  ordered_after (event.Define loader file) = (defined_good w.classes (good w.classes order) loader file).ordered
  ordered_after (event.Delegate loader name to) = order.ordered
  ordered_after (event.Request place) = order.ordered
  ordered_after (event.NewCallSite kind ty t) = order.ordered
  ordered_after (event.SetTarget c t) = order.ordered
  ordered_after event.NewSwitch = order.ordered
  ordered_after (event.Invalidate points) = order.ordered
  ordered_after (event.Bind s c) = order.ordered
  ordered_after (event.Install rows) = order.ordered
  ordered_after (event.Retire loader) = order.ordered
  ordered_after (event.RetireAll loaders) = order.ordered
  ordered_after (event.Release call_sites points) = order.ordered

  pub closed_after : (limits : Limits) (e : Event) → IsOk (verdict limits w e) → IsClosed (step w e).classes
  closed_after limits = closed_once limits w (good w.classes order) order.closed

  present_of_others : (loaders : List ℕ) (s : ℕ) (place : Place) → slice_get w.places s ≡ Some place → retires_site w loaders s ≡ false
      → is_present w.classes place.class ≡ true → is_present (retired w.classes loaders) place.class ≡ true
  present_of_others loaders s place at left is =
      present_after w.classes loaders place.class
      ∙ (λ i. is i && not ((sym (ap (λ (o : Option Place). option_map_or (λ p. is_of_any w.classes loaders p.class) o false) at) ∙ left) i))

  -- a site that the event doesn't retire is as present as before
  pub still_present : (e : Event) (s : ℕ) (place : Place) → slice_get w.places s ≡ Some place → retires w e s ≡ false → is_present w.classes place.class ≡ true
      → is_present (step w e).classes place.class ≡ true
  still_present event.NewLoader s place at left is = is
  still_present (event.Define loader file) s place at left is = present_still w.classes (good w.classes order) loader file place.class is
  still_present (event.Delegate loader name to) s place at left is = is
  still_present (event.Request other) s place at left is = is
  still_present (event.NewCallSite kind ty t) s place at left is = is
  still_present (event.SetTarget c t) s place at left is = is
  still_present event.NewSwitch s place at left is = is
  still_present (event.Invalidate points) s place at left is = is
  still_present (event.Bind n c) s place at left is = is
  still_present (event.Install rows) s place at left is = is
  still_present (event.Retire loader) s place at left is = present_of_others (loader ∷ []) s place at left is
  still_present (event.RetireAll loaders) s place at left is = present_of_others loaders s place at left is
  still_present (event.Release call_sites points) s place at left is = is

-- ---- receivers

all_stay : (p : ℕ → Bool) (xs : List ℕ) → list_any p xs ≡ false → filter (λ x. not (p x)) xs ≡ xs
all_stay p [] none = refl
all_stay p (x ∷ xs) none = by_test (p x) refl none (all_stay p xs)
  where
    by_test : (b : Bool) → p x ≡ b → (b || list_any p xs) ≡ false → (list_any p xs ≡ false → filter (λ x. not (p x)) xs ≡ xs)
        → cond (not (p x)) (x ∷ filter (λ x. not (p x)) xs) (filter (λ x. not (p x)) xs) ≡ x ∷ xs
    by_test true is none rest = cc
    by_test false is none rest =
        ap (λ (b : Bool). cond (not b) (x ∷ filter (λ x. not (p x)) xs) (filter (λ x. not (p x)) xs)) is ∙ ap (λ (ys : List ℕ). x ∷ ys) (rest none)

module _ (cs : Classes) (ordered : AreOrdered cs.rows) (loaders : List ℕ) (c : ℕ) where
  -- a class with a receiver is there
  there_with_receiver : list_any (is_of_any cs loaders) (receivers cs c) ≡ true → c < length cs.rows
  there_with_receiver h =
      let one = any-filter (λ x. is_concrete cs x && is_ancestor cs c x) (is_of_any cs loaders) (numbers cs) h in
      let parts = and_parts (is_concrete cs one.item) (is_ancestor cs c one.item) one.meets in
      let le = above cs.rows ordered c ((ancestor_decides cs ordered c one.item).0 parts.1) in
      let lt = present_there cs one.item (and_parts (is_present cs one.item) _ parts.0).0 in
      omega (arith, le, lt)

  -- the receivers of a class that loses none stay
  pub receivers_stay : has_key (map key.Receivers (losing_receivers cs loaders)) (key.Receivers c) ≡ false → receivers (retired cs loaders) c ≡ receivers cs c
  receivers_stay none = receivers_left cs loaders c ∙ all_stay (is_of_any cs loaders) (receivers cs c)
      (by_test (list_any (is_of_any cs loaders) (receivers cs c)) refl)
    where
      inside : list_any (is_of_any cs loaders) (receivers cs c) ≡ true → has_key (map key.Receivers (losing_receivers cs loaders)) (key.Receivers c) ≡ true
      inside is =
          let lt = there_with_receiver is in
          any-map (λ other. same_key other (key.Receivers c)) key.Receivers (losing_receivers cs loaders)
          ∙ any-filter-at (λ k. list_any (is_of_any cs loaders) (receivers cs k)) (λ k. k == c) c (numbers cs)
          (any-range-from (λ k. k == c) 0 (length cs.rows) c (omega arith) (omega (arith, lt)) (nat_eq_equiv.refl c)) is (nat_eq_equiv.refl c)

      by_test : (b : Bool) → list_any (is_of_any cs loaders) (receivers cs c) ≡ b → b ≡ false
      by_test true is = absurd (both_ways (has_key (map key.Receivers (losing_receivers cs loaders)) (key.Receivers c)) none (inside is))
      by_test false is = refl
