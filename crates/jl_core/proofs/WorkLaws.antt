-- How many evaluations an event may take, by the index and by the events.
use Rattle.std.specs.Prelude.{◌≡◌, ◌≤◌, ◌+◌, ℕ, not, List, [], ◌∷◌, ◌++◌, filter, sum_by, length, Option}
use Rattle.std.proofs.Common.{refl, ap, sym, ◌∙◌, arith, append-nil, append_assoc}
use Rattle.std.proofs.lemmas.List.{map-append}
use Rattle.jl_types.specs.declared.link.Link.{Link}
use Rattle.jl_types.specs.Events.Event.{Event}
use Rattle.jl_types.specs.declared.event.EventOf.TheVariants as event
use Rattle.jl_types.specs.declared.event.Reply.{Reply}
use Rattle.jl_types.specs.Values.World.{World}
use Rattle.jl_types.specs.Events.Retirement.{retires_site}
use Rattle.jl_types.specs.Events.Verdict.{step}
use Rattle.jl_types.specs.Events.History.{world_after, installed}
use Rattle.jl_types.specs.Events.Footprints.{bound, keys, most_for, touched}
use Rattle.jl_deps.specs.declared.form.Rests.{Rests}
use Rattle.jl_deps.specs.Indexes.{AreRising, IsIndex, touched_by, rests_if}
use Rattle.jl_deps.proofs.BoundLaws.{touched_are_bounded}
use Rattle.jl_events.specs.Judging.{most_to_judge}
use Rattle.jl_core.specs.State.{State, events, IsAccepted}
use Rattle.jl_core.specs.ForProofs.Steps.{most_left, most_to_settle}
use Rattle.jl_core.proofs.StepLaws.{none_touched}
use Rattle.jl_core.specs.WorkBounds.{most_after, most_of_last}

-- one event more
last_more : (before h : List Event) (e : Event) → most_after before (h ++ e ∷ []) ≡ bound (before ++ h) e
last_more before [] e = ap (λ (xs : List Event). bound xs e) (sym (append-nil before))
last_more before (x ∷ []) e = refl
last_more before (x ∷ y ∷ h) e =
    last_more (before ++ x ∷ []) (y ∷ h) e ∙ ap (λ (xs : List Event). bound xs e) (append_assoc before (x ∷ []) (y ∷ h))

pub most_of_more : (h : List Event) (e : Event) → most_of_last (h ++ e ∷ []) ≡ bound h e
most_of_more h e = last_more [] h e

-- what the index says is what the events say
module _ (h : List Event) (w : World) (links : ℕ → Option Link) (index : List (ℕ × Rests)) (rising : AreRising index)
    (is_world : w ≡ world_after h) (are_links : (s : ℕ) → links s ≡ installed h s) (indexed : IsIndex w links index) where
  as_index : IsIndex (world_after h) (installed h) index
  as_index s =
      indexed s ∙ (λ i. rests_if (is_world i) s (are_links s i))

  touched_so : (e : Event) → length (touched_by index (keys w e)) ≡ length (touched h e)
  touched_so e =
      ap (λ (v : World). length (touched_by index (keys v e))) is_world ∙ ap (λ (ts : List ℕ). length ts) (touched_are_bounded h e index rising as_index)

  abbrev IsBounded : Event → Type 0
  IsBounded e = most_to_judge w e + most_to_settle w index e ≤ bound h e

  by_touched : (e : Event) → length (touched_by index (keys w e)) ≡ length (touched h e) → 0 + length (touched_by index (keys w e)) ≤ length (touched h e)
  by_touched e same = omega arith

  retirement_so : (e : Event) (loaders : List ℕ) → most_left w index e loaders
      ≡ sum_by (most_for (step (world_after h) e)) (filter (λ s. not (retires_site (world_after h) loaders s)) (touched h e))
  retirement_so e loaders =
      ap (λ (v : World). most_left v index e loaders) is_world
      ∙ ap (λ (ts : List ℕ). sum_by (most_for (step (world_after h) e)) (filter (λ s. not (retires_site (world_after h) loaders s)) ts))
      (touched_are_bounded h e index rising as_index)

  as_much : (a b : ℕ) → a ≡ b → 0 + a ≤ b
  as_much a b same = omega arith

  -- what it takes to judge the event and to settle it is bounded
  pub are_bounded : (e : Event) → IsBounded e
  are_bounded event.NewLoader = by_touched event.NewLoader (touched_so event.NewLoader)
  are_bounded (event.Define loader file) = by_touched (event.Define loader file) (touched_so (event.Define loader file))
  are_bounded (event.Delegate loader name to) = by_touched (event.Delegate loader name to) (touched_so (event.Delegate loader name to))
  are_bounded (event.Request place) = by_touched (event.Request place) (touched_so (event.Request place))
  are_bounded (event.NewCallSite kind ty target) = by_touched (event.NewCallSite kind ty target) (touched_so (event.NewCallSite kind ty target))
  are_bounded (event.SetTarget c target) = by_touched (event.SetTarget c target) (touched_so (event.SetTarget c target))
  are_bounded event.NewSwitch = by_touched event.NewSwitch (touched_so event.NewSwitch)
  are_bounded (event.Invalidate points) = by_touched (event.Invalidate points) (touched_so (event.Invalidate points))
  are_bounded (event.Bind s c) = by_touched (event.Bind s c) (touched_so (event.Bind s c))
  are_bounded (event.Install rows) =
      let none : length (touched_by index []) ≡ 0 = ap (λ (ts : List ℕ). length ts) (none_touched index) in
      let same = ap (λ (v : World). most_to_judge v (event.Install rows)) is_world in
      omega arith
  are_bounded (event.Retire loader) =
      as_much (most_to_settle w index (event.Retire loader)) (bound h (event.Retire loader)) (retirement_so (event.Retire loader) (loader ∷ []))
  are_bounded (event.RetireAll loaders) =
      as_much (most_to_settle w index (event.RetireAll loaders)) (bound h (event.RetireAll loaders)) (retirement_so (event.RetireAll loaders) loaders)
  are_bounded (event.Release call_sites points) = by_touched (event.Release call_sites points) (touched_so (event.Release call_sites points))

-- what it takes to judge an event is no more than it may take
at_least_none : (n : ℕ) → 0 ≤ n
at_least_none n = omega arith

no_more : (a b : ℕ) → a ≡ b → a ≤ b
no_more a b same = omega arith

pub judged_in_bound : (h : List Event) (e : Event) → most_to_judge (world_after h) e ≤ bound h e
judged_in_bound h event.NewLoader = at_least_none (bound h event.NewLoader)
judged_in_bound h (event.Define loader file) = at_least_none (bound h (event.Define loader file))
judged_in_bound h (event.Delegate loader name to) = at_least_none (bound h (event.Delegate loader name to))
judged_in_bound h (event.Request place) = at_least_none (bound h (event.Request place))
judged_in_bound h (event.NewCallSite kind ty target) = at_least_none (bound h (event.NewCallSite kind ty target))
judged_in_bound h (event.SetTarget c target) = at_least_none (bound h (event.SetTarget c target))
judged_in_bound h event.NewSwitch = at_least_none (bound h event.NewSwitch)
judged_in_bound h (event.Invalidate points) = at_least_none (bound h (event.Invalidate points))
judged_in_bound h (event.Bind s c) = at_least_none (bound h (event.Bind s c))
judged_in_bound h (event.Install rows) = no_more (most_to_judge (world_after h) (event.Install rows)) (bound h (event.Install rows)) refl
judged_in_bound h (event.Retire loader) = at_least_none (bound h (event.Retire loader))
judged_in_bound h (event.RetireAll loaders) = at_least_none (bound h (event.RetireAll loaders))
judged_in_bound h (event.Release call_sites points) = at_least_none (bound h (event.Release call_sites points))

-- of the events that led to a core
pub most_of_accepted : (old new : State) (e : Event) (reply : Reply) → IsAccepted old new e reply → most_of_last (events new) ≡ bound (events old) e
most_of_accepted old new e reply led =
    ap most_of_last (ap events led.logged ∙ map-append (λ (p : Event × Reply). p.0) old.log ((e, reply) ∷ [])) ∙ most_of_more (events old) e
