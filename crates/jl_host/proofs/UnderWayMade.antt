-- A renewal stays under way as its fresh core is made.
use Rattle.std.specs.Prelude.{◌≡◌, ℕ, List, ◌++◌, map, filter_map, Some, None}
use Rattle.std.proofs.Common.{refl, sym, ap, subst, ◌∙◌, inl, inr}
use Rattle.std.proofs.lemmas.Option.{MatchOption-at_some, MatchOption-at_none}
use Rattle.jl_types.specs.declared.limits.Limits.{Limits}
use Rattle.jl_types.specs.declared.event.Reply.{Reply}
use Rattle.jl_types.specs.Events.Event.{Event}
use Rattle.jl_types.specs.Events.Limits.{AreNoFewer}
use Rattle.jl_types.specs.Events.History.{world_after}
use Rattle.jl_relink.specs.Laws.{AreAccepted}
use Rattle.jl_types.specs.declared.link.Link.{Link}
use Rattle.jl_core.specs.State.{State, empty_core, events, world_of}
use Rattle.jl_core.specs.Logs.{Entry, shown}
use Rattle.jl_renewal.specs.declared.released.Released.{Released}
use Rattle.jl_renewal.specs.Numbers.{Numbers}
use Rattle.jl_renewal.specs.Staying.{numbers_of}
use Rattle.jl_renewal.specs.Renewed.{renewed}
use Rattle.jl_renewal.specs.Renewal.{class_event, new_loaders, site_events, renewal, renewal_by, fresh_rows, IsRefilled}
use Rattle.jl_renewal.specs.Told.{told_renewal}
use Rattle.jl_renewal.specs.Adds.{Installs}
use Rattle.jl_renewal.specs.Moved.{flags_of, IsBeside, HaveSameLinks}
use Rattle.jl_renewal.proofs.LinkLaws.{same_world}
use Rattle.jl_renewal.proofs.ComeOver.{renewal_world, links_are_refilled}
use Rattle.jl_renewal.proofs.RenewalLaws.{told_are_events}
use Rattle.jl_renewal.proofs.MovedBeside.{beside_first}
use Rattle.jl_host.specs.Renewing.{Fresh, Renewing, IsMade, IsReady}
use Rattle.jl_host.specs.UnderWay.{start_of, IsGathering, IsUnderWay}
use Rattle.jl_host.proofs.UnderWayLinks.{listed_links}

-- ---- the fresh core

-- what it is told
pub told_is : (begun : State) (released : Released) (past : List Entry) → shown (world_of begun).classes.rows past ≡ begun.log
    → told_renewal (world_of begun) (numbers_of (world_of begun) released) past ≡ renewal begun released
told_is begun released past logged =
    let n = numbers_of (world_of begun) released in
    ap (λ (es : List Event). new_loaders n.loaders ++ (es ++ site_events (world_of begun) n))
    (told_are_events (world_of begun) n past
    ∙ ap (λ (log : List (Event × Reply)). filter_map (class_event (world_of begun) n) (map (λ (x : Event × Reply). x.0) log)) logged)

module _ (begun : State) (released : Released) (limits : Limits) (past : List Entry) (made : Fresh) (accepted : AreAccepted begun.limits (events begun))
    (limit : AreNoFewer begun.limits limits) (logged : shown (world_of begun).classes.rows past ≡ begun.log)
    (is_made : IsMade (start_of begun past released) limits made) where
  abbrev numbers : Numbers
  numbers = numbers_of (world_of begun) released

  between_events : events is_made.between ≡ renewal begun released
  between_events =
      is_made.refilled.adds.events
      ∙ ((λ i. told_renewal (world_of begun) (is_made.refilled.numbers i) past) ∙ told_is begun released past logged)

  its_world : world_of made.core ≡ renewed (world_of begun) released
  its_world =
      ap world_after is_made.linked.adds.events
      ∙ (same_world (events is_made.between) is_made.linked.batches
      ∙ (ap world_after between_events ∙ renewal_world begun released accepted))

  beside_made : IsBeside (flags_of (world_of begun) released) begun made.core made.numbers
  beside_made =
      beside_first begun made.core released made.numbers accepted
      (subst (AreNoFewer begun.limits) (sym (is_made.linked.adds.limit ∙ is_made.refilled.adds.limit)) limit) its_world is_made.refilled.numbers

  refilled : IsRefilled (world_of begun) past released made.numbers (empty_core limits) is_made.between
  refilled = record {
    numbers = is_made.refilled.numbers;
    limit = is_made.refilled.adds.limit;
    events = between_events
        ∙ ap (λ (log : List (Event × Reply)). renewal_by (world_of begun) numbers (map (λ (x : Event × Reply). x.0) log)) (sym logged);
    world = ap world_after between_events ∙ renewal_world begun released accepted;
  }

  links_made : HaveSameLinks begun made.core made.numbers
  links_made =
      links_are_refilled begun released accepted (empty_core limits) is_made.between made.core past made.numbers refilled
      (subst (λ (rows : List (ℕ × Link)). Installs (fresh_rows (world_of is_made.between) made.numbers rows) is_made.between made.core)
      (listed_links begun accepted) is_made.linked)

-- ---- of what there was at the begin

module _ (begun : State) (released : Released) (core : State) (old new : Renewing) (way : IsUnderWay begun released core old) where
  as_before : new ≡ old → IsUnderWay begun released core new
  as_before same = subst (λ (renewing : Renewing). IsUnderWay begun released core renewing) (sym same) way

  made_under_way : (first : IsGathering begun released core way.had (shown old.defined.classes.rows old.waiting ++ way.later) old) (made : Fresh)
      → IsMade (start_of begun first.past released) old.limits made
      → IsUnderWay begun released core (record old { start = None; fresh = Some made })
  made_under_way first made is_made = record {
    had = way.had;
    later = way.later;
    all_told = way.all_told;
    log = way.log;
    taken = way.taken;
    classes = way.classes;
    phase = inr (record {
      old = begun;
      log = first.log;
      grown = first.grown;
      start = refl;
      made = made;
      fresh = refl;
      numbers = made.numbers;
      beside = beside_made begun released old.limits first.past made first.accepted first.limit first.entries.events is_made;
      links = links_made begun released old.limits first.past made first.accepted first.limit first.entries.events is_made;
      noted = inl refl;
    });
  }

  pub ready_under_way : IsReady old new → IsUnderWay begun released core new
  ready_under_way is = elim way.phase [
    | inl first ↦
        let made = MatchOption-at_some (new ≡ old)
        (λ start. (made : Fresh) × IsMade start old.limits made × (new ≡ record old { start = None; fresh = Some made }))
        (start_of begun first.past released) first.start is in
        subst (λ (renewing : Renewing). IsUnderWay begun released core renewing) (sym made.2) (made_under_way first made.0 made.1)
    | inr second ↦
        as_before (MatchOption-at_none (new ≡ old)
        (λ start. (made : Fresh) × IsMade start old.limits made × (new ≡ record old { start = None; fresh = Some made })) second.start is)
  ]
