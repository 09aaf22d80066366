-- An accepted event once more: what it needs.
use Rattle.std.specs.Prelude.{◌≡◌, ℕ, slice_get, Option, Some, None, option_map, IsOk}
use Rattle.std.proofs.Common.{ap, sym, subst, ◌∙◌}
use Rattle.std.proofs.lemmas.Option.{same_Some}
use Rattle.jl_types.specs.Events.Event.{Event}
use Rattle.jl_types.specs.declared.event.EventOf.TheVariants as event
use Rattle.jl_types.specs.declared.event.Made.TheVariants as made
use Rattle.jl_types.specs.declared.refusal.Refusal.TheVariants.{Define}
use Rattle.jl_types.specs.Values.World.{Class, World}
use Rattle.jl_types.specs.Events.Definitions.{define_fault}
use Rattle.jl_types.specs.Events.Verdict.{verdict, step}
use Rattle.jl_hierarchy.specs.Constancy as constancy
use Rattle.jl_events.specs.Accepted.{Accepted, event_of}
use Rattle.jl_events.specs.Changes.{IsAcceptable, IsNext}
use Rattle.jl_events.proofs.CallSiteLaws.{no_fault, none_of}

-- the event that is told is acceptable, and leads to the world ahead
module _ (old ahead : World) (told : Accepted) (next : IsNext old ahead told) (e : Event) (tells : event_of ahead.classes.rows told ≡ Some e) where
  same : next.event ≡ e
  same = same_Some next.event e (sym next.tells ∙ tells)

  pub acceptable : IsAcceptable old e
  acceptable = subst (IsAcceptable old) same next.accepted

  pub led : ahead ≡ step old e
  led = next.step ∙ ap (step old) same

pub next_class : (old ahead : World) (loader c : ℕ) → IsNext old ahead (event.Define loader c) → constancy.IsNext old.classes ahead.classes
next_class old ahead loader c next = by_row (slice_get ahead.classes.rows c) next.tells
  where
    by_row : (o : Option Class) → option_map (λ (row : Class). event.Define loader row.file) o ≡ Some next.event → constancy.IsNext old.classes ahead.classes
    by_row None e = cc
    by_row (Some row) e =
        let same : event.Define loader row.file ≡ next.event = same_Some (event.Define loader row.file) next.event e in
        let free = subst (λ (x : Event). IsOk (verdict next.accepted.limits old x)) (sym same) next.accepted.accepted in
        let most = next.accepted.limits.classes in
        let fault = define_fault most old.classes loader row.file in (
          loader,
          row.file,
          record { most_classes = most; accepted = none_of Define fault (no_fault (option_map Define fault) (made.Class _) free) },
          ap (λ (w : World). w.classes) (next.step ∙ ap (step old) (sym same)),
        )
