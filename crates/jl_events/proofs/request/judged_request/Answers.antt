use Rattle.std.specs.Prelude.{None, position}
use Rattle.std.proofs.Common.{refl, sym, ap, ◌∙◌}
use Rattle.jl_types.specs.Values.World.{World}
use Rattle.jl_types.specs.Events.Verdict.{same_place}
use Rattle.jl_events.proofs.PlaceLaws.{not_some, refused_new, accepted_so, some_not_none}
use Rattle.jl_events.proofs.request.judged_request.Goals as goal

pub returns-then-is_some : goal.returns-then-is_some
returns-then-is_some c =
    let asked = c.in_ok-refusal.ensures.ok in (
      refl,
      accepted_so c.args.limits c.args.world.now c.args.place asked.0 c.get_index_of.result asked.3 asked.1
          (sym (ap (λ (w : World). position (same_place c.args.place) w.places) c.world.view_is) ∙ sym c.get_index_of.ensures.index)
          (λ none. absurd (some_not_none c.get_index_of.result (sym c.is_some.ensures ∙ c.if-is_some.true) none)),
    )

pub returns-in-Some : goal.returns-in-Some
returns-in-Some c =
    let asked = c.in_ok-refusal.ensures.ok in
    refused_new c.args.limits c.args.world.now c.args.place asked.0 c.in-Some.refusal asked.3 asked.1
    (sym (ap (λ (w : World). position (same_place c.args.place) w.places) c.world.view_is) ∙ sym c.get_index_of.ensures.index
    ∙ not_some c.get_index_of.result (sym c.is_some.ensures ∙ c.if-is_some.false))
    (sym asked.2 ∙ c.in-Some.is)

pub returns : goal.returns
returns c =
    let asked = c.in_ok-refusal.ensures.ok in (
      refl,
      accepted_so c.args.limits c.args.world.now c.args.place asked.0 None asked.3 asked.1
          (sym (ap (λ (w : World). position (same_place c.args.place) w.places) c.world.view_is) ∙ sym c.get_index_of.ensures.index
          ∙ not_some c.get_index_of.result (sym c.is_some.ensures ∙ c.if-is_some.false))
          (λ none. sym asked.2 ∙ c.in_default.is),
    )
