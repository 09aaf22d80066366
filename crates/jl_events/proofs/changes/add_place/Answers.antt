use Rattle.std.specs.Prelude.{◌≡◌, ◌++◌, ◌∷◌, [], None, Some, Ok, List, position, if◌then◌else◌}
use Rattle.std.proofs.Common.{ap, sym, subst, ◌∙◌, Bool}
use Rattle.jl_types.specs.declared.ids.Place.{Place}
use Rattle.jl_types.specs.Values.World.{World}
use Rattle.jl_types.specs.Events.Verdict.{requested, same_place}
use Rattle.jl_types.specs.declared.event.Made.TheVariants as made
use Rattle.jl_places.proofs.PlaceLaws.{some_among, none_among}
use Rattle.jl_select.specs.Constancy.{IsConstant}
use Rattle.jl_select.proofs.Constancy.{constant_itself}
use Rattle.jl_events.proofs.PlaceLaws.{known_so, new_so}
use Rattle.jl_events.proofs.changes.add_place.Goals as goal

pub returns-in-Some : goal.returns-in-Some
returns-in-Some c =
    let w = c.args.world.now in
    let at : position (same_place c.args.place.now) w.places ≡ Some c.in-Some.site =
    sym (ap (λ (v : World). position (same_place c.args.place.now) v.places) c.world.view_is) ∙ sym c.in-Some.ensures.index in
    record {
      made_is = λ m ok. known_so m w c.args.place.now c.in-Some.site at ok ∙ ap (λ n. Ok (made.Site n)) (sym c.new.ensures);
      step =
          ap (λ (places : List Place). record w { places = places })
          (sym (ap (λ (b : Bool). if b then w.places else w.places ++ c.args.place.now ∷ [])
          (some_among (same_place c.args.place.now) w.places c.in-Some.site at)));
      constant = constant_itself w.classes;
    }

pub returns : goal.returns
returns c =
    let w = c.args.world.now in
    let inside = c.world.inside in
    let none : position (same_place c.args.place.now) inside.places ≡ None =
    sym c.get_index_of.ensures.index ∙ c.in_default.is in
    let last : c.push.new.self ≡ requested inside.places c.args.place.now =
    c.in_ok-push.ensures.ok
    ∙ sym (ap (λ (b : Bool). if b then inside.places else inside.places ++ c.args.place.now ∷ [])
    (none_among (same_place c.args.place.now) inside.places none)) in
    record {
      made_is = λ m ok.
          new_so m w c.args.place.now (sym (ap (λ (v : World). position (same_place c.args.place.now) v.places) c.world.view_is) ∙ none) ok
          ∙ ap (λ n. Ok (made.Site n)) (sym (c.new-site.ensures ∙ c.site_count.ensures));
      step =
          (λ i. record { classes = inside.classes; places = last i; bindings = inside.bindings.entries; sites = inside.sites })
          ∙ ap (λ (v : World). record v { places = requested v.places c.args.place.now }) c.world.view_is;
      constant = subst (λ (v : World). IsConstant v.classes inside.classes) c.world.view_is (constant_itself inside.classes);
    }
