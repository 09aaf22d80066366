use Rattle.std.specs.Prelude.{◌≡◌, ◌++◌, ◌∷◌, [], Bool, List, map, take}
use Rattle.std.proofs.Common.{rules, ap, sym, ◌∙◌, arith}
use Rattle.std.proofs.lemmas.List.{take_more, map-append}
use Rattle.jl_types.specs.declared.ids.Place.{Place}
use Rattle.jl_types.specs.Values.Members.{is_present}
use Rattle.jl_renewal.specs.Staying.{staying_sites}
use Rattle.jl_renewal.proofs.ListLaws.{stands_there, all_taken}
use Rattle.jl_renewal.proofs.stays.sites_that_stay.Goals as goal

pub loop-place-preserved : goal.loop-place-preserved
loop-place-preserved c =
    let places = c.args.places.now in
    let number = c.loop-place.number in
    let place : Place = c.in-Some.place.now in
    let stays : Place → Bool = λ p. is_present c.args.classes.now p.class in
    let more : c.push.new.self.items ≡ c.loop-place.stays.items ++ stays place ∷ [] = search rules in
    record {
      within = omega (arith, c.in-Some.ensures.within);
      stays =
          more
          ∙ ap (λ (flags : List Bool). flags ++ stays place ∷ []) c.loop-place.invariant.stays
          ∙ sym (map-append stays (take number places) (place ∷ []))
          ∙ ap (map stays) (ap (λ (p : Place). take number places ++ p ∷ []) (stands_there places number place (sym c.in-Some.ensures.key))
          ∙ sym (take_more places number place c.in-Some.ensures.within));
    }

pub returns : goal.returns
returns c =
    c.loop-place.invariant.stays
    ∙ ap (staying_sites c.args.classes.now) (all_taken c.args.places.now c.loop-place.number (sym c.in_default.ensures.key))
