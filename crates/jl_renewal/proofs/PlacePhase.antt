-- The fresh core's places: those in classes that stay.
use Rattle.std.specs.Prelude.{◌≡◌, ◌<◌, ◌≤◌, ◌==◌, ◌&&◌, ℕ, zero, suc, Bool, true, false, List, [], ◌∷◌, ◌++◌, map, filter, filter_map, length, slice_get}
use Rattle.std.specs.Prelude.{Option, Some, None, option_map, Ok, Err, is_ok, position, get_or, if◌then◌else◌}
use Rattle.std.specs.Bool.{then_some}
use Rattle.std.specs.List.{list_any}
use Rattle.std.proofs.Common.{refl, sym, ap, subst, subst₂, ◌∙◌, arith}
use Rattle.std.proofs.lemmas.Bool.{and_from, or_from, both_ways, eq-eqb, eqb-true, false_from_ne_true, lt-leb}
use Rattle.std.proofs.lemmas.List.Quantifiers.{position-Some}
use Rattle.std.proofs.lemmas.Map.Keys.{any_passes_from_place}
use Rattle.std.proofs.lemmas.Option.{slice_get-get_or, slice_get_within}
use Rattle.jl_types.specs.declared.limits.Limits.{Limits}
use Rattle.jl_types.specs.declared.ids.Place.{Place}
use Rattle.jl_types.specs.declared.event.EventOf.TheVariants as event
use Rattle.jl_types.specs.declared.event.Made.TheVariants as made
use Rattle.jl_types.specs.declared.refusal.Refusal.{Refusal}
use Rattle.jl_types.specs.declared.refusal.Refusal.TheVariants.{UnknownClass, NotLinkable, SitesFull}
use Rattle.jl_types.specs.declared.refusal.NotLinkable.TheVariants.{ArrayReceiver, PolymorphicSignature}
use Rattle.jl_types.specs.Values.World.{World, Classes, Sites}
use Rattle.jl_types.specs.Values.Members.{is_present}
use Rattle.jl_types.specs.Linkage.Resolution.{first_of}
use Rattle.jl_types.specs.Events.Event.{Event}
use Rattle.jl_types.specs.Events.Verdict.{verdict, unless, same_place, new_place_fault, request_place, if_invoked}
use Rattle.jl_types.proofs.Bools.{first_test, second_test}
use Rattle.jl_renewal.specs.declared.released.Released.{Released}
use Rattle.jl_renewal.specs.Numbers.{Numbers, renumbered, staying}
use Rattle.jl_renewal.specs.Staying.{numbers_of, staying_sites}
use Rattle.jl_renewal.specs.Renewal.{request}
use Rattle.jl_renewal.specs.Renewed.{renewed, renumbered_place}
use Rattle.jl_renewal.proofs.Fit.{IsFit, IsInvoked}
use Rattle.jl_renewal.proofs.NumberLaws.{staying_filter}
use Rattle.jl_renewal.proofs.Phases.{Leads, OneStep, leads_through}
use Rattle.jl_renewal.proofs.StayLaws.{class_gone, in_middle, in_front, passing_more, passing_less, passing_before}
use Rattle.jl_renewal.proofs.FreshClasses.{class_number, class_once, fresh_present, fresh_invocation}

-- what no element passes has no place
pub position_none : {A : Type 0} (p : A → Bool) (xs : List A) (d : A) → list_any p xs ≡ false → position p xs ≡ None
position_none p xs d e = by_place (position p xs) refl
  where
    by_place : (o : Option ℕ) → position p xs ≡ o → o ≡ None
    by_place None at = refl
    by_place (Some i) at =
        let found = position-Some p xs i d at in
        absurd (both_ways (list_any p xs) e (any_passes_from_place p xs i (get_or xs i d) (slice_get-get_or xs i d found.0) found.1))

module _ (limits : Limits) (w : World) (released : Released) (sites : Sites) where
  abbrev n : Numbers
  n = numbers_of w released

  abbrev fresh : Classes
  fresh = (renewed w released).classes

  abbrev is_there : Place → Bool
  is_there place = is_present w.classes place.class

  abbrev fresh_places : List Place → List Place
  fresh_places front = map (renumbered_place n) (filter is_there front)

  -- the fresh core with its places
  abbrev with_places : List Place → World
  with_places places = record { classes = fresh; places = places; bindings = []; sites = sites }

  -- ---- no place comes twice

  same_before : (p q : Place) → is_there p ≡ true → is_there q ≡ true → same_place (renumbered_place n p) (renumbered_place n q) ≡ true
      → same_place p q ≡ true
  same_before p q p_there q_there e =
      let classes = first_test (renumbered n.classes p.class == renumbered n.classes q.class) ((p.method == q.method) && (p.pc == q.pc)) e in
      let rest = second_test (renumbered n.classes p.class == renumbered n.classes q.class) ((p.method == q.method) && (p.pc == q.pc)) e in
      and_from (p.class == q.class) ((p.method == q.method) && (p.pc == q.pc))
      (eq-eqb p.class q.class (class_once w released p.class q.class p_there q_there
      (eqb-true (renumbered n.classes p.class) (renumbered n.classes q.class) classes)))
      rest

  none_same : (x : Place) (front : List Place) → is_there x ≡ true
      → ((i : ℕ) (q : Place) → slice_get front i ≡ Some q → ¬ (same_place x q ≡ true))
      → list_any (same_place (renumbered_place n x)) (fresh_places front) ≡ false
  none_same x [] x_there apart = refl
  none_same x (q ∷ qs) x_there apart = by_test (is_there q) refl (none_same x qs x_there (λ i. apart (suc i)))
    where
      by_test : (b : Bool) → is_there q ≡ b → list_any (same_place (renumbered_place n x)) (fresh_places qs) ≡ false
          → list_any (same_place (renumbered_place n x)) (map (renumbered_place n) (if b then q ∷ filter is_there qs else filter is_there qs)) ≡ false
      by_test true e rest = or_from (same_place (renumbered_place n x) (renumbered_place n q))
          (list_any (same_place (renumbered_place n x)) (fresh_places qs))
          (false_from_ne_true (same_place (renumbered_place n x) (renumbered_place n q))
          (λ same. apart zero q refl (same_before x q x_there e same)))
          rest
      by_test false e rest = rest

  -- ---- a request

  module _ (places : List Place) (x : Place) (x_there : is_there x ≡ true) (invoked : IsInvoked w x)
      (new : list_any (same_place (renumbered_place n x)) places ≡ false) (room : length places < limits.sites) where
    no_fault : new_place_fault limits (with_places places) invoked.site ≡ None
    no_fault = λ i. first_of (
        then_some (invoked.array i) (NotLinkable ArrayReceiver)
        ∷ then_some (invoked.polymorphic i) (NotLinkable PolymorphicSignature)
        ∷ then_some (lt-leb limits.sites (length places) room i) SitesFull
        ∷ [])

    requests : verdict limits (with_places places) (event.Request (renumbered_place n x)) ≡ Ok (made.Site (length places))
    requests =
        let here = fresh_invocation w released x x_there ∙ invoked.at in
        (λ i. if fresh_present w released x.class x_there i then if_invoked limits (with_places places) (renumbered_place n x) (here i)
        else Err UnknownClass)
        ∙ ap (λ o. request_place limits (with_places places) o invoked.site)
        (position_none (same_place (renumbered_place n x)) places (renumbered_place n x) new)
        ∙ ap (λ (o : Option Refusal). unless o (made.Site (length places))) no_fault

    one_place : OneStep limits (with_places places) (Some (event.Request (renumbered_place n x))) (with_places (places ++ renumbered_place n x ∷ []))
    one_place = (
      ap is_ok requests,
      ap (λ (b : Bool). with_places (if b then places else places ++ renumbered_place n x ∷ [])) new,
    )

  -- ---- all of them

  module _ (fit : IsFit w) (few : length (staying (staying_sites w.classes w.places) w.places) ≤ limits.sites) where
    each_place : (front : List Place) (x : Place) (rest : List Place) → w.places ≡ front ++ x ∷ rest
        → OneStep limits (with_places (fresh_places front)) (request n x) (with_places (fresh_places (front ++ x ∷ [])))
    each_place front x rest e = by_test (is_there x) refl
      where
        by_test : (b : Bool) → is_there x ≡ b
            → OneStep limits (with_places (fresh_places front)) (request n x) (with_places (fresh_places (front ++ x ∷ [])))
        by_test false gone =
            subst (λ o. OneStep limits (with_places (fresh_places front)) o (with_places (fresh_places (front ++ x ∷ []))))
            (sym (ap (option_map (λ c. event.Request (record x { class = c }))) (class_gone w.classes x.class gone)))
            (ap with_places (passing_less (renumbered_place n) is_there front x gone))
        by_test true x_there =
            let at : slice_get w.places (length front) ≡ Some x = ap (λ places. slice_get places (length front)) e ∙ in_middle front x rest in
            let room = passing_before (renumbered_place n) is_there front x rest x_there in
            let all = ap length (staying_filter is_there w.places ∙ ap (filter is_there) e) in
            subst₂ (λ (o : Option Event) (places : List Place). OneStep limits (with_places (fresh_places front)) o (with_places places))
            (sym (ap (option_map (λ c. event.Request (record x { class = c }))) (class_number w released x.class x_there)))
            (sym (passing_more (renumbered_place n) is_there front x x_there))
            (one_place (fresh_places front) x x_there (fit.places (length front) x at)
            (none_same x front x_there (λ i q there same.
            let before = fit.once (length front) i x q at (ap (λ places. slice_get places i) e ∙ in_front front (x ∷ rest) i q there) same in
            let within = slice_get_within front i q there in
            omega (arith, before, within)))
            (omega (arith, room, all, few)))

    -- the places in classes that stay
    pub places_lead : Leads limits (with_places []) (filter_map (request n) w.places) (with_places (renewed w released).places)
    places_lead = subst (λ (places : List Place). Leads limits (with_places []) (filter_map (request n) w.places) (with_places places))
        (ap (map (renumbered_place n)) (sym (staying_filter is_there w.places)))
        (leads_through limits (request n) (λ front. with_places (fresh_places front)) w.places each_place)
