-- The fresh core's bindings: those of sites that stay to call sites that aren't released.
use Rattle.std.specs.Prelude.{◌≡◌, ◌==◌, ◌&&◌, ℕ, zero, suc, Bool, true, false, not, List, [], ◌∷◌, ◌++◌, map, filter, filter_map, length, slice_get}
use Rattle.std.specs.Prelude.{Option, Some, None, option_map, option_and_then, is_ok, find, if◌then◌else◌}
use Rattle.std.specs.Bool.{then_some}
use Rattle.std.specs.Option.{option_map_or}
use Rattle.std.proofs.Common.{refl, sym, ap, subst, subst₂, ◌∙◌, arith}
use Rattle.std.proofs.lemmas.Bool.{ne_eqb, not-true, not-false}
use Rattle.std.proofs.lemmas.Option.{slice_get_within}
use Rattle.jl_types.specs.declared.limits.Limits.{Limits}
use Rattle.jl_types.specs.declared.event.EventOf.TheVariants as event
use Rattle.jl_types.specs.declared.event.Made.TheVariants as made
use Rattle.jl_types.specs.declared.refusal.Refusal.{Refusal}
use Rattle.jl_types.specs.declared.refusal.Refusal.TheVariants.{UnknownSite, AlreadyBound, TypeMismatch}
use Rattle.jl_types.specs.Values.World.{World, CallSite, unreleased, is_missing}
use Rattle.jl_types.specs.Values.Members.{is_present}
use Rattle.jl_types.specs.Linkage.Resolution.{first_of}
use Rattle.jl_types.specs.Events.Event.{Event}
use Rattle.jl_types.specs.Events.Verdict.{unless, type_fault, operand_fault, bind_at, bind_fault}
use Rattle.jl_types.proofs.Bools.{first_test, second_test}
use Rattle.jl_renewal.specs.declared.released.Released.{Released}
use Rattle.jl_renewal.specs.Numbers.{Numbers, new_number, renumbered}
use Rattle.jl_renewal.specs.Staying.{numbers_of, staying_sites, staying_call_sites, is_in_staying_class}
use Rattle.jl_renewal.specs.Renewal.{binding}
use Rattle.jl_renewal.specs.Renewed.{renewed, renumbered_place, renumbered_binding, renumbered_call_site}
use Rattle.jl_renewal.proofs.Fit.{IsFit, IsBinding}
use Rattle.jl_renewal.proofs.ReleasedRows.{row_there}
use Rattle.jl_renewal.proofs.Phases.{Leads, OneStep, leads_through}
use Rattle.jl_renewal.proofs.StayLaws.{number_of, renumbered_once, renumbered_at, row_renumbered, site_stays, site_gone, bound_stays, call_site_gone}
use Rattle.jl_renewal.proofs.StayLaws.{in_middle, in_front, passing_more, passing_less}
use Rattle.jl_renewal.proofs.FreshClasses.{fresh_present, fresh_invocation}

module _ (limits : Limits) (w : World) (released : Released) where
  abbrev n : Numbers
  n = numbers_of w released

  abbrev fresh : World
  fresh = renewed w released

  abbrev is_kept : ℕ × ℕ → Bool
  is_kept b = is_in_staying_class w b.0 && not (is_missing w.sites.call_sites b.1)

  abbrev fresh_bindings : List (ℕ × ℕ) → List (ℕ × ℕ)
  fresh_bindings front = map (renumbered_binding n) (filter is_kept front)

  -- the fresh core with its bindings
  abbrev with_bindings : List (ℕ × ℕ) → World
  with_bindings bindings = record fresh { bindings = bindings }

  -- ---- no site is bound twice

  none_bound : (s : ℕ) (front : List (ℕ × ℕ)) → is_in_staying_class w s ≡ true
      → ((i : ℕ) (b : ℕ × ℕ) → slice_get front i ≡ Some b → ¬ (s ≡ b.0))
      → find (λ b. b.0 == renumbered n.sites s) (fresh_bindings front) ≡ None
  none_bound s [] stays apart = refl
  none_bound s (b ∷ bs) stays apart = by_test (is_kept b) refl (none_bound s bs stays (λ i. apart (suc i)))
    where
      other : is_kept b ≡ true → ¬ (renumbered n.sites b.0 ≡ renumbered n.sites s)
      other b_stays e =
          let kept = first_test (is_in_staying_class w b.0) _ b_stays in
          apart zero b refl (sym (renumbered_once (staying_sites w.classes w.places) b.0 s (site_stays w b.0 kept) (site_stays w s stays) e))

      by_test : (t : Bool) → is_kept b ≡ t → find (λ b. b.0 == renumbered n.sites s) (fresh_bindings bs) ≡ None
          → find (λ b. b.0 == renumbered n.sites s) (map (renumbered_binding n) (if t then b ∷ filter is_kept bs else filter is_kept bs)) ≡ None
      by_test true e rest =
          ap (λ (t : Bool). if t then Some (renumbered_binding n b) else find (λ b. b.0 == renumbered n.sites s) (fresh_bindings bs))
          (ne_eqb (renumbered n.sites b.0) (renumbered n.sites s) (other e))
          ∙ rest
      by_test false e rest = rest

  -- ---- a binding

  module _ (bindings : List (ℕ × ℕ)) (b : ℕ × ℕ) (kept : is_in_staying_class w b.0 ≡ true) (bound : IsBinding w b) (row : CallSite)
      (there : unreleased w.sites.call_sites b.1 ≡ Some row)
      (stays : slice_get (staying_call_sites w released) b.1 ≡ Some true)
      (new : find (λ a. a.0 == renumbered n.sites b.0) bindings ≡ None) where
    class_there : is_present w.classes bound.place.class ≡ true
    class_there = sym (ap (λ o. option_map_or (λ place. is_present w.classes place.class) o false) bound.requested) ∙ kept

    place_at : slice_get fresh.places (renumbered n.sites b.0) ≡ Some (renumbered_place n bound.place)
    place_at = renumbered_at (renumbered_place n) (staying_sites w.classes w.places) w.places b.0 bound.place (site_stays w b.0 kept) bound.requested

    call_site_at : unreleased fresh.sites.call_sites (renumbered n.call_sites b.1) ≡ Some (renumbered_call_site n row)
    call_site_at = row_renumbered (renumbered_call_site n) (staying_call_sites w released) w.sites.call_sites b.1 row stays there

    abbrev after : World
    after = with_bindings bindings

    no_fault : bind_fault after (renumbered n.sites b.0) (renumbered n.call_sites b.1) (slice_get after.places (renumbered n.sites b.0)) ≡ None
    no_fault =
        let here = fresh_invocation w released bound.place class_there ∙ bound.at in
        ap (bind_fault after (renumbered n.sites b.0) (renumbered n.call_sites b.1)) place_at
        ∙ (λ i. if fresh_present w released bound.place.class class_there i
        then bind_at after (renumbered n.sites b.0) (renumbered n.call_sites b.1) (here i) else Some (UnknownSite (renumbered n.sites b.0)))
        ∙ ap (operand_fault after (renumbered n.sites b.0) (renumbered n.call_sites b.1)) bound.dynamic
        ∙ (λ i. first_of (option_map AlreadyBound (option_map (λ a. a.1) (new i)) ∷ type_fault bound.specifier.ty (call_site_at i) ∷ []))
        ∙ ap (λ (t : Bool). first_of (then_some (not t) TypeMismatch ∷ [])) (bound.type row there)

    one_binding : OneStep limits after (Some (event.Bind (renumbered n.sites b.0) (renumbered n.call_sites b.1)))
        (with_bindings (bindings ++ renumbered_binding n b ∷ []))
    one_binding = (ap (λ (o : Option Refusal). is_ok (unless o made.Nothing)) no_fault, refl)

  -- ---- all of them

  module _ (fit : IsFit w) where
    each_binding : (front : List (ℕ × ℕ)) (b : ℕ × ℕ) (rest : List (ℕ × ℕ)) → w.bindings ≡ front ++ b ∷ rest
        → OneStep limits (with_bindings (fresh_bindings front)) (binding n b) (with_bindings (fresh_bindings (front ++ b ∷ [])))
    each_binding front b rest e = by_test (is_kept b) refl
      where
        -- a binding whose site or call site is gone is passed over
        no_event : (t : Bool) → is_in_staying_class w b.0 ≡ t → (t && not (is_missing w.sites.call_sites b.1)) ≡ false → binding n b ≡ None
        no_event false goes both = ap (option_and_then (λ s. option_map (event.Bind s) (new_number n.call_sites b.1))) (site_gone w b.0 goes)
        no_event true stays both =
            ap (λ (o : Option ℕ). option_and_then (λ s. option_map (event.Bind s) o) (new_number n.sites b.0))
            (call_site_gone w released b.1 (not-false (is_missing w.sites.call_sites b.1) both))
            ∙ nothing (new_number n.sites b.0)
          where
            nothing : (o : Option ℕ) → option_and_then {U = Event} (λ (s : ℕ). option_map (event.Bind s) None) o ≡ None
            nothing None = refl
            nothing (Some s) = refl

        by_test : (t : Bool) → is_kept b ≡ t
            → OneStep limits (with_bindings (fresh_bindings front)) (binding n b) (with_bindings (fresh_bindings (front ++ b ∷ [])))
        by_test false gone =
            subst (λ o. OneStep limits (with_bindings (fresh_bindings front)) o (with_bindings (fresh_bindings (front ++ b ∷ []))))
            (sym (no_event (is_in_staying_class w b.0) refl gone))
            (ap with_bindings (passing_less (renumbered_binding n) is_kept front b gone))
        by_test true both =
            let kept = first_test (is_in_staying_class w b.0) _ both in
            let there = not-true (is_missing w.sites.call_sites b.1) (second_test (is_in_staying_class w b.0) _ both) in
            let row = row_there w.sites.call_sites b.1 there in
            let at : slice_get w.bindings (length front) ≡ Some b = ap (λ bindings. slice_get bindings (length front)) e ∙ in_middle front b rest in
            let bound = fit.bindings (length front) b at in
            let stays = bound_stays w released (length front) b at there kept in
            let site_number = number_of (staying_sites w.classes w.places) b.0 (site_stays w b.0 kept) in
            let call_site_number = number_of (staying_call_sites w released) b.1 stays in
            subst₂ (λ (o : Option Event) (bindings : List (ℕ × ℕ)). OneStep limits (with_bindings (fresh_bindings front)) o (with_bindings bindings))
            (λ i. option_and_then (λ s. option_map (event.Bind s) (sym call_site_number i)) (sym site_number i))
            (sym (passing_more (renumbered_binding n) is_kept front b both))
            (one_binding (fresh_bindings front) b kept bound row.0 row.1 stays
            (none_bound b.0 front kept (λ i a there same.
            let before = fit.bound_once (length front) i b a at (ap (λ bindings. slice_get bindings i) e ∙ in_front front (b ∷ rest) i a there) same in
            let within = slice_get_within front i a there in
            omega (arith, before, within))))

    -- the bindings of sites that stay to call sites that aren't released
    pub bindings_lead : Leads limits (with_bindings []) (filter_map (binding n) w.bindings) fresh
    bindings_lead = leads_through limits (binding n) (λ front. with_bindings (fresh_bindings front)) w.bindings each_binding
