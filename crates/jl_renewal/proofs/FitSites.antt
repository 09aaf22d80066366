-- What holds of a world after accepted events, of which a renewal makes use, once its classes, its call sites or its switch points are
-- others, and once a place is requested or a site is bound.
use Rattle.std.specs.Prelude.{◌≡◌, ◌<◌, ◌≤◌, ◌⊎◌, ◌==◌, ℕ, zero, suc, Bool, true, false, not, List, [], ◌∷◌, ◌++◌, length, slice_get, slice_set, find, position}
use Rattle.std.specs.Prelude.{◌&&◌, nat_le, get_or, Option, Some, None, option_map, Err, IsOk, if◌then◌else◌}
use Rattle.std.specs.Bool.{then_some}
use Rattle.std.specs.List.{list_any}
use Rattle.std.specs.Option.{option_map_or}
use Rattle.std.specs.Str.{bytes_eq}
use Rattle.std.proofs.Common.{refl, ap, sym, subst, ◌∙◌, arith, inl, inr, length-append}
use Rattle.std.proofs.lemmas.Bool.{both_ways, not-false}
use Rattle.std.proofs.lemmas.Bool.Decides.{Decides-eqb}
use Rattle.std.proofs.lemmas.Cmp.{nat_eq_equiv}
use Rattle.std.proofs.lemmas.List.Quantifiers.{position-Some}
use Rattle.std.proofs.lemmas.Map.Keys.{any_passes_from_place}
use Rattle.std.proofs.lemmas.Option.{same_Some, slice_get_within, slice_get-get_or}
use Rattle.jl_types.specs.declared.limits.Limits.{Limits}
use Rattle.jl_pool.specs.declared.reference.CallSiteSpecifier.{CallSiteSpecifier}
use Rattle.jl_class.specs.declared.site.Operand.{Operand}
use Rattle.jl_class.specs.declared.site.Operand.TheVariants as operand
use Rattle.jl_class.specs.Site.{Site}
use Rattle.jl_types.specs.declared.ids.Place.{Place}
use Rattle.jl_types.specs.declared.event.Made.TheVariants as made
use Rattle.jl_types.specs.declared.refusal.CallSiteFault.TheVariants as fault
use Rattle.jl_types.specs.declared.refusal.NotLinkable.TheVariants.{ArrayReceiver, PolymorphicSignature}
use Rattle.jl_types.specs.declared.refusal.Refusal.TheVariants as refusal
use Rattle.jl_types.specs.declared.target.CallSiteKind.{CallSiteKind}
use Rattle.jl_types.specs.Values.Target.{Target}
use Rattle.jl_types.specs.Values.World.{World, Class, Classes, CallSite, Sites, unreleased, is_missing}
use Rattle.jl_types.specs.Values.Members.{is_present}
use Rattle.jl_types.specs.Linkage.Stages.{invocation_at, bound_to}
use Rattle.jl_types.specs.Linkage.Targets.{target_fault}
use Rattle.jl_types.specs.Events.Verdict.{same_place, names_array, is_polymorphic, new_place_fault, request_place, if_invoked, request_at, requested}
use Rattle.jl_types.specs.Events.Verdict.{is_constant, new_call_site_fault, set_target_fault, retargeted, type_fault, operand_fault, bind_at}
use Rattle.jl_types.specs.Events.Verdict.{bind_fault, with_classes, with_call_sites, with_switches}
use Rattle.jl_types.proofs.Firsts.{first_none, test_none}
use Rattle.jl_types.proofs.Lists.{before_end}
use Rattle.jl_types.proofs.Releasing.{unreleased_within}
use Rattle.jl_events.proofs.CallSiteLaws.{free_to_bind, no_fault}
use Rattle.jl_renewal.proofs.Fit.{IsInvoked, IsBinding, IsFit}
use Rattle.jl_renewal.proofs.FitClasses.{AreFit}
use Rattle.jl_renewal.proofs.FitParts.{at_more, once_more, none_found, none_mapped}
use Rattle.jl_renewal.proofs.FitParts.{GoesOn, StaysPoint, StaysCallSite, StayNamed, all_named, invoked_still, binding_still, taken_still}
use Rattle.jl_renewal.proofs.MovedLists.{length_set}
use Rattle.jl_renewal.proofs.ReleasedRows.{row_there, not_missing, row_more, row_before, row_set, present_set}

-- ---- one element is another

-- an element once one is put in a place is what it was or that one
pub set_at : {A : Type 0} (xs : List A) (c : ℕ) (x : A) (d : ℕ) (y : A) → slice_get (slice_set xs c x) d ≡ Some y
    → (slice_get xs d ≡ Some y) ⊎ ((c ≡ d) × (x ≡ y))
set_at [] c x d y at = cc
set_at (z ∷ xs) zero x zero y at = inr (refl, same_Some x y at)
set_at (z ∷ xs) zero x (suc d) y at = inl at
set_at (z ∷ xs) (suc c) x zero y at = inl at
set_at (z ∷ xs) (suc c) x (suc d) y at = elim (set_at xs c x d y at) [ inl h ↦ inl h | inr h ↦ inr (ap suc h.0, h.1) ]

-- call sites keep their types where one of the same type is put in the place of one
types_set : (xs : List (Option CallSite)) (c : ℕ) (old new : CallSite) → unreleased xs c ≡ Some old → new.ty ≡ old.ty → (d : ℕ) (after : CallSite)
    → unreleased (slice_set xs c (Some new)) d ≡ Some after → (site : CallSite) × (unreleased xs d ≡ Some site) × (after.ty ≡ site.ty)
types_set xs c old new is same d after at = by_place (row_set xs c (Some new) d after at)
  where
    by_place : (unreleased xs d ≡ Some after) ⊎ ((c ≡ d) × (Some new ≡ Some after))
        → (site : CallSite) × (unreleased xs d ≡ Some site) × (after.ty ≡ site.ty)
    by_place (inl before) = (after, before, refl)
    by_place (inr here) =
        (old, ap (unreleased xs) (sym here.0) ∙ is, ap (λ (site : CallSite). site.ty) (sym (same_Some new after here.1)) ∙ same)

-- and they are there still
types_still : (xs : List (Option CallSite)) (c : ℕ) (old new : CallSite) → unreleased xs c ≡ Some old → new.ty ≡ old.ty → (d : ℕ) (site : CallSite)
    → unreleased xs d ≡ Some site → (after : CallSite) × (unreleased (slice_set xs c (Some new)) d ≡ Some after) × (after.ty ≡ site.ty)
types_still xs c old new is same d site at =
    let there = row_there (slice_set xs c (Some new)) d (present_set xs c new d (not_missing xs d site at)) in
    let before = types_set xs c old new is same d there.0 there.1 in
    (there.0, there.1, before.2 ∙ ap (λ (site : CallSite). site.ty) (same_Some before.0 site (sym before.1 ∙ at)))

-- the same place, the other way round
place_turned : (p q : Place) → same_place p q ≡ same_place q p
place_turned p q = λ i. nat_eq_equiv.symm p.class q.class i && (nat_eq_equiv.symm p.method q.method i && nat_eq_equiv.symm p.pc q.pc i)

module _ (w : World) (fit : IsFit w) where
  -- ---- other classes

  pub classes_fit : AreFit w.classes
  classes_fit = record { named = fit.named; found = fit.found }

  -- they stay where they are, and those that targets name stay present
  pub with_classes_fit : (cs : Classes) → AreFit cs
      → ((c : ℕ) (row : Class) → slice_get w.classes.rows c ≡ Some row → slice_get cs.rows c ≡ Some row)
      → ((c : ℕ) (site : CallSite) → unreleased w.sites.call_sites c ≡ Some site → StayNamed w (with_classes w cs) site.target)
      → IsFit (with_classes w cs)
  with_classes_fit cs are rows stay = record {
    named = are.named;
    found = are.found;
    targets = λ c site at. taken_still w v on c site.ty site.target (stay c site at) (fit.targets c site at);
    places = λ s place at. invoked_still w v on place (fit.places s place at);
    once = fit.once;
    bindings = λ i b at. binding_still w v on b (fit.bindings i b at);
    bound_once = fit.bound_once;
  }
    where
      v : World
      v = with_classes w cs

      on : GoesOn w v
      on = record { rows = rows; places = λ s place at. at; more = omega arith; types = λ c after lt at. (after, at, refl) }

  -- ---- other call sites and switch points

  -- they keep their types unless they are released, and the targets would be taken before
  pub with_sites_fit : (sites : Sites) → length w.sites.call_sites ≤ length sites.call_sites
      → ((c : ℕ) (after : CallSite) → c < length w.sites.call_sites → unreleased sites.call_sites c ≡ Some after
      → (site : CallSite) × (unreleased w.sites.call_sites c ≡ Some site) × (after.ty ≡ site.ty))
      → ((c : ℕ) (site : CallSite) → unreleased sites.call_sites c ≡ Some site
      → (target_fault w c site.ty site.target ≡ None) × StayNamed w (record w { sites = sites }) site.target)
      → IsFit (record w { sites = sites })
  with_sites_fit sites more types targets = record {
    named = fit.named;
    found = fit.found;
    targets = λ c site at. let before = targets c site at in taken_still w v on c site.ty site.target before.1 before.0;
    places = λ s place at. invoked_still w v on place (fit.places s place at);
    once = fit.once;
    bindings = λ i b at. binding_still w v on b (fit.bindings i b at);
    bound_once = fit.bound_once;
  }
    where
      v : World
      v = record w { sites = sites }

      on : GoesOn w v
      on = record { rows = λ c row at. at; places = λ s place at. at; more = more; types = types }

  -- where none is released
  all_stay : (sites : Sites) → ((p : ℕ) → StaysPoint w (record w { sites = sites }) p) → ((d : ℕ) → StaysCallSite w (record w { sites = sites }) d)
      → (t : Target) → StayNamed w (record w { sites = sites }) t
  all_stay sites points call_sites t = all_named w (record w { sites = sites }) (λ c is. is) points call_sites t

  pub new_call_site_fit : (most : ℕ) (kind : CallSiteKind) (ty : List ℕ) (t : Target) → new_call_site_fault most w ty t ≡ None
      → IsFit (with_call_sites w (w.sites.call_sites ++ Some (record { kind = kind; ty = ty; target = t }) ∷ []))
  new_call_site_fit most kind ty t none =
      let long = length-append w.sites.call_sites (Some made ∷ []) in
      with_sites_fit (record w.sites { call_sites = more }) (omega (arith, long))
      (λ c after lt at. by_row c after lt (row_more w.sites.call_sites (Some made) c after at))
      (λ c site at. (
        by_place c site (row_more w.sites.call_sites (Some made) c site at),
        all_stay (record w.sites { call_sites = more }) (λ p there. there)
            (λ d row there. (row, row_before w.sites.call_sites (Some made) d row there, refl)) site.target,
      ))
    where
      made : CallSite
      made = record { kind = kind; ty = ty; target = t }

      more : List (Option CallSite)
      more = w.sites.call_sites ++ Some made ∷ []

      taken : target_fault w (length w.sites.call_sites) ty t ≡ None
      taken =
          (first_none (target_fault w (length w.sites.call_sites) ty t) []
          (first_none (then_some (nat_le most (length w.sites.call_sites)) fault.Full) _ none).1).0

      by_row : (c : ℕ) (after : CallSite) → c < length w.sites.call_sites
          → (unreleased w.sites.call_sites c ≡ Some after) ⊎ ((c ≡ length w.sites.call_sites) × (Some made ≡ Some after))
          → (site : CallSite) × (unreleased w.sites.call_sites c ≡ Some site) × (after.ty ≡ site.ty)
      by_row c after lt (inl at) = (after, at, refl)
      by_row c after lt (inr last) = let here = last.0 in absurd (omega (arith, lt, here))

      by_place : (c : ℕ) (site : CallSite)
          → (unreleased w.sites.call_sites c ≡ Some site) ⊎ ((c ≡ length w.sites.call_sites) × (Some made ≡ Some site))
          → target_fault w c site.ty site.target ≡ None
      by_place c site (inl at) = fit.targets c site at
      by_place c site (inr last) =
          let same = same_Some made site last.1 in (λ i. target_fault w (last.0 i) (sym same i).ty (sym same i).target) ∙ taken

  pub set_target_fit : (c : ℕ) (t : Target) → set_target_fault w c (unreleased w.sites.call_sites c) t ≡ None
      → IsFit (with_call_sites w (retargeted w.sites.call_sites c t))
  set_target_fit c t = by_site (unreleased w.sites.call_sites c) refl
    where
      with_target : (old : CallSite) → unreleased w.sites.call_sites c ≡ Some old → target_fault w c old.ty t ≡ None
          → IsFit (with_call_sites w (slice_set w.sites.call_sites c (Some (record old { target = t }))))
      with_target old is taken =
          let long = length_set w.sites.call_sites c (Some new) in
          with_sites_fit (record w.sites { call_sites = slice_set w.sites.call_sites c (Some new) }) (omega (arith, long))
          (λ d after lt at. types_set w.sites.call_sites c old new is refl d after at)
          (λ d site at. (
            by_place d site (row_set w.sites.call_sites c (Some new) d site at),
            all_stay (record w.sites { call_sites = slice_set w.sites.call_sites c (Some new) }) (λ p there. there)
                (types_still w.sites.call_sites c old new is refl) site.target,
          ))
        where
          new : CallSite
          new = record old { target = t }

          by_place : (d : ℕ) (site : CallSite) → (unreleased w.sites.call_sites d ≡ Some site) ⊎ ((c ≡ d) × (Some new ≡ Some site))
              → target_fault w d site.ty site.target ≡ None
          by_place d site (inl at) = fit.targets d site at
          by_place d site (inr here) =
              let same = same_Some new site here.1 in (λ i. target_fault w (sym here.0 i) (sym same i).ty (sym same i).target) ∙ taken

      by_kind : (old : CallSite) (b : Bool) → unreleased w.sites.call_sites c ≡ Some old
          → (if b then Some fault.Constant else target_fault w c old.ty t) ≡ None
          → IsFit (with_call_sites w (slice_set w.sites.call_sites c (Some (record old { target = t }))))
      by_kind old true is e = cc
      by_kind old false is e = with_target old is e

      by_site : (o : Option CallSite) → unreleased w.sites.call_sites c ≡ o → set_target_fault w c o t ≡ None
          → IsFit (with_call_sites w (option_map_or (λ site. slice_set w.sites.call_sites c (Some (record site { target = t }))) o w.sites.call_sites))
      by_site None is e = cc
      by_site (Some old) is e = by_kind old (is_constant old.kind) is e

  -- switch points, none of them released that wasn't
  pub with_switches_fit : (switches : List (Option Bool)) → ((p : ℕ) → is_missing w.sites.switches p ≡ false → is_missing switches p ≡ false)
      → IsFit (with_switches w switches)
  with_switches_fit switches still =
      with_sites_fit (record w.sites { switches = switches }) (omega arith) (λ c after lt at. (after, at, refl))
      (λ c site at. (
        fit.targets c site at,
        all_stay (record w.sites { switches = switches }) still (λ d row there. (row, there, refl)) site.target,
      ))

  -- ---- a place more

  module _ (limits : Limits) (place : Place) where
    -- an invocation that is new was judged
    invoked_new : IsOk (request_at limits w place) → list_any (same_place place) w.places ≡ false → IsInvoked w place
    invoked_new accepted new = by_class (is_present w.classes place.class) accepted
      where
        judged : (site : Site) → invocation_at w.classes place ≡ Some site → new_place_fault limits w site ≡ None → IsInvoked w place
        judged site at none =
            let array = first_none (then_some (names_array site.operand) (refusal.NotLinkable ArrayReceiver)) _ none in
            let polymorphic = first_none (then_some (is_polymorphic site.operand) (refusal.NotLinkable PolymorphicSignature)) _ array.1 in
            record {
              site = site;
              at = at;
              array = test_none (names_array site.operand) (refusal.NotLinkable ArrayReceiver) array.0;
              polymorphic = test_none (is_polymorphic site.operand) (refusal.NotLinkable PolymorphicSignature) polymorphic.0;
            }

        known : (s : ℕ) → position (same_place place) w.places ≡ Some s → list_any (same_place place) w.places ≡ true
        known s at =
            let found = position-Some (same_place place) w.places s place at in
            any_passes_from_place (same_place place) w.places s (get_or w.places s place) (slice_get-get_or w.places s place found.0) found.1

        by_number : (o : Option ℕ) (site : Site) → position (same_place place) w.places ≡ o → invocation_at w.classes place ≡ Some site
            → IsOk (request_place limits w o site) → IsInvoked w place
        by_number (Some s) site is at accepted = absurd (both_ways (list_any (same_place place) w.places) new (known s is))
        by_number None site is at accepted = judged site at (no_fault (new_place_fault limits w site) (made.Site (length w.places)) accepted)

        by_site : (o : Option Site) → invocation_at w.classes place ≡ o → IsOk (if_invoked limits w place o) → IsInvoked w place
        by_site None at accepted = cc
        by_site (Some site) at accepted = by_number (position (same_place place) w.places) site refl at accepted

        by_class : (b : Bool) → IsOk (if b then if_invoked limits w place (invocation_at w.classes place) else Err refusal.UnknownClass) → IsInvoked w place
        by_class true accepted = by_site (invocation_at w.classes place) refl accepted
        by_class false accepted = cc

    -- a place that is new is one more
    one_more_place : IsInvoked w place → list_any (same_place place) w.places ≡ false → IsFit (record w { places = w.places ++ place ∷ [] })
    one_more_place invoked new = record {
      named = fit.named;
      found = fit.found;
      targets = λ c site at. taken_still w v on c site.ty site.target
          (all_named w v (λ c is. is) (λ p there. there) (λ d row there. (row, there, refl)) site.target) (fit.targets c site at);
      places = λ s other at. invoked_still w v on other (by_place s other (at_more w.places place s other at));
      once = once_more (λ p q. same_place p q ≡ true) w.places place fit.once
          (λ s other at same. later s other at (place_turned place other ∙ same)) later;
      bindings = λ i b at. binding_still w v on b (fit.bindings i b at);
      bound_once = fit.bound_once;
    }
      where
        v : World
        v = record w { places = w.places ++ place ∷ [] }

        on : GoesOn w v
        on = record {
          rows = λ c row at. at;
          places = λ s other at. before_end w.places place s (slice_get_within w.places s other at) ∙ at;
          more = omega arith;
          types = λ c after lt at. (after, at, refl);
        }

        by_place : (s : ℕ) (other : Place) → (slice_get w.places s ≡ Some other) ⊎ ((s ≡ length w.places) × (place ≡ other)) → IsInvoked w other
        by_place s other (inl at) = fit.places s other at
        by_place s other (inr last) = subst (IsInvoked w) last.1 invoked

        later : (s : ℕ) (other : Place) → slice_get w.places s ≡ Some other → same_place place other ≡ true → ⊥
        later s other at same = both_ways (list_any (same_place place) w.places) new (any_passes_from_place (same_place place) w.places s other at same)

    pub request_fit : IsOk (request_at limits w place) → IsFit (record w { places = requested w.places place })
    request_fit accepted = by_test (list_any (same_place place) w.places) refl
      where
        by_test : (b : Bool) → list_any (same_place place) w.places ≡ b → IsFit (record w { places = if b then w.places else w.places ++ place ∷ [] })
        by_test true is = fit
        by_test false is = one_more_place (invoked_new accepted is) is

  -- ---- a binding more

  module _ (s c : ℕ) (none : bind_fault w s c (slice_get w.places s) ≡ None) where
    -- what is judged for a binding holds of it
    pub is_bound : IsBinding w (s, c)
    is_bound = by_place (slice_get w.places s) refl none
      where
        by_call_site : (place : Place) (site : Site) (specifier : CallSiteSpecifier (List ℕ)) (o : Option CallSite) → slice_get w.places s ≡ Some place
            → invocation_at w.classes place ≡ Some site → site.operand ≡ operand.CallSite specifier → unreleased w.sites.call_sites c ≡ o
            → type_fault specifier.ty o ≡ None → IsBinding w (s, c)
        by_call_site place site specifier None requested at dynamic there e = cc
        by_call_site place site specifier (Some row) requested at dynamic there e = record {
          place = place;
          site = site;
          specifier = specifier;
          requested = requested;
          at = at;
          dynamic = dynamic;
          within = unreleased_within w.sites.call_sites c row there;
          type = λ other other_there.
              ap (λ (one : CallSite). bytes_eq one.ty specifier.ty) (same_Some other row (sym other_there ∙ there))
              ∙ not-false (bytes_eq row.ty specifier.ty) (test_none (not (bytes_eq row.ty specifier.ty)) refusal.TypeMismatch e);
        }

        by_operand : (place : Place) (site : Site) (o : Operand (List ℕ)) → slice_get w.places s ≡ Some place → invocation_at w.classes place ≡ Some site
            → site.operand ≡ o → operand_fault w s c o ≡ None → IsBinding w (s, c)
        by_operand place site (operand.Method ref) requested at is e = cc
        by_operand place site (operand.CallSite specifier) requested at is e =
            let free = first_none (option_map refusal.AlreadyBound (bound_to w s)) _ e in
            by_call_site place site specifier (unreleased w.sites.call_sites c) requested at is refl
            (first_none (type_fault specifier.ty (unreleased w.sites.call_sites c)) [] free.1).0

        by_site : (place : Place) (o : Option Site) → slice_get w.places s ≡ Some place → invocation_at w.classes place ≡ o → bind_at w s c o ≡ None
            → IsBinding w (s, c)
        by_site place None requested at e = cc
        by_site place (Some site) requested at e = by_operand place site site.operand requested at refl e

        by_class : (place : Place) (b : Bool) → slice_get w.places s ≡ Some place
            → (if b then bind_at w s c (invocation_at w.classes place) else Some (refusal.UnknownSite s)) ≡ None → IsBinding w (s, c)
        by_class place true requested e = by_site place (invocation_at w.classes place) requested refl e
        by_class place false requested e = cc

        by_place : (o : Option Place) → slice_get w.places s ≡ o → bind_fault w s c o ≡ None → IsBinding w (s, c)
        by_place None is e = cc
        by_place (Some place) is e = by_class place (is_present w.classes place.class) is e

    -- no earlier binding is of the site
    apart : (i : ℕ) (b : ℕ × ℕ) → slice_get w.bindings i ≡ Some b → b.0 ≡ s → ⊥
    apart i b at same = both_ways (b.0 == s) (none_found (λ (b : ℕ × ℕ). b.0 == s) w.bindings unfound i b at) ((Decides-eqb b.0 s).1 same)
      where
        unfound : find (λ (b : ℕ × ℕ). b.0 == s) w.bindings ≡ None
        unfound = none_mapped (λ (b : ℕ × ℕ). b.1) (find (λ b. b.0 == s) w.bindings) (free_to_bind w s c none)

    pub bind_fit : IsFit (record w { bindings = w.bindings ++ (s, c) ∷ [] })
    bind_fit = record {
      named = fit.named;
      found = fit.found;
      targets = λ d site at. taken_still w v on d site.ty site.target
          (all_named w v (λ d is. is) (λ p there. there) (λ d row there. (row, there, refl)) site.target) (fit.targets d site at);
      places = λ n place at. invoked_still w v on place (fit.places n place at);
      once = fit.once;
      bindings = λ i b at. binding_still w v on b (by_binding i b (at_more w.bindings (s, c) i b at));
      bound_once = once_more (λ (a b : ℕ × ℕ). a.0 ≡ b.0) w.bindings (s, c) fit.bound_once apart (λ i b at same. apart i b at (sym same));
    }
      where
        v : World
        v = record w { bindings = w.bindings ++ (s, c) ∷ [] }

        on : GoesOn w v
        on = record { rows = λ d row at. at; places = λ n place at. at; more = omega arith; types = λ d after lt at. (after, at, refl) }

        by_binding : (i : ℕ) (b : ℕ × ℕ) → (slice_get w.bindings i ≡ Some b) ⊎ ((i ≡ length w.bindings) × (◌≡◌ {A = ℕ × ℕ} (s, c) b)) → IsBinding w b
        by_binding i b (inl at) = fit.bindings i b at
        by_binding i b (inr last) = subst (IsBinding w) last.1 is_bound
