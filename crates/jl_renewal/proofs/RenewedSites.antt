-- The places, bindings and call sites that stay at a renewal are there under new numbers.
use Rattle.std.specs.Prelude.{◌≡◌, ◌==◌, ◌&&◌, ℕ, zero, suc, Bool, true, false, not, List, [], ◌∷◌, map, filter, find, slice_get}
use Rattle.std.specs.Prelude.{Option, Some, None, option_map, option_and_then, if◌then◌else◌}
use Rattle.std.specs.Option.{option_map_or}
use Rattle.std.proofs.Common.{refl, sym, ap, ◌∙◌, arith}
use Rattle.std.proofs.lemmas.Bool.{and_from, both_ways, not-true}
use Rattle.std.proofs.lemmas.Bool.Decides.{Decides-eqb}
use Rattle.std.proofs.lemmas.Option.{same_Some}
use Rattle.jl_types.specs.declared.ids.Place.{Place}
use Rattle.jl_types.specs.Values.World.{World, is_missing}
use Rattle.jl_types.specs.Values.Members.{is_present}
use Rattle.jl_types.specs.Linkage.Targets.{is_valid, method_of}
use Rattle.jl_types.proofs.Bools.{first_test, second_test}
use Rattle.jl_renewal.specs.declared.released.Released.{Released}
use Rattle.jl_renewal.specs.Numbers.{Numbers, renumbered}
use Rattle.jl_renewal.specs.Staying.{numbers_of, staying_sites, staying_call_sites, staying_switches, is_in_staying_class, has_lost_call_site}
use Rattle.jl_renewal.specs.Renewed.{renewed, renumbered_place, renumbered_binding, renumbered_call_site}
use Rattle.jl_renewal.proofs.ClassSteps.{number_same}
use Rattle.jl_renewal.proofs.NumberLaws.{renumbered_is, before_rises}
use Rattle.jl_renewal.proofs.ReleasedRows.{row_there}
use Rattle.jl_renewal.proofs.StayLaws.{renumbered_at, row_renumbered, row_staying, site_stays, switch_there, bound_stays, invoked_stays, guard_stays}
use Rattle.jl_renewal.proofs.StageLaws.{is_found}
use Rattle.jl_renewal.proofs.Fit.{IsFit}
use Rattle.jl_renewal.proofs.Alike.{AreAlike}
use Rattle.jl_renewal.proofs.AlikeSites.{SitesAlike}

-- the flag of this number is set
abbrev pub is_set : List Bool → ℕ → Bool
is_set flags c = option_map_or (λ (b : Bool). b) (slice_get flags c) false

is_flag : (flags : List Bool) (c : ℕ) → is_set flags c ≡ true → slice_get flags c ≡ Some true
is_flag flags c = by_flag (slice_get flags c)
  where
    by_flag : (o : Option Bool) → option_map_or (λ (b : Bool). b) o false ≡ true → o ≡ Some true
    by_flag None e = cc
    by_flag (Some b) e = ap Some e

-- each binding of a site that has lost its call site is to that
module _ (w : World) (fit : IsFit w) (s : ℕ) (lost : has_lost_call_site w s ≡ true) where
  pub lost_there : (i : ℕ) (b : ℕ × ℕ) → slice_get w.bindings i ≡ Some b → b.0 ≡ s → is_missing w.sites.call_sites b.1 ≡ true
  lost_there i b at is = by_found (find (λ a. a.0 == s) w.bindings) refl lost
    where
      by_found : (o : Option (ℕ × ℕ)) → find (λ a. a.0 == s) w.bindings ≡ o
          → option_map_or (is_missing w.sites.call_sites) (option_map (λ b. b.1) o) false ≡ true → is_missing w.sites.call_sites b.1 ≡ true
      by_found None found e = cc
      by_found (Some a) found e =
          let first = is_found (λ a. a.0 == s) w.bindings a found in
          let one = fit.bound_once i first.place b a at first.at (is ∙ sym ((Decides-eqb a.0 s).0 first.passes)) in
          ap (λ (c : ℕ × ℕ). is_missing w.sites.call_sites c.1) (same_Some b a (sym at ∙ (ap (slice_get w.bindings) one ∙ first.at))) ∙ e

module _ (w : World) (released : Released) (fit : IsFit w) (alike : AreAlike (numbers_of w released) w.classes (renewed w released).classes) where
  abbrev n : Numbers
  n = numbers_of w released

  abbrev v : World
  v = renewed w released

  abbrev is_kept : ℕ × ℕ → Bool
  is_kept b = is_in_staying_class w b.0 && not (is_missing w.sites.call_sites b.1)

  module _ (s : ℕ) (kept : is_in_staying_class w s ≡ true) where
    -- a binding of another site is one of another site
    other_site : (b : ℕ × ℕ) → is_kept b ≡ true → (renumbered n.sites b.0 == renumbered n.sites s) ≡ (b.0 == s)
    other_site b is =
        number_same (staying_sites w.classes w.places) b.0 s (site_stays w b.0 (first_test (is_in_staying_class w b.0) _ is)) (site_stays w s kept)

    -- the binding of a site that isn't gone is the one that it had
    binding_same : (bs : List (ℕ × ℕ))
        → option_map_or (is_missing w.sites.call_sites) (option_map (λ b. b.1) (find (λ b. b.0 == s) bs)) false ≡ false
        → find (λ b. b.0 == renumbered n.sites s) (map (renumbered_binding n) (filter is_kept bs))
        ≡ option_map (renumbered_binding n) (find (λ b. b.0 == s) bs)
    binding_same [] there = refl
    binding_same (b ∷ bs) there = by_site (b.0 == s) refl there (binding_same bs)
      where
        rest : Option (ℕ × ℕ)
        rest = find (λ a. a.0 == s) bs

        found : List (ℕ × ℕ) → Option (ℕ × ℕ)
        found left = find (λ a. a.0 == renumbered n.sites s) (map (renumbered_binding n) left)

        by_kept : (t : Bool) → is_kept b ≡ t → (b.0 == s) ≡ false → found (filter is_kept bs) ≡ option_map (renumbered_binding n) rest
            → found (if t then b ∷ filter is_kept bs else filter is_kept bs) ≡ option_map (renumbered_binding n) rest
        by_kept true e is same =
            ap (λ (x : Bool). if x then Some (renumbered_binding n b) else found (filter is_kept bs)) (other_site b e ∙ is) ∙ same
        by_kept false e is same = same

        by_site : (t : Bool) → (b.0 == s) ≡ t
            → option_map_or (is_missing w.sites.call_sites) (option_map (λ b. b.1) (if t then Some b else rest)) false ≡ false
            → (option_map_or (is_missing w.sites.call_sites) (option_map (λ b. b.1) rest) false ≡ false
            → found (filter is_kept bs) ≡ option_map (renumbered_binding n) rest)
            → found (if is_kept b then b ∷ filter is_kept bs else filter is_kept bs) ≡ option_map (renumbered_binding n) (if t then Some b else rest)
        by_site true is there same =
            let stays = and_from (is_in_staying_class w b.0) _ (ap (is_in_staying_class w) ((Decides-eqb b.0 s).0 is) ∙ kept) (ap not there) in
            ap (λ (t : Bool). found (if t then b ∷ filter is_kept bs else filter is_kept bs)) stays
            ∙ ap (λ (x : Bool). if x then Some (renumbered_binding n b) else found (filter is_kept bs)) (other_site b stays ∙ is)
        by_site false is there same = by_kept (is_kept b) refl is (same there)

    -- and one that has lost its call site has none
    none_kept : (bs : List (ℕ × ℕ)) → ((i : ℕ) (b : ℕ × ℕ) → slice_get bs i ≡ Some b → b.0 ≡ s → is_missing w.sites.call_sites b.1 ≡ true)
        → find (λ b. b.0 == renumbered n.sites s) (map (renumbered_binding n) (filter is_kept bs)) ≡ None
    none_kept [] gone = refl
    none_kept (b ∷ bs) gone = by_kept (is_kept b) refl (none_kept bs (λ i. gone (suc i)))
      where
        found : List (ℕ × ℕ) → Option (ℕ × ℕ)
        found left = find (λ a. a.0 == renumbered n.sites s) (map (renumbered_binding n) left)

        other : is_kept b ≡ true → (t : Bool) → (b.0 == s) ≡ t → t ≡ false
        other e false is = refl
        other e true is =
            absurd (both_ways (is_missing w.sites.call_sites b.1) (not-true (is_missing w.sites.call_sites b.1)
            (second_test (is_in_staying_class w b.0) _ e)) (gone zero b refl ((Decides-eqb b.0 s).0 is)))

        by_kept : (t : Bool) → is_kept b ≡ t → found (filter is_kept bs) ≡ None
            → found (if t then b ∷ filter is_kept bs else filter is_kept bs) ≡ None
        by_kept true e rest =
            ap (λ (x : Bool). if x then Some (renumbered_binding n b) else found (filter is_kept bs)) (other_site b e ∙ other e (b.0 == s) refl) ∙ rest
        by_kept false e rest = rest

  abbrev stays : List Bool
  stays = staying_call_sites w released

  -- a switch point that stays is as valid as it was
  valid_same : (p : ℕ) → slice_get (staying_switches w released) p ≡ Some true
      → is_valid v.sites (renumbered n.switches p) ≡ is_valid w.sites p
  valid_same p p_stays =
      let here = row_there w.sites.switches p (switch_there w released p p_stays) in
      ap (λ (o : Option Bool). option_map_or (λ valid. valid) o false)
      (row_staying (staying_switches w released) w.sites.switches p here.0 p_stays here.1 ∙ sym here.1)

  set : (c : ℕ) → slice_get stays c ≡ Some true → is_set stays c ≡ true
  set c e = ap (λ (o : Option Bool). option_map_or (λ (b : Bool). b) o false) e

  pub sites_alike : SitesAlike (numbers_of w released) w (renewed w released) (is_set (staying_call_sites w released))
  sites_alike = record {
    fit = fit;
    alike = alike;
    places = λ s place at there.
        renumbered_at (renumbered_place n) (staying_sites w.classes w.places) w.places s place
        (site_stays w s (ap (λ (o : Option Place). option_map_or (λ place. is_present w.classes place.class) o false) at ∙ there)) at;
    bindings = λ s alive.
        binding_same s (first_test (is_in_staying_class w s) _ alive) w.bindings
        (not-true (has_lost_call_site w s) (second_test (is_in_staying_class w s) _ alive));
    lost = λ s kept lost.
        ap (λ (o : Option (ℕ × ℕ)). option_and_then (method_of v.sites) (option_map (λ b. b.1) o))
        (none_kept s kept w.bindings (λ i b at is. lost_there w fit s lost i b at is));
    bound = λ i b at there kept. set b.1 (bound_stays w released i b at there kept);
    rows = λ c site c_stays there. row_renumbered (renumbered_call_site n) stays w.sites.call_sites c site (is_flag stays c c_stays) there;
    order = λ d c d_stays c_stays lt within.
        let rises = before_rises stays d c (is_flag stays d d_stays) lt in
        let d_is = renumbered_is stays d (is_flag stays d d_stays) in
        let c_is = renumbered_is stays c (is_flag stays c c_stays) in
        omega (arith, rises, d_is, c_is);
    invoked = λ c d site there c_stays lt present h. set d (invoked_stays w released c d site there (is_flag stays c c_stays) lt present h);
    valid = λ c p site there c_stays present h. valid_same p (guard_stays w released c p site there (is_flag stays c c_stays) present h);
  }
