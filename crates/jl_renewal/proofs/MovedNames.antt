-- What stays names what stays, whatever is carried over.
use Rattle.std.specs.Prelude.{◌≡◌, ◌⊎◌, ℕ, ◌<◌, ◌==◌, ◌||◌, not, nat_le, nat_lt, true, false, List, [], ◌∷◌, ◌++◌, length}
use Rattle.std.specs.Prelude.{slice_get, slice_set, Option, Some, None, option_map, option_and_then, is_some}
use Rattle.std.specs.Bool.{then_some}
use Rattle.std.specs.Option.{option_map_or}
use Rattle.std.proofs.Common.{refl, sym, ap, ◌∙◌, arith, inl, inr}
use Rattle.std.proofs.lemmas.Bool.{or_cases, or_left, or_right, leb-false, not-false}
use Rattle.std.proofs.lemmas.Bool.Decides.{Decides-eqb}
use Rattle.std.proofs.lemmas.Cmp.{nat_eq_equiv}
use Rattle.std.proofs.lemmas.Option.{same_Some, slice_get-map}
use Rattle.jl_types.specs.declared.ids.Place.{Place}
use Rattle.jl_types.specs.declared.event.EventOf.TheVariants as event
use Rattle.jl_types.specs.declared.refusal.CallSiteFault.TheVariants.{UnknownCallSite, UnknownMethod, UnknownSwitch, TooDeep, InvokerOrder}
use Rattle.jl_types.specs.Values.Target.{Target, Method, Guard, Invoker, depth}
use Rattle.jl_types.specs.Values.World.{World, Sites, CallSite, unreleased, is_missing}
use Rattle.jl_types.specs.Values.Members.{is_present}
use Rattle.jl_types.specs.Linkage.Targets.{parts, part_fault, may_be_named}
use Rattle.jl_types.specs.Events.Event.{Event}
use Rattle.jl_types.specs.Events.Release.{released_from}
use Rattle.jl_types.specs.Events.Verdict.{step}
use Rattle.jl_types.proofs.Bools.{first_test}
use Rattle.jl_types.proofs.Firsts.{first_none, test_none}
use Rattle.jl_types.proofs.Lists.{element_at}
use Rattle.jl_types.proofs.Releasing.{unreleased_within}
use Rattle.jl_renewal.specs.declared.released.Released.{Released}
use Rattle.jl_renewal.specs.Carries.{guarded}
use Rattle.jl_renewal.specs.Staying.{invokes, guards_by}
use Rattle.jl_renewal.specs.Moved.{Flags, flags_of, Rests, Names, moved, target_there, event_there}
use Rattle.jl_renewal.proofs.Fit.{IsFit}
use Rattle.jl_renewal.proofs.FitParts.{at_more}
use Rattle.jl_renewal.proofs.ReleasedRows.{row_there, not_missing, row_more, row_set, row_left}
use Rattle.jl_renewal.proofs.MovedLists.{later_stays}
use Rattle.jl_renewal.proofs.ClassLaws.{class_stays}
use Rattle.jl_renewal.proofs.StayLaws.{bound_stays, invoked_stays, guard_stays, call_sites_length}
use Rattle.jl_renewal.proofs.MovedTargets.{inv_map, inv_then}
use Rattle.jl_renewal.proofs.MovedFirst.{moved_some}

-- ---- a target whose parts are all there

pub some_mapped : {A B : Type 0} (f : A → B) (o : Option A) → is_some o ≡ true → is_some (option_map f o) ≡ true
some_mapped f None e = cc
some_mapped f (Some a) e = refl

some_guarded : (o : Option ℕ) (x y : Option Target) → is_some o ≡ true → is_some x ≡ true → is_some y ≡ true
    → is_some (option_and_then (λ q. guarded q x y) o) ≡ true
some_guarded None x y eo ex ey = cc
some_guarded (Some q) None y eo ex ey = cc
some_guarded (Some q) (Some a) None eo ex ey = cc
some_guarded (Some q) (Some a) (Some b) eo ex ey = refl

pub guarded_some : (o : Option ℕ) (x y : Option Target) → is_some (option_and_then (λ q. guarded q x y) o) ≡ true
    → (is_some o ≡ true) × (is_some x ≡ true) × (is_some y ≡ true)
guarded_some None x y e = cc
guarded_some (Some q) None y e = cc
guarded_some (Some q) (Some a) None e = cc
guarded_some (Some q) (Some a) (Some b) e = (refl, refl, refl)

pub mapped_some : {A B : Type 0} (f : A → B) (o : Option A) → is_some (option_map f o) ≡ true → is_some o ≡ true
mapped_some f None e = cc
mapped_some f (Some a) e = refl

-- what it invokes and guards by stays
pub invoked_there : (k : Flags) (t : Target) (d : ℕ) → is_some (target_there k t) ≡ true → invokes d t ≡ true → is_some (moved k.call_sites d) ≡ true
invoked_there k (Method m) d e h = cc
invoked_there k (Guard p first fallback) d e h =
    let parts = guarded_some (moved k.switches p) (target_there k first) (target_there k fallback) e in
    elim (or_cases (invokes d first) (invokes d fallback) h) [
      | inl left ↦ invoked_there k first d parts.1 left
      | inr right ↦ invoked_there k fallback d parts.2 right
    ]
invoked_there k (Invoker c) d e h = ap (λ (j : ℕ). is_some (moved k.call_sites j)) (sym ((Decides-eqb c d).0 h)) ∙ mapped_some Invoker (moved k.call_sites c) e

pub guard_there : (k : Flags) (t : Target) (p : ℕ) → is_some (target_there k t) ≡ true → guards_by p t ≡ true → is_some (moved k.switches p) ≡ true
guard_there k (Method m) p e h = cc
guard_there k (Guard q first fallback) p e h =
    let parts = guarded_some (moved k.switches q) (target_there k first) (target_there k fallback) e in
    elim (or_cases (q == p) (guards_by p first || guards_by p fallback) h) [
      | inl here ↦ ap (λ (j : ℕ). is_some (moved k.switches j)) (sym ((Decides-eqb q p).0 here)) ∙ parts.0
      | inr below ↦ elim (or_cases (guards_by p first) (guards_by p fallback) below) [
        | inl left ↦ guard_there k first p parts.1 left
        | inr right ↦ guard_there k fallback p parts.2 right
      ]
    ]
guard_there k (Invoker c) p e h = cc

-- ---- each event

module _ (k : Flags) (w : World) (rests : Rests k w) (names : Names k w) where
  as_before : (v : World) → v.bindings ≡ w.bindings → v.sites.call_sites ≡ w.sites.call_sites → Names k v
  as_before v bindings call_sites = record {
    bound = λ i b at there.
        names.bound i b (ap (λ (bs : List (ℕ × ℕ)). slice_get bs i) (sym bindings) ∙ at)
        (ap (λ (rows : List (Option CallSite)). is_missing rows b.1) (sym call_sites) ∙ there);
    targets = λ c site at. names.targets c site (ap (λ (rows : List (Option CallSite)). unreleased rows c) (sym call_sites) ∙ at);
  }

  with_call_sites : (call_sites : List (Option CallSite))
      → ((c : ℕ) → is_missing call_sites c ≡ false → (is_missing w.sites.call_sites c ≡ false) ⊎ (is_some (moved k.call_sites c) ≡ true))
      → ((c : ℕ) (site : CallSite) → unreleased call_sites c ≡ Some site → is_some (moved k.call_sites c) ≡ true → is_some (target_there k site.target) ≡ true)
      → Names k (record w { sites = record w.sites { call_sites = call_sites } })
  with_call_sites call_sites was all = record {
    bound = λ i b at there stays. elim (was b.1 there) [
      | inl before ↦ names.bound i b at before stays
      | inr one ↦ one
    ];
    targets = all;
  }

  -- without those that are released
  without_some : (sites : Sites) → ((c : ℕ) (site : CallSite) → unreleased sites.call_sites c ≡ Some site → unreleased w.sites.call_sites c ≡ Some site)
      → Names k (record w { sites = sites })
  without_some sites were = record {
    bound = λ i b at there stays.
        let row = row_there sites.call_sites b.1 there in
        names.bound i b at (not_missing w.sites.call_sites b.1 row.0 (were b.1 row.0 row.1)) stays;
    targets = λ c site at. names.targets c site (were c site at);
  }

  pub names_after : (e f : Event) → event_there k e ≡ Some f → Names k (step w e)
  names_after event.NewLoader f there = as_before (step w event.NewLoader) refl refl
  names_after (event.Define loader file) f there = as_before (step w (event.Define loader file)) refl refl
  names_after (event.Delegate loader name to) f there = as_before (step w (event.Delegate loader name to)) refl refl
  names_after (event.Request place) f there = as_before (step w (event.Request place)) refl refl
  names_after (event.NewCallSite kind ty t) f there =
      let u = inv_map (event.NewCallSite kind ty) (target_there k t) f there in
      let made : CallSite = record { kind = kind; ty = ty; target = t } in
      with_call_sites (w.sites.call_sites ++ Some made ∷ [])
      (λ c there.
      let row = row_there (w.sites.call_sites ++ Some made ∷ []) c there in
      elim (row_more w.sites.call_sites (Some made) c row.0 row.1) [
        | inl before ↦ inl (not_missing w.sites.call_sites c row.0 before)
        | inr last ↦ inr (ap (λ (d : ℕ). is_some (moved k.call_sites d)) last.0
            ∙ later_stays k.call_sites (length w.sites.call_sites) rests.few_call_sites)
      ])
      (λ c site at stays. elim (row_more w.sites.call_sites (Some made) c site at) [
        | inl before ↦ names.targets c site before stays
        | inr last ↦ ap (λ (s : CallSite). is_some (target_there k s.target)) (sym (same_Some made site last.1)) ∙ ap is_some u.1
      ])
  names_after (event.SetTarget c t) f there =
      let d = inv_then (λ (d : ℕ). option_map (event.SetTarget d) (target_there k t)) (moved k.call_sites c) f there in
      let u = inv_map (event.SetTarget d.0) (target_there k t) f d.2 in
      by_site (ap is_some d.1) (ap is_some u.1) (unreleased w.sites.call_sites c)
    where
      by_site : is_some (moved k.call_sites c) ≡ true → is_some (target_there k t) ≡ true → (o : Option CallSite)
          → Names k (record w {
            sites = record w.sites {
              call_sites = option_map_or (λ site. slice_set w.sites.call_sites c (Some (record site { target = t }))) o w.sites.call_sites;
            };
          })
      by_site stays whole None = with_call_sites w.sites.call_sites (λ d there. inl there) names.targets
      by_site stays whole (Some old) =
          let new : CallSite = record old { target = t } in
          with_call_sites (slice_set w.sites.call_sites c (Some new))
          (λ d there.
          let row = row_there (slice_set w.sites.call_sites c (Some new)) d there in
          elim (row_set w.sites.call_sites c (Some new) d row.0 row.1) [
            | inl before ↦ inl (not_missing w.sites.call_sites d row.0 before)
            | inr here ↦ inr (ap (λ (e : ℕ). is_some (moved k.call_sites e)) (sym here.0) ∙ stays)
          ])
          (λ d site at d_stays. elim (row_set w.sites.call_sites c (Some new) d site at) [
            | inl before ↦ names.targets d site before d_stays
            | inr here ↦ ap (λ (s : CallSite). is_some (target_there k s.target)) (sym (same_Some new site here.1)) ∙ whole
          ])
  names_after event.NewSwitch f there = as_before (step w event.NewSwitch) refl refl
  names_after (event.Invalidate points) f there = as_before (step w (event.Invalidate points)) refl refl
  names_after (event.Bind s c) f there =
      let t = inv_then (λ (t : ℕ). option_map (event.Bind t) (moved k.call_sites c)) (moved k.sites s) f there in
      let d = inv_map (event.Bind t.0) (moved k.call_sites c) f t.2 in
      record {
        bound = λ i b at present stays. elim (at_more w.bindings (s, c) i b at) [
          | inl before ↦ names.bound i b before present stays
          | inr last ↦ ap (λ (b : ℕ × ℕ). is_some (moved k.call_sites b.1)) (sym last.1) ∙ ap is_some d.1
        ];
        targets = names.targets;
      }
  names_after (event.Install rows) f there = names
  names_after (event.Retire loader) f there = as_before (step w (event.Retire loader)) refl refl
  names_after (event.RetireAll loaders) f there = as_before (step w (event.RetireAll loaders)) refl refl
  names_after (event.Release call_sites points) f there =
      without_some (released_from w.sites call_sites points) (λ c site at. (row_left w.sites.call_sites call_sites c site at).1)

-- ---- at a renewal

module _ (w : World) (released : Released) (fit : IsFit w) where
  abbrev k : Flags
  k = flags_of w released

  first_bound : (i : ℕ) (b : ℕ × ℕ) → slice_get w.bindings i ≡ Some b → is_missing w.sites.call_sites b.1 ≡ false → is_some (moved k.sites b.0) ≡ true
      → is_some (moved k.call_sites b.1) ≡ true
  first_bound i b at present stays =
      let bound = fit.bindings i b at in
      let flag = slice_get-map (λ place. is_present w.classes place.class) w.places b.0
      ∙ ap (option_map (λ place. is_present w.classes place.class)) bound.requested in
      let there = sym (moved_some k.sites b.0 (is_present w.classes bound.place.class) flag) ∙ stays in
      moved_some k.call_sites b.1 true (bound_stays w released i b at present
      (ap (λ (o : Option Place). option_map_or (λ place. is_present w.classes place.class) o false) bound.requested ∙ there))

  module _ (c : ℕ) (ty : List ℕ) where
    part_there : (t : Target)
        → ((p : ℕ) → is_missing w.sites.switches p ≡ false → guards_by p t ≡ true → is_some (moved k.switches p) ≡ true)
        → ((d : ℕ) → d < c → is_missing w.sites.call_sites d ≡ false → invokes d t ≡ true → is_some (moved k.call_sites d) ≡ true)
        → part_fault w c ty t ≡ None → is_some (target_there k t) ≡ true
    part_there (Method m) guards invoked none =
        let named = test_none (not (may_be_named w.classes m)) UnknownMethod (first_none (then_some (not (may_be_named w.classes m)) UnknownMethod) _ none).0 in
        let present = first_test (is_present w.classes m.class) _ (not-false (may_be_named w.classes m) named) in
        some_mapped (λ (c : ℕ). Method (record m { class = c })) (moved k.classes m.class)
        (moved_some k.classes m.class true (class_stays w.classes m.class present))
    part_there (Guard p first fallback) guards invoked none =
        let known = first_none (then_some (is_missing w.sites.switches p) UnknownSwitch) _ none in
        let left = first_none (part_fault w c ty first) _ known.1 in
        let right = first_none (part_fault w c ty fallback) [] left.1 in
        let there = test_none (is_missing w.sites.switches p) UnknownSwitch known.0 in
        some_guarded (moved k.switches p) (target_there k first) (target_there k fallback)
        (guards p there (or_left (p == p) (guards_by p first || guards_by p fallback) (nat_eq_equiv.refl p)))
        (part_there first
        (λ q lt h. guards q lt (or_right (p == q) (guards_by q first || guards_by q fallback) (or_left (guards_by q first) (guards_by q fallback) h)))
        (λ d lt present h. invoked d lt present (or_left (invokes d first) (invokes d fallback) h)) left.0)
        (part_there fallback
        (λ q lt h. guards q lt (or_right (p == q) (guards_by q first || guards_by q fallback) (or_right (guards_by q first) (guards_by q fallback) h)))
        (λ d lt present h. invoked d lt present (or_right (invokes d first) (invokes d fallback) h)) right.0)
    part_there (Invoker d) guards invoked none =
        let order = first_none (then_some (nat_le c d) (InvokerOrder d)) _ none in
        let lt = leb-false c d (test_none (nat_le c d) (InvokerOrder d) order.0) in
        let known = first_none (then_some (is_missing w.sites.call_sites d) UnknownCallSite) _ order.1 in
        some_mapped Invoker (moved k.call_sites d)
        (invoked d lt (test_none (is_missing w.sites.call_sites d) UnknownCallSite known.0) (nat_eq_equiv.refl d))

  first_targets : (c : ℕ) (site : CallSite) → unreleased w.sites.call_sites c ≡ Some site → is_some (moved k.call_sites c) ≡ true
      → is_some (target_there k site.target) ≡ true
  first_targets c site at stays =
      let within = unreleased_within w.sites.call_sites c site at in
      let many = call_sites_length w released in
      let flag = element_at k.call_sites c (omega (arith, within, many)) in
      let c_stays = flag.1 ∙ ap Some (sym (moved_some k.call_sites c flag.0 flag.1) ∙ stays) in
      let deep = first_none (then_some (nat_lt 64 (depth site.target) || nat_lt 255 (parts site.target)) TooDeep) _ (fit.targets c site at) in
      let part = first_none (part_fault w c site.ty site.target) [] deep.1 in
      part_there c site.ty site.target
      (λ p present h. moved_some k.switches p true (guard_stays w released c p site at c_stays present h))
      (λ d lt present h. moved_some k.call_sites d true (invoked_stays w released c d site at c_stays lt present h))
      part.0

  pub names_first : Names (flags_of w released) w
  names_first = record { bound = first_bound; targets = first_targets }
