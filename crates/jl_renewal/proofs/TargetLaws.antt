-- A target that would be taken in the old core is taken in the fresh one, under new numbers.
use Rattle.std.specs.Prelude.{◌≡◌, ◌<◌, ◌+◌, ◌==◌, ◌||◌, ◌&&◌, ℕ, true, false, not, max, nat_le, nat_lt, List, [], ◌∷◌, slice_get}
use Rattle.std.specs.Prelude.{Option, Some, None}
use Rattle.std.specs.Bool.{then_some}
use Rattle.std.specs.Option.{option_map_or}
use Rattle.std.specs.Str.{bytes_eq}
use Rattle.std.proofs.Common.{refl, sym, ap, ◌∙◌}
use Rattle.std.proofs.lemmas.Bool.{or_left, or_right, lt-leb, leb-false, not-false}
use Rattle.std.proofs.lemmas.Cmp.{nat_eq_equiv}
use Rattle.jl_class.specs.Flags.{has_flag, STATIC}
use Rattle.jl_class.specs.Special.{begins_special}
use Rattle.jl_types.specs.declared.ids.MethodId.{MethodId}
use Rattle.jl_types.specs.declared.refusal.CallSiteFault.TheVariants.{UnknownCallSite, UnknownMethod, NotStatic, WrongType, UnknownSwitch}
use Rattle.jl_types.specs.declared.refusal.CallSiteFault.TheVariants.{TooDeep, InvokerOrder}
use Rattle.jl_types.specs.Values.Target.{Target, Method, Guard, Invoker, depth}
use Rattle.jl_types.specs.Values.World.{World, CallSite, unreleased, is_missing}
use Rattle.jl_types.specs.Values.Members.{is_present, methods_of, method_test}
use Rattle.jl_types.specs.Linkage.Resolution.{first_of}
use Rattle.jl_types.specs.Linkage.Targets.{parts, part_fault, target_fault, may_be_named, invokes_type}
use Rattle.jl_types.proofs.Bools.{first_test}
use Rattle.jl_types.proofs.Firsts.{first_none, test_none}
use Rattle.jl_renewal.specs.declared.released.Released.{Released}
use Rattle.jl_renewal.specs.Numbers.{Numbers, renumbered, renumbered_target}
use Rattle.jl_renewal.specs.Staying.{numbers_of, staying_call_sites, staying_switches, invokes, guards_by}
use Rattle.jl_renewal.specs.Renewed.{renewed, renumbered_call_site}
use Rattle.jl_renewal.proofs.ReleasedRows.{row_there, not_missing}
use Rattle.jl_renewal.proofs.StayLaws.{row_staying, switch_there}
use Rattle.jl_renewal.proofs.FreshClasses.{fresh_present, fresh_methods}

-- ---- the size of a target

same_depth : (n : Numbers) (t : Target) → depth (renumbered_target n t) ≡ depth t
same_depth n (Method m) = refl
same_depth n (Guard p first fallback) = λ i. max (same_depth n first i) (same_depth n fallback i) + 1
same_depth n (Invoker c) = refl

same_parts : (n : Numbers) (t : Target) → parts (renumbered_target n t) ≡ parts t
same_parts n (Method m) = refl
same_parts n (Guard p first fallback) = λ i. same_parts n first i + same_parts n fallback i + 1
same_parts n (Invoker c) = refl

-- ---- its parts

module _ (w : World) (released : Released) where
  abbrev n : Numbers
  n = numbers_of w released

  abbrev fresh : World
  fresh = renewed w released

  -- the fresh core once these call sites are there
  abbrev pub with_call_sites : List (Option CallSite) → World
  with_call_sites call_sites = record {
    classes = fresh.classes;
    places = [];
    bindings = [];
    sites = record { call_sites = call_sites; switches = fresh.sites.switches };
  }

  -- a switch point that stays is there
  switch_kept : (p : ℕ) → slice_get (staying_switches w released) p ≡ Some true → is_missing fresh.sites.switches (renumbered n.switches p) ≡ false
  switch_kept p stays =
      let here = row_there w.sites.switches p (switch_there w released p stays) in
      not_missing fresh.sites.switches (renumbered n.switches p) here.0
      (row_staying (staying_switches w released) w.sites.switches p here.0 stays here.1)

  -- the switch points, and the call sites before c, that the target names stay
  pub record Names (c : ℕ) (t : Target) : Type 0 where
    pub guards : (p : ℕ) → is_missing w.sites.switches p ≡ false → guards_by p t ≡ true → slice_get (staying_switches w released) p ≡ Some true
    pub invoked : (d : ℕ) → d < c → is_missing w.sites.call_sites d ≡ false → invokes d t ≡ true → slice_get (staying_call_sites w released) d ≡ Some true

  -- those that stay of the call sites before c are among these, before number k
  module _ (call_sites : List (Option CallSite)) (c k : ℕ)
      (earlier : (d : ℕ) (other : CallSite) → d < c → slice_get (staying_call_sites w released) d ≡ Some true → unreleased w.sites.call_sites d ≡ Some other
      → unreleased call_sites (renumbered n.call_sites d) ≡ Some (renumbered_call_site n other))
      (lower : (d : ℕ) → d < c → slice_get (staying_call_sites w released) d ≡ Some true → renumbered n.call_sites d < k)
      (ty : List ℕ) where
    abbrev v : World
    v = with_call_sites call_sites

    method_kept : (m : MethodId) → part_fault w c ty (Method m) ≡ None → part_fault v k ty (renumbered_target n (Method m)) ≡ None
    method_kept m e =
        let named = test_none (not (may_be_named w.classes m)) UnknownMethod (first_none (then_some (not (may_be_named w.classes m)) UnknownMethod) _ e).0 in
        let there = first_test (is_present w.classes m.class) (method_test (λ method. not (begins_special method.name)) w.classes m)
        (not-false (may_be_named w.classes m) named) in
        let present : is_present fresh.classes (renumbered n.classes m.class) ≡ is_present w.classes m.class =
        fresh_present w released m.class there ∙ sym there in
        same_faults present (fresh_methods w released m.class there) ∙ e
      where
        same_faults : is_present fresh.classes (renumbered n.classes m.class) ≡ is_present w.classes m.class
            → methods_of fresh.classes (renumbered n.classes m.class) ≡ methods_of w.classes m.class
            → part_fault v k ty (renumbered_target n (Method m)) ≡ part_fault w c ty (Method m)
        same_faults present methods = λ i. first_of (
            then_some (not (present i && option_map_or (λ method. not (begins_special method.name)) (slice_get (methods i) m.index) false)) UnknownMethod
            ∷ then_some (not (option_map_or (λ method. has_flag method.flags STATIC) (slice_get (methods i) m.index) false)) NotStatic
            ∷ then_some (not (option_map_or (λ method. bytes_eq method.ty ty) (slice_get (methods i) m.index) false)) WrongType
            ∷ [])

    invoker_kept : (d : ℕ) → Names c (Invoker d) → part_fault w c ty (Invoker d) ≡ None → part_fault v k ty (renumbered_target n (Invoker d)) ≡ None
    invoker_kept d names e =
        let order = first_none (then_some (nat_le c d) (InvokerOrder d)) _ e in
        let known = first_none (then_some (is_missing w.sites.call_sites d) UnknownCallSite) _ order.1 in
        let wrong = first_none (then_some (not (invokes_type w.sites ty d)) WrongType) [] known.1 in
        let lt = leb-false c d (test_none (nat_le c d) (InvokerOrder d) order.0) in
        let typed = not-false (invokes_type w.sites ty d) (test_none (not (invokes_type w.sites ty d)) WrongType wrong.0) in
        let there = test_none (is_missing w.sites.call_sites d) UnknownCallSite known.0 in
        let other = row_there w.sites.call_sites d there in
        let stays = names.invoked d lt there (nat_eq_equiv.refl d) in
        let present = not_missing call_sites (renumbered n.call_sites d) _ (earlier d other.0 lt stays other.1) in
        let same : invokes_type v.sites ty (renumbered n.call_sites d) ≡ true =
        ap (λ (o : Option CallSite). option_map_or (λ site. bytes_eq site.ty ty) o false) (earlier d other.0 lt stays other.1)
        ∙ sym (ap (λ (o : Option CallSite). option_map_or (λ site. bytes_eq site.ty ty) o false) other.1) ∙ typed in
        λ i. first_of (
        then_some (lt-leb k (renumbered n.call_sites d) (lower d lt stays) i) (InvokerOrder (renumbered n.call_sites d))
        ∷ then_some (present i) UnknownCallSite
        ∷ then_some (not (same i)) WrongType
        ∷ [])

    part_kept : (t : Target) → Names c t → part_fault w c ty t ≡ None → part_fault v k ty (renumbered_target n t) ≡ None
    part_kept (Method m) names e = method_kept m e
    part_kept (Invoker d) names e = invoker_kept d names e
    part_kept (Guard p first fallback) names e =
        let known = first_none (then_some (is_missing w.sites.switches p) UnknownSwitch) _ e in
        let left = first_none (part_fault w c ty first) _ known.1 in
        let right = first_none (part_fault w c ty fallback) [] left.1 in
        let there = test_none (is_missing w.sites.switches p) UnknownSwitch known.0 in
        let here = switch_kept p (names.guards p there (or_left (p == p) (guards_by p first || guards_by p fallback) (nat_eq_equiv.refl p))) in
        let first_kept = part_kept first (record {
          guards = λ q below h. names.guards q below (or_right (p == q) (guards_by q first || guards_by q fallback)
              (or_left (guards_by q first) (guards_by q fallback) h));
          invoked = λ d below there h. names.invoked d below there (or_left (invokes d first) (invokes d fallback) h);
        }) left.0 in
        let fallback_kept = part_kept fallback (record {
          guards = λ q below h. names.guards q below (or_right (p == q) (guards_by q first || guards_by q fallback)
              (or_right (guards_by q first) (guards_by q fallback) h));
          invoked = λ d below there h. names.invoked d below there (or_right (invokes d first) (invokes d fallback) h);
        }) right.0 in
        λ i. first_of (
        then_some (here i) UnknownSwitch
        ∷ first_kept i
        ∷ fallback_kept i
        ∷ [])

    -- ---- all of it

    pub target_kept : (t : Target) → Names c t → target_fault w c ty t ≡ None → target_fault v k ty (renumbered_target n t) ≡ None
    target_kept t names e =
        let deep = first_none (then_some (nat_lt 64 (depth t) || nat_lt 255 (parts t)) TooDeep) _ e in
        let part = first_none (part_fault w c ty t) [] deep.1 in
        (λ i. first_of (
        then_some (nat_lt 64 (same_depth n t i) || nat_lt 255 (same_parts n t i)) TooDeep
        ∷ part_kept t names part.0 i
        ∷ []))
        ∙ ap (λ o. first_of (o ∷ None ∷ [])) deep.0
