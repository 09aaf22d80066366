-- What a call site that stays runs is under new numbers what it ran.
use Rattle.std.specs.Prelude.{◌≡◌, ◌<◌, ◌+◌, ◌==◌, ◌||◌, ℕ, zero, suc, Bool, true, false, not, nat_le, nat_lt, List, []}
use Rattle.std.specs.Prelude.{Option, Some, None, option_map, option_and_then, if◌then◌else◌}
use Rattle.std.specs.Bool.{then_some}
use Rattle.std.proofs.Common.{refl, sym, ap, subst, ◌∙◌, arith}
use Rattle.std.proofs.lemmas.Bool.{or_left, or_right, leb-false, not-false}
use Rattle.std.proofs.lemmas.Cmp.{nat_eq_equiv}
use Rattle.std.proofs.lemmas.Option.{same_Some}
use Rattle.jl_class.specs.Special.{begins_special}
use Rattle.jl_types.specs.declared.ids.MethodId.{MethodId}
use Rattle.jl_types.specs.declared.refusal.CallSiteFault.TheVariants.{UnknownCallSite, UnknownMethod, UnknownSwitch, TooDeep, InvokerOrder}
use Rattle.jl_types.specs.Values.Target.{Target, Method, Guard, Invoker, depth}
use Rattle.jl_types.specs.Values.World.{World, CallSite, unreleased, is_missing}
use Rattle.jl_types.specs.Values.Members.{is_present, method_test}
use Rattle.jl_types.specs.Linkage.Targets.{parts, is_valid, run_by, run_below, evaluated, method_of, may_be_named, part_fault}
use Rattle.jl_types.proofs.Bools.{first_test}
use Rattle.jl_types.proofs.Firsts.{first_none, test_none}
use Rattle.jl_types.proofs.Releasing.{unreleased_within}
use Rattle.jl_callsites.proofs.Walks.{invoked_runs}
use Rattle.jl_renewal.specs.Numbers.{Numbers, renumbered, renumbered_target}
use Rattle.jl_renewal.specs.Staying.{invokes, guards_by}
use Rattle.jl_renewal.specs.Renewed.{renumbered_method}
use Rattle.jl_renewal.proofs.AlikeSites.{SitesAlike}
use Rattle.jl_renewal.proofs.ReleasedRows.{row_there}

-- ---- what a target that would be taken names

module _ (w : World) (c : ℕ) (ty : List ℕ) where
  -- the class of a method
  method_there : (m : MethodId) → part_fault w c ty (Method m) ≡ None → is_present w.classes m.class ≡ true
  method_there m e =
      let named = test_none (not (may_be_named w.classes m)) UnknownMethod (first_none (then_some (not (may_be_named w.classes m)) UnknownMethod) _ e).0 in
      first_test (is_present w.classes m.class) (method_test (λ method. not (begins_special method.name)) w.classes m)
      (not-false (may_be_named w.classes m) named)

  -- an earlier call site
  invoker_before : (d : ℕ) → part_fault w c ty (Invoker d) ≡ None → d < c
  invoker_before d e =
      leb-false c d (test_none (nat_le c d) (InvokerOrder d) (first_none (then_some (nat_le c d) (InvokerOrder d)) _ e).0)

  -- that isn't released
  invoker_there : (d : ℕ) → part_fault w c ty (Invoker d) ≡ None → is_missing w.sites.call_sites d ≡ false
  invoker_there d e =
      test_none (is_missing w.sites.call_sites d) UnknownCallSite
      (first_none (then_some (is_missing w.sites.call_sites d) UnknownCallSite) _ (first_none (then_some (nat_le c d) (InvokerOrder d)) _ e).1).0

  -- a switch point
  guard_there : (p : ℕ) (first fallback : Target) → part_fault w c ty (Guard p first fallback) ≡ None → is_missing w.sites.switches p ≡ false
  guard_there p first fallback e =
      test_none (is_missing w.sites.switches p) UnknownSwitch (first_none (then_some (is_missing w.sites.switches p) UnknownSwitch) _ e).0

  -- and the parts of a guard
  guard_parts : (p : ℕ) (first fallback : Target) → part_fault w c ty (Guard p first fallback) ≡ None
      → (part_fault w c ty first ≡ None) × (part_fault w c ty fallback ≡ None)
  guard_parts p first fallback e =
      let parts = first_none (part_fault w c ty first) _ (first_none (then_some (is_missing w.sites.switches p) UnknownSwitch) _ e).1 in
      (parts.0, (first_none (part_fault w c ty fallback) [] parts.1).0)

module _ (n : Numbers) (w v : World) (stays : ℕ → Bool) (same : SitesAlike n w v stays) where
  -- ---- a call site that stays

  -- no part of a call site's target is at fault
  part_taken : (c : ℕ) (site : CallSite) → unreleased w.sites.call_sites c ≡ Some site → part_fault w c site.ty site.target ≡ None
  part_taken c site there =
      let deep = first_none (then_some (nat_lt 64 (depth site.target) || nat_lt 255 (parts site.target)) TooDeep) _ (same.fit.targets c site there) in
      (first_none (part_fault w c site.ty site.target) [] deep.1).0

  -- ---- the class of the method that it runs

  module _ (c : ℕ) (ty : List ℕ) (earlier : (d : ℕ) → d < c → (m : MethodId) → method_of w.sites d ≡ Some m → is_present w.classes m.class ≡ true) where
    part_present : (t : Target) → part_fault w c ty t ≡ None → (m : MethodId) → run_by w.sites (run_below w.sites c) t ≡ Some m
        → is_present w.classes m.class ≡ true
    part_present (Method k) none m is = subst (λ (m : MethodId). is_present w.classes m.class ≡ true) (same_Some k m is) (method_there w c ty k none)
    part_present (Guard p first fallback) none m is =
        let taken = guard_parts w c ty p first fallback none in
        by_valid (is_valid w.sites p) (part_present first taken.0 m) (part_present fallback taken.1 m) is
      where
        by_valid : (b : Bool)
            → (run_by w.sites (run_below w.sites c) first ≡ Some m → is_present w.classes m.class ≡ true)
            → (run_by w.sites (run_below w.sites c) fallback ≡ Some m → is_present w.classes m.class ≡ true)
            → (if b then run_by w.sites (run_below w.sites c) first else run_by w.sites (run_below w.sites c) fallback) ≡ Some m
            → is_present w.classes m.class ≡ true
        by_valid true one two is = one is
        by_valid false one two is = two is
    part_present (Invoker d) none m is =
        let lt = invoker_before w c ty d none in
        earlier d lt m (sym (invoked_runs w.sites c d lt) ∙ is)

  row_present : (c : ℕ) → ((d : ℕ) → d < c → (m : MethodId) → method_of w.sites d ≡ Some m → is_present w.classes m.class ≡ true)
      → (m : MethodId) → method_of w.sites c ≡ Some m → is_present w.classes m.class ≡ true
  row_present c earlier m is = by_row (unreleased w.sites.call_sites c) refl is
    where
      by_row : (o : Option CallSite) → unreleased w.sites.call_sites c ≡ o → option_and_then (λ site. evaluated w.sites c site.target) o ≡ Some m
          → is_present w.classes m.class ≡ true
      by_row None there is = cc
      by_row (Some site) there is = part_present c site.ty earlier site.target (part_taken c site there) m is

  below_present : (k c : ℕ) → c < k → (m : MethodId) → method_of w.sites c ≡ Some m → is_present w.classes m.class ≡ true
  below_present zero c lt = absurd (omega (arith, lt))
  below_present (suc k) c lt = row_present c (λ d less. below_present k d (omega (arith, lt, less)))

  -- the class of the method that a call site runs is present
  pub method_present : (c : ℕ) (m : MethodId) → method_of w.sites c ≡ Some m → is_present w.classes m.class ≡ true
  method_present c m is = below_present (c + 1) c (omega arith) m is

  -- ---- the method that it runs

  -- what is chosen by a switch point, under new numbers
  either : (b : Bool) (x y : Option MethodId)
      → (if b then option_map (renumbered_method n) x else option_map (renumbered_method n) y) ≡ option_map (renumbered_method n) (if b then x else y)
  either true x y = refl
  either false x y = refl

  -- a target of call site c runs the same where its switch points are as valid, and its earlier call sites run the same
  module _ (c : ℕ) (ty : List ℕ) where
    abbrev before : Target → Option MethodId
    before t = run_by w.sites (run_below w.sites c) t

    abbrev now : Target → Option MethodId
    now t = run_by v.sites (run_below v.sites (renumbered n.call_sites c)) (renumbered_target n t)

    part_same : (t : Target)
        → ((p : ℕ) → is_missing w.sites.switches p ≡ false → guards_by p t ≡ true → is_valid v.sites (renumbered n.switches p) ≡ is_valid w.sites p)
        → ((d : ℕ) → d < c → is_missing w.sites.call_sites d ≡ false → invokes d t ≡ true
        → now (Invoker d) ≡ option_map (renumbered_method n) (before (Invoker d)))
        → part_fault w c ty t ≡ None → now t ≡ option_map (renumbered_method n) (before t)
    part_same (Method m) valid earlier none = refl
    part_same (Guard p first fallback) valid earlier none =
        let taken = guard_parts w c ty p first fallback none in
        let here = valid p (guard_there w c ty p first fallback none) (or_left (p == p) (guards_by p first || guards_by p fallback) (nat_eq_equiv.refl p)) in
        let one = part_same first
        (λ q lt h. valid q lt (or_right (p == q) (guards_by q first || guards_by q fallback) (or_left (guards_by q first) (guards_by q fallback) h)))
        (λ d lt there h. earlier d lt there (or_left (invokes d first) (invokes d fallback) h)) taken.0 in
        let two = part_same fallback
        (λ q lt h. valid q lt (or_right (p == q) (guards_by q first || guards_by q fallback) (or_right (guards_by q first) (guards_by q fallback) h)))
        (λ d lt there h. earlier d lt there (or_right (invokes d first) (invokes d fallback) h)) taken.1 in
        (λ i. if here i then one i else two i) ∙ either (is_valid w.sites p) (before first) (before fallback)
    part_same (Invoker d) valid earlier none = earlier d (invoker_before w c ty d none) (invoker_there w c ty d none) (nat_eq_equiv.refl d)

  site_same : (c : ℕ) → stays c ≡ true → is_missing w.sites.call_sites c ≡ false
      → ((d : ℕ) → d < c → stays d ≡ true → is_missing w.sites.call_sites d ≡ false
      → method_of v.sites (renumbered n.call_sites d) ≡ option_map (renumbered_method n) (method_of w.sites d))
      → method_of v.sites (renumbered n.call_sites c) ≡ option_map (renumbered_method n) (method_of w.sites c)
  site_same c c_stays there earlier =
      let here = row_there w.sites.call_sites c there in
      let site = here.0 in
      ap (option_and_then (λ (site : CallSite). evaluated v.sites (renumbered n.call_sites c) site.target)) (same.rows c site c_stays here.1)
      ∙ (part_same c site.ty site.target
      (λ p point guards. same.valid c p site here.1 c_stays point guards)
      (λ d lt d_there invoked.
      let d_stays = same.invoked c d site here.1 c_stays lt d_there invoked in
      invoked_runs v.sites (renumbered n.call_sites c) (renumbered n.call_sites d)
      (same.order d c d_stays c_stays lt (unreleased_within w.sites.call_sites c site here.1))
      ∙ (earlier d lt d_stays d_there ∙ ap (option_map (renumbered_method n)) (sym (invoked_runs w.sites c d lt))))
      (part_taken c site here.1)
      ∙ sym (ap (λ (o : Option CallSite). option_map (renumbered_method n) (option_and_then (λ site. evaluated w.sites c site.target) o)) here.1))

  below_same : (k c : ℕ) → c < k → stays c ≡ true → is_missing w.sites.call_sites c ≡ false
      → method_of v.sites (renumbered n.call_sites c) ≡ option_map (renumbered_method n) (method_of w.sites c)
  below_same zero c lt = absurd (omega (arith, lt))
  below_same (suc k) c lt = λ c_stays there. site_same c c_stays there (λ d less. below_same k d (omega (arith, lt, less)))

  -- a call site that stays runs the method that it ran
  pub method_same : (c : ℕ) → stays c ≡ true → is_missing w.sites.call_sites c ≡ false
      → method_of v.sites (renumbered n.call_sites c) ≡ option_map (renumbered_method n) (method_of w.sites c)
  method_same c c_stays there = below_same (c + 1) c (omega arith) c_stays there
