-- An event that is carried over by the numbers of what there is, is the one that the flags tell.
use Rattle.std.specs.Prelude.{◌≡◌, ℕ, ◌+◌, ◌<◌, ◌==◌, nat_le, Bool, true, false, List, [], ◌∷◌, filter_map, length, slice_get}
use Rattle.std.specs.Prelude.{Option, Some, None, option_map, option_and_then, IsOk}
use Rattle.std.specs.List.{cons_option, list_any}
use Rattle.std.proofs.Common.{refl, sym, ap, ◌∙◌, arith}
use Rattle.std.proofs.lemmas.Bool.{or_parts, or_from, or_left, or_right, leb-false, lt-leb}
use Rattle.std.proofs.lemmas.Cmp.{nat_eq_equiv}
use Rattle.std.proofs.lemmas.Option.{slice_get_within}
use Rattle.jl_types.specs.declared.limits.Limits.{Limits}
use Rattle.jl_types.specs.declared.event.EventOf.TheVariants as event
use Rattle.jl_types.specs.declared.refusal.CallSiteFault.TheVariants as fault
use Rattle.jl_types.specs.declared.refusal.Refusal.TheVariants.{CallSite, Release}
use Rattle.jl_types.specs.Values.Target.{Target, Method, Guard, Invoker}
use Rattle.jl_types.specs.Values.World.{World, is_missing}
use Rattle.jl_types.specs.Values.Members.{is_retired}
use Rattle.jl_types.specs.Events.Event.{Event}
use Rattle.jl_types.specs.Events.Definitions.{is_unknown}
use Rattle.jl_types.specs.Events.Retirement.{is_listed}
use Rattle.jl_types.specs.Events.Release.{release_fault}
use Rattle.jl_types.specs.Events.Verdict.{verdict, invalidate_fault}
use Rattle.jl_types.proofs.Firsts.{test_none}
use Rattle.jl_types.proofs.Releasing.{may_release}
use Rattle.jl_types.proofs.Retiring.{may_retire, is_free as free_to_retire}
use Rattle.jl_relink.proofs.Closing.{no_fault, free_loaders}
use Rattle.jl_renewal.specs.Numbers.{Numbers, new_number}
use Rattle.jl_renewal.specs.Carries.{carried, carried_target, guarded}
use Rattle.jl_renewal.specs.Moved.{Flags, moved, target_there, event_there, numbers_there, all_numbers}
use Rattle.jl_renewal.proofs.ReleasedRows.{present_within}
use Rattle.jl_renewal.proofs.MovedNumbers.{many_there, mapped}
use Rattle.jl_renewal.proofs.MovedTargets.{inv_map, inv_then}

-- ---- numbers

pub number_at : (stays : List Bool) (count j : ℕ) → j < count → new_number (numbers_there stays count) j ≡ moved stays j
number_at stays count j lt =
    let at : 0 + j ≡ j = omega arith in
    ap (option_and_then (λ (number : Option ℕ). number)) (mapped (moved stays) 0 count j lt ∙ ap (λ (i : ℕ). Some (moved stays i)) at)

pub there_number : (stays : List Bool) (count j i : ℕ) → new_number (numbers_there stays count) j ≡ Some i → moved stays j ≡ Some i
there_number stays count j i e = by_number (slice_get (numbers_there stays count) j) refl e
  where
    by_number : (o : Option (Option ℕ)) → slice_get (numbers_there stays count) j ≡ o → option_and_then (λ (number : Option ℕ). number) o ≡ Some i
        → moved stays j ≡ Some i
    by_number None is e = cc
    by_number (Some number) is e =
        let within = slice_get_within (numbers_there stays count) j number is in
        let many = many_there stays count in
        sym (number_at stays count j (omega (arith, within, many))) ∙ (ap (option_and_then (λ (number : Option ℕ). number)) is ∙ e)

-- of a list of those that are there
all_there : (stays : List Bool) (count : ℕ) (ks : List ℕ) → list_any (nat_le count) ks ≡ false
    → filter_map (new_number (numbers_there stays count)) ks ≡ filter_map (moved stays) ks
all_there stays count [] e = refl
all_there stays count (j ∷ ks) e =
    let parts = or_parts (nat_le count j) (list_any (nat_le count) ks) e in
    let first = number_at stays count j (leb-false count j parts.0) in
    let rest = all_there stays count ks parts.1 in
    λ i. cons_option (first i) (rest i)

module _ (k : Flags) (w : World) where
  abbrev n : Numbers
  n = all_numbers k w

  class_there : (c d : ℕ) → new_number n.classes c ≡ Some d → moved k.classes c ≡ Some d
  class_there c d = there_number k.classes _ c d

  loader_there : (l m : ℕ) → new_number n.loaders l ≡ Some m → moved k.loaders l ≡ Some m
  loader_there l m = there_number k.loaders _ l m

  call_site_there : (c d : ℕ) → new_number n.call_sites c ≡ Some d → moved k.call_sites c ≡ Some d
  call_site_there c d = there_number k.call_sites _ c d

  target_is_there : (t u : Target) → carried_target n t ≡ Some u → target_there k t ≡ Some u
  target_is_there (Method m) u e =
      let c = inv_map (λ (c : ℕ). Method (record m { class = c })) (new_number n.classes m.class) u e in
      ap (option_map (λ (c : ℕ). Method (record m { class = c }))) (class_there m.class c.0 c.1) ∙ ap Some c.2
  target_is_there (Guard p first fallback) u e =
      let q = inv_then (λ (q : ℕ). guarded q (carried_target n first) (carried_target n fallback)) (new_number n.switches p) u e in
      let a = inv_then (λ (a : Target). option_map (Guard q.0 a) (carried_target n fallback)) (carried_target n first) u q.2 in
      let b = inv_map (Guard q.0 a.0) (carried_target n fallback) u a.2 in
      ap (option_and_then (λ (q : ℕ). guarded q (target_there k first) (target_there k fallback))) (there_number k.switches _ p q.0 q.1)
      ∙ ((λ i. guarded q.0 (target_is_there first a.0 a.1 i) (target_is_there fallback b.0 b.1 i)) ∙ ap Some b.2)
  target_is_there (Invoker c) u e =
      let d = inv_map Invoker (new_number n.call_sites c) u e in
      ap (option_map Invoker) (call_site_there c d.0 d.1) ∙ ap Some d.2

  -- loaders that are known are there
  known_there : (loaders : List ℕ) → ((l : ℕ) → is_listed loaders l ≡ true → is_unknown w.classes l ≡ false)
      → list_any (nat_le (length w.classes.loaders)) loaders ≡ false
  known_there [] known = refl
  known_there (l ∷ loaders) known =
      or_from (nat_le (length w.classes.loaders) l) (list_any (nat_le (length w.classes.loaders)) loaders)
      (or_parts (nat_le (length w.classes.loaders) l) (is_retired w.classes l)
      (known l (or_left (l == l) (is_listed loaders l) (nat_eq_equiv.refl l)))).0
      (known_there loaders (λ j there. known j (or_right (l == j) (is_listed loaders j) there)))

  -- and so are rows that aren't released
  rows_there : {A : Type 0} (rows : List (Option A)) (ks : List ℕ) → list_any (is_missing rows) ks ≡ false → list_any (nat_le (length rows)) ks ≡ false
  rows_there rows [] e = refl
  rows_there rows (j ∷ ks) e =
      let parts = or_parts (is_missing rows j) (list_any (is_missing rows) ks) e in
      or_from (nat_le (length rows) j) (list_any (nat_le (length rows)) ks) (lt-leb (length rows) j (present_within rows j parts.0))
      (rows_there rows ks parts.1)

  pub event_is_there : (limits : Limits) (e f : Event) → IsOk (verdict limits w e) → carried n e ≡ Some f → event_there k e ≡ Some f
  event_is_there limits event.NewLoader f ok e = e
  event_is_there limits (event.Define loader file) f ok e =
      let l = inv_map (λ (l : ℕ). event.Define l file) (new_number n.loaders loader) f e in
      ap (option_map (λ (l : ℕ). event.Define l file)) (loader_there loader l.0 l.1) ∙ ap Some l.2
  event_is_there limits (event.Delegate loader name to) f ok e =
      let l = inv_then (λ (l : ℕ). option_map (event.Delegate l name) (new_number n.loaders to)) (new_number n.loaders loader) f e in
      let m = inv_map (event.Delegate l.0 name) (new_number n.loaders to) f l.2 in
      ap (option_and_then (λ (l : ℕ). option_map (event.Delegate l name) (moved k.loaders to))) (loader_there loader l.0 l.1)
      ∙ (ap (option_map (event.Delegate l.0 name)) (loader_there to m.0 m.1) ∙ ap Some m.2)
  event_is_there limits (event.Request place) f ok e =
      let c = inv_map (λ (c : ℕ). event.Request (record place { class = c })) (new_number n.classes place.class) f e in
      ap (option_map (λ (c : ℕ). event.Request (record place { class = c }))) (class_there place.class c.0 c.1) ∙ ap Some c.2
  event_is_there limits (event.NewCallSite kind ty t) f ok e =
      let u = inv_map (event.NewCallSite kind ty) (carried_target n t) f e in
      ap (option_map (event.NewCallSite kind ty)) (target_is_there t u.0 u.1) ∙ ap Some u.2
  event_is_there limits (event.SetTarget c t) f ok e =
      let d = inv_then (λ (d : ℕ). option_map (event.SetTarget d) (carried_target n t)) (new_number n.call_sites c) f e in
      let u = inv_map (event.SetTarget d.0) (carried_target n t) f d.2 in
      ap (option_and_then (λ (d : ℕ). option_map (event.SetTarget d) (target_there k t))) (call_site_there c d.0 d.1)
      ∙ (ap (option_map (event.SetTarget d.0)) (target_is_there t u.0 u.1) ∙ ap Some u.2)
  event_is_there limits event.NewSwitch f ok e = e
  event_is_there limits (event.Invalidate points) f ok e =
      let present = test_none (list_any (is_missing w.sites.switches) points) fault.UnknownSwitch (no_fault CallSite (invalidate_fault w points) _ ok) in
      let there = rows_there w.sites.switches points present in
      ap (λ (ps : List ℕ). Some (event.Invalidate ps)) (sym (all_there k.switches (length w.sites.switches) points there)) ∙ e
  event_is_there limits (event.Bind s c) f ok e =
      let t = inv_then (λ (t : ℕ). option_map (event.Bind t) (new_number n.call_sites c)) (new_number n.sites s) f e in
      let d = inv_map (event.Bind t.0) (new_number n.call_sites c) f t.2 in
      ap (option_and_then (λ (t : ℕ). option_map (event.Bind t) (moved k.call_sites c))) (there_number k.sites _ s t.0 t.1)
      ∙ (ap (option_map (event.Bind t.0)) (call_site_there c d.0 d.1) ∙ ap Some d.2)
  event_is_there limits (event.Install rows) f ok e = cc
  event_is_there limits (event.Retire loader) f ok e =
      let l = inv_map event.Retire (new_number n.loaders loader) f e in
      ap (option_map event.Retire) (loader_there loader l.0 l.1) ∙ ap Some l.2
  event_is_there limits (event.RetireAll loaders) f ok e =
      let free = free_to_retire w.classes loaders (may_retire w loaders (free_loaders limits w loaders ok)) in
      let there = known_there loaders free.known in
      ap (λ (ls : List ℕ). Some (event.RetireAll ls)) (sym (all_there k.loaders (length w.classes.loaders) loaders there)) ∙ e
  event_is_there limits (event.Release call_sites points) f ok e =
      let may = may_release w.sites call_sites points (no_fault Release (release_fault w.sites call_sites points) _ ok) in
      let first = all_there k.call_sites (length w.sites.call_sites) call_sites (rows_there w.sites.call_sites call_sites may.call_sites) in
      let second = all_there k.switches (length w.sites.switches) points (rows_there w.sites.switches points may.switches) in
      (λ i. Some (event.Release (sym first i) (sym second i))) ∙ e
