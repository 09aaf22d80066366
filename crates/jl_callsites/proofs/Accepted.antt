-- What an event of call sites or switch points finds there that no fault speaks against.
use Rattle.std.specs.Prelude.{◌≡◌, ℕ, ◌<◌, Bool, true, false, not, ◌&&◌, ◌||◌, nat_lt, nat_le, List, [], ◌∷◌, length, Option, Some, None, is_none}
use Rattle.std.specs.Prelude.{if◌then◌else◌}
use Rattle.std.specs.Bool.{then_some}
use Rattle.std.specs.List.{list_any}
use Rattle.std.proofs.Common.{refl, ap}
use Rattle.std.proofs.lemmas.Bool.{and_from, leb-false, lt-ltb}
use Rattle.jl_types.specs.declared.refusal.CallSiteFault.TheVariants.{UnknownCallSite, WrongType, UnknownSwitch, TooDeep, Full, Constant, InvokerOrder}
use Rattle.jl_types.specs.Values.Target.{Target, Method, Guard, Invoker, depth}
use Rattle.jl_types.specs.Values.World.{World, CallSite, unreleased, is_missing}
use Rattle.jl_types.specs.Linkage.Resolution.{first_of}
use Rattle.jl_types.specs.Linkage.Targets.{parts, invokes_type, part_fault, target_fault}
use Rattle.jl_types.specs.Events.Verdict.{is_constant, new_call_site_fault, set_target_fault, invalidate_fault}
use Rattle.jl_types.proofs.Firsts.{first_none, test_none}
use Rattle.jl_callsites.specs.Known.{is_known}
use Rattle.jl_callsites.proofs.Rows.{was_made, all_made}

points_in_part : (w : World) (c : ℕ) (ty : List ℕ) (t : Target) → part_fault w c ty t ≡ None → is_known (length w.sites.switches) c t ≡ true
points_in_part w c ty (Method m) e = refl
points_in_part w c ty (Guard p first fallback) e =
    let n = length w.sites.switches in
    let guard = first_none (then_some (is_missing w.sites.switches p) UnknownSwitch) (part_fault w c ty first ∷ part_fault w c ty fallback ∷ []) e in
    let one = first_none (part_fault w c ty first) (part_fault w c ty fallback ∷ []) guard.1 in
    and_from (nat_lt p n) (is_known n c first && is_known n c fallback)
    (lt-ltb p n (was_made w.sites.switches p (test_none (is_missing w.sites.switches p) UnknownSwitch guard.0)))
    (and_from (is_known n c first) (is_known n c fallback)
    (points_in_part w c ty first one.0) (points_in_part w c ty fallback (first_none (part_fault w c ty fallback) [] one.1).0))
points_in_part w c ty (Invoker d) e =
    lt-ltb d c (leb-false c d (test_none (nat_le c d) (InvokerOrder d)
    (first_none (then_some (nat_le c d) (InvokerOrder d))
    (then_some (is_missing w.sites.call_sites d) UnknownCallSite ∷ then_some (not (invokes_type w.sites ty d)) WrongType ∷ []) e).0))

points_in_target : (w : World) (c : ℕ) (ty : List ℕ) (t : Target) → target_fault w c ty t ≡ None → is_known (length w.sites.switches) c t ≡ true
points_in_target w c ty t e =
    points_in_part w c ty t (first_none (part_fault w c ty t) []
    (first_none (then_some (nat_lt 64 (depth t) || nat_lt 255 (parts t)) TooDeep) (part_fault w c ty t ∷ []) e).1).0

module _ (most_call_sites : ℕ) (w : World) (ty : List ℕ) (t : Target) (e : new_call_site_fault most_call_sites w ty t ≡ None) where
  faults : (then_some (nat_le most_call_sites (length w.sites.call_sites)) Full ≡ None)
      × (first_of (target_fault w (length w.sites.call_sites) ty t ∷ []) ≡ None)
  faults = first_none (then_some (nat_le most_call_sites (length w.sites.call_sites)) Full) (target_fault w (length w.sites.call_sites) ty t ∷ []) e

  pub site_room : length w.sites.call_sites < most_call_sites
  site_room = leb-false most_call_sites (length w.sites.call_sites) (test_none (nat_le most_call_sites (length w.sites.call_sites)) Full faults.0)

  pub site_points : is_known (length w.sites.switches) (length w.sites.call_sites) t ≡ true
  site_points = points_in_target w (length w.sites.call_sites) ty t (first_none (target_fault w (length w.sites.call_sites) ty t) [] faults.1).0

module _ (w : World) (c : ℕ) (t : Target) where
  pub target_there : (found : Option CallSite) → unreleased w.sites.call_sites c ≡ found → set_target_fault w c found t ≡ None
      → is_missing w.sites.call_sites c ≡ false
  target_there None is e = cc
  target_there (Some site) is e = ap is_none is

  pub target_points : (found : Option CallSite) → set_target_fault w c found t ≡ None → is_known (length w.sites.switches) c t ≡ true
  target_points None e = cc
  target_points (Some site) e = unless_constant (is_constant site.kind) e
    where
      unless_constant : (b : Bool) → (if b then Some Constant else target_fault w c site.ty t) ≡ None → is_known (length w.sites.switches) c t ≡ true
      unless_constant true h = cc
      unless_constant false h = points_in_target w c site.ty t h

pub points_there : (w : World) (points : List ℕ) → invalidate_fault w points ≡ None → list_any (nat_le (length w.sites.switches)) points ≡ false
points_there w points e = all_made w.sites.switches points (test_none (list_any (is_missing w.sites.switches) points) UnknownSwitch e)
