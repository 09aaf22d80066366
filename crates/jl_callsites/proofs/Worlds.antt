-- The faults of call sites and switch points are those at any world of the same classes and sites.
use Rattle.std.specs.Prelude.{◌≡◌, ℕ, Bool, true, false, nat_lt, nat_le, ◌||◌, List, [], ◌∷◌, length, Option, Some, None, option_map, if◌then◌else◌}
use Rattle.std.specs.Bool.{then_some}
use Rattle.std.proofs.Common.{refl, ap, sym}
use Rattle.jl_types.specs.declared.limits.Limits.{Limits}
use Rattle.jl_types.specs.declared.target.CallSiteKind.{CallSiteKind}
use Rattle.jl_types.specs.declared.event.EventOf.TheVariants as event
use Rattle.jl_types.specs.declared.event.Made.TheVariants as made
use Rattle.jl_types.specs.declared.refusal.CallSiteFault.{CallSiteFault}
use Rattle.jl_types.specs.declared.refusal.CallSiteFault.TheVariants.{UnknownSwitch, TooDeep, Full, Constant}
use Rattle.jl_types.specs.declared.refusal.Refusal.{Refusal}
use Rattle.jl_types.specs.declared.refusal.Refusal.TheVariants.{CallSite}
use Rattle.jl_types.specs.Values.Target.{Target, Method, Guard, Invoker, depth}
use Rattle.jl_types.specs.Values.World.{World, CallSite as CallSiteRow, unreleased, is_missing}
use Rattle.jl_types.specs.Linkage.Resolution.{first_of}
use Rattle.jl_types.specs.Linkage.Targets.{parts, part_fault, target_fault}
use Rattle.jl_types.specs.Events.Verdict.{unless, is_constant, new_call_site_fault}
use Rattle.jl_types.specs.Events.Verdict as events
use Rattle.jl_callsites.specs.Faults.{world_of, new_site_fault, set_target_fault, new_switch_fault, invalidate_fault, with_site, with_target}
use Rattle.jl_callsites.specs.Faults.{with_switch, with_invalid}
use Rattle.jl_callsites.specs.Laws.{ComesTo, Releases}

-- what else is in the world isn't looked at
pub part_fault_same : (w : World) (c : ℕ) (ty : List ℕ) (t : Target) → part_fault (world_of w.classes w.sites) c ty t ≡ part_fault w c ty t
part_fault_same w c ty (Method m) = refl
part_fault_same w c ty (Guard p first fallback) = λ i.
    first_of (
    then_some (is_missing w.sites.switches p) UnknownSwitch
    ∷ part_fault_same w c ty first i
    ∷ part_fault_same w c ty fallback i
    ∷ [])
part_fault_same w c ty (Invoker d) = refl

pub target_fault_same : (w : World) (c : ℕ) (ty : List ℕ) (t : Target) → target_fault (world_of w.classes w.sites) c ty t ≡ target_fault w c ty t
target_fault_same w c ty t = λ i.
    first_of (then_some (nat_lt 64 (depth t) || nat_lt 255 (parts t)) TooDeep ∷ part_fault_same w c ty t i ∷ [])

pub new_site_fault_same : (most_call_sites : ℕ) (w : World) (ty : List ℕ) (t : Target)
    → new_site_fault most_call_sites w.classes w.sites ty t ≡ new_call_site_fault most_call_sites w ty t
new_site_fault_same most_call_sites w ty t = λ i.
    first_of (
    then_some (nat_le most_call_sites (length w.sites.call_sites)) Full
    ∷ target_fault_same w (length w.sites.call_sites) ty t i
    ∷ [])

set_target_fault_at : (w : World) (c : ℕ) (t : Target) (site : Option CallSiteRow)
    → events.set_target_fault (world_of w.classes w.sites) c site t ≡ events.set_target_fault w c site t
set_target_fault_at w c t None = refl
set_target_fault_at w c t (Some site) = constant_or (is_constant site.kind)
  where
    constant_or : (b : Bool) → (if b then Some Constant else target_fault (world_of w.classes w.sites) c site.ty t)
        ≡ (if b then Some Constant else target_fault w c site.ty t)
    constant_or true = refl
    constant_or false = target_fault_same w c site.ty t

pub set_target_fault_same : (w : World) (c : ℕ) (t : Target) → set_target_fault w.classes w.sites c t ≡ events.set_target_fault w c
    (unreleased w.sites.call_sites c) t
set_target_fault_same w c t = set_target_fault_at w c t (unreleased w.sites.call_sites c)

-- ---- the events

refused : (F : CallSiteFault → Refusal) (b : Bool) (f : CallSiteFault) → then_some b (F f) ≡ option_map F (then_some b f)
refused F true f = refl
refused F false f = refl

pub new_site_comes_to : (limits : Limits) (w : World) (kind : CallSiteKind) (ty : List ℕ) (t : Target)
    → ComesTo limits w (event.NewCallSite kind ty t) (new_site_fault limits.call_sites w.classes w.sites ty t) (made.CallSite (length w.sites.call_sites))
    (with_site w.sites kind ty t)
new_site_comes_to limits w kind ty t = record {
  verdict = ap (λ f. unless (option_map CallSite f) (made.CallSite (length w.sites.call_sites))) (sym (new_site_fault_same limits.call_sites w ty t));
  step = refl;
}

pub set_target_comes_to : (limits : Limits) (w : World) (c : ℕ) (t : Target)
    → ComesTo limits w (event.SetTarget c t) (set_target_fault w.classes w.sites c t) made.Nothing (with_target w.sites c t)
set_target_comes_to limits w c t = record {
  verdict = ap (λ f. unless (option_map CallSite f) made.Nothing) (sym (set_target_fault_same w c t));
  step = refl;
}

pub new_switch_comes_to : (limits : Limits) (w : World)
    → ComesTo limits w event.NewSwitch (new_switch_fault limits.switches w.sites) (made.Switch (length w.sites.switches)) (with_switch w.sites)
new_switch_comes_to limits w = record {
  verdict =
      ap (λ r. unless r (made.Switch (length w.sites.switches))) (refused CallSite (nat_le limits.switches (length w.sites.switches)) Full);
  step = refl;
}

pub invalidate_comes_to : (limits : Limits) (w : World) (points : List ℕ)
    → ComesTo limits w (event.Invalidate points) (invalidate_fault w.sites points) made.Nothing (with_invalid w.sites points)
invalidate_comes_to limits w points = record { verdict = refl; step = refl }

pub release_comes_to : (limits : Limits) (w : World) (call_sites points : List ℕ) → Releases limits w call_sites points
release_comes_to limits w call_sites points = record { verdict = refl; step = refl }
