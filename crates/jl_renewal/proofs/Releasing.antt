-- A release against which nothing speaks has no fault.
use Rattle.std.specs.Prelude.{◌≡◌, ◌&&◌, ◌||◌, ℕ, Bool, true, false, not, List, [], ◌∷◌, length, find, cond, Option, Some, None, option_map}
use Rattle.std.specs.List.{list_any, range_with_len}
use Rattle.std.proofs.Common.{refl}
use Rattle.jl_types.specs.declared.refusal.ReleaseFault.TheVariants.{UnknownCallSite, UnknownSwitch, Invoked, Guarded}
use Rattle.jl_types.specs.Values.Target.{Target}
use Rattle.jl_types.specs.Values.World.{CallSite, Sites, unreleased, is_missing}
use Rattle.jl_types.specs.Linkage.Resolution.{first_of}
use Rattle.jl_types.specs.Events.Retirement.{is_listed, has_target}
use Rattle.jl_types.specs.Events.Release.{invokes_one, guards_by_one, stays_with, first_with, release_fault}
use Rattle.jl_types.proofs.Releasing.{MayRelease}
use Rattle.jl_renewal.proofs.FitParts.{find_none}

-- nothing is found where none passes
unfound : (p : ℕ → Bool) (ks : List ℕ) → list_any p ks ≡ false → find p ks ≡ None
unfound p [] e = refl
unfound p (k ∷ ks) e = by_test (p k) e (unfound p ks)
  where
    by_test : (b : Bool) → (b || list_any p ks) ≡ false → (list_any p ks ≡ false → find p ks ≡ None) → cond b (Some k) (find p ks) ≡ None
    by_test true e rest = cc
    by_test false e rest = rest e

module _ (sites : Sites) (call_sites points : List ℕ) where
  none_first : (test : Target → Bool)
      → ((c : ℕ) (site : CallSite) → unreleased sites.call_sites c ≡ Some site → is_listed call_sites c ≡ false → test site.target ≡ false)
      → first_with sites call_sites test ≡ None
  none_first test h = find_none (stays_with sites call_sites test) (range_with_len 0 (length sites.call_sites)) each
    where
      by_row : (c : ℕ) (b : Bool) (o : Option CallSite) → is_listed call_sites c ≡ b → unreleased sites.call_sites c ≡ o
          → (not b && has_target test o) ≡ false
      by_row c true o is at = refl
      by_row c false None is at = refl
      by_row c false (Some site) is at = h c site at is

      each : (c : ℕ) → stays_with sites call_sites test c ≡ false
      each c = by_row c (is_listed call_sites c) (unreleased sites.call_sites c) refl refl

  pub no_release_fault : MayRelease sites call_sites points → release_fault sites call_sites points ≡ None
  no_release_fault may =
      let known = unfound (is_missing sites.call_sites) call_sites may.call_sites in
      let there = unfound (is_missing sites.switches) points may.switches in
      let invoked = none_first (invokes_one call_sites) may.uninvoked in
      let guarded = none_first (guards_by_one points) may.unguarded in
      λ i. first_of (
      option_map UnknownCallSite (known i) ∷ option_map UnknownSwitch (there i) ∷ option_map Invoked (invoked i) ∷ option_map Guarded (guarded i) ∷ [])
