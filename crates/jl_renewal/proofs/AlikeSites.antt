-- Places, bindings and call sites of an old world, and what they are in a fresh one.
use Rattle.std.specs.Prelude.{◌≡◌, ◌<◌, ◌==◌, ℕ, Bool, true, false, find, length, slice_get, Some, None, option_map, option_and_then}
use Rattle.jl_types.specs.declared.ids.Place.{Place}
use Rattle.jl_types.specs.Values.World.{World, CallSite, unreleased, is_missing}
use Rattle.jl_types.specs.Values.Members.{is_present}
use Rattle.jl_types.specs.Linkage.Targets.{is_valid, method_of}
use Rattle.jl_types.specs.Linkage.Stages.{bound_to}
use Rattle.jl_renewal.specs.Numbers.{Numbers, renumbered}
use Rattle.jl_renewal.specs.Staying.{is_in_staying_class, has_lost_call_site, is_alive, invokes, guards_by}
use Rattle.jl_renewal.specs.Renewed.{renumbered_place, renumbered_binding, renumbered_call_site}
use Rattle.jl_renewal.proofs.Fit.{IsFit}
use Rattle.jl_renewal.proofs.Alike.{AreAlike}

-- what there is to link in w is there in v under new numbers, but for what is gone, where these call sites stay
pub record SitesAlike (n : Numbers) (w v : World) (stays : ℕ → Bool) : Type 0 where
  pub fit : IsFit w
  pub alike : AreAlike n w.classes v.classes
  pub places : (s : ℕ) (place : Place) → slice_get w.places s ≡ Some place → is_present w.classes place.class ≡ true
      → slice_get v.places (renumbered n.sites s) ≡ Some (renumbered_place n place)
  -- the binding of a site that isn't gone
  pub bindings : (s : ℕ) → is_alive w s ≡ true
      → find (λ b. b.0 == renumbered n.sites s) v.bindings ≡ option_map (renumbered_binding n) (find (λ b. b.0 == s) w.bindings)
  -- a site whose call site is released runs nothing there
  pub lost : (s : ℕ) → is_in_staying_class w s ≡ true → has_lost_call_site w s ≡ true
      → option_and_then (method_of v.sites) (bound_to v (renumbered n.sites s)) ≡ None
  -- the call site to which a site that stays is bound, unless that is released
  pub bound : (i : ℕ) (b : ℕ × ℕ) → slice_get w.bindings i ≡ Some b → is_missing w.sites.call_sites b.1 ≡ false → is_in_staying_class w b.0 ≡ true
      → stays b.1 ≡ true
  pub rows : (c : ℕ) (site : CallSite) → stays c ≡ true → unreleased w.sites.call_sites c ≡ Some site
      → unreleased v.sites.call_sites (renumbered n.call_sites c) ≡ Some (renumbered_call_site n site)
  pub order : (d c : ℕ) → stays d ≡ true → stays c ≡ true → d < c → c < length w.sites.call_sites
      → renumbered n.call_sites d < renumbered n.call_sites c
  -- an earlier one that a target invokes, and a switch point by which it guards
  pub invoked : (c d : ℕ) (site : CallSite) → unreleased w.sites.call_sites c ≡ Some site → stays c ≡ true → d < c
      → is_missing w.sites.call_sites d ≡ false → invokes d site.target ≡ true → stays d ≡ true
  pub valid : (c p : ℕ) (site : CallSite) → unreleased w.sites.call_sites c ≡ Some site → stays c ≡ true → is_missing w.sites.switches p ≡ false
      → guards_by p site.target ≡ true → is_valid v.sites (renumbered n.switches p) ≡ is_valid w.sites p
