-- Each event that the old core accepts after a renewal is accepted in the fresh one, under new numbers, where it names nothing that is gone.
use Rattle.std.specs.Prelude.{◌≡◌, ℕ, filter_map, slice_get, Some, option_map}
use Rattle.std.specs.Prelude.{IsOk}
use Rattle.std.proofs.Common.{subst}
use Rattle.std.proofs.lemmas.Option.{same_Some}
use Rattle.jl_types.specs.declared.limits.Limits.{Limits}
use Rattle.jl_types.specs.declared.event.EventOf.TheVariants as event
use Rattle.jl_types.specs.declared.event.Made.TheVariants as made
use Rattle.jl_types.specs.Values.World.{World}
use Rattle.jl_types.specs.Values.Ancestry.{AreOrdered}
use Rattle.jl_types.specs.Events.Event.{Event}
use Rattle.jl_types.specs.Events.Limits.{AreNoFewer}
use Rattle.jl_types.specs.Events.Verdict.{verdict, bind_fault}
use Rattle.jl_hierarchy.specs.Constancy.{IsClosed}
use Rattle.jl_events.proofs.CallSiteLaws.{no_fault as no_refusal}
use Rattle.jl_renewal.specs.Moved.{Flags, Rests, Names, moved, target_there, event_there}
use Rattle.jl_renewal.proofs.MovedFollows.{Follows}
use Rattle.jl_renewal.proofs.Fit.{IsFit}
use Rattle.jl_renewal.proofs.FitSites.{is_bound}
use Rattle.jl_renewal.proofs.MovedTargets.{inv_map, inv_then}
use Rattle.jl_renewal.proofs.MovedSites.{switch_follows, invalidation_follows, call_site_follows, target_follows, request_follows, binding_follows}
use Rattle.jl_renewal.proofs.MovedSteps.{loader_follows, definition_follows, delegation_follows}
use Rattle.jl_renewal.proofs.MovedReleasing.{release_follows}
use Rattle.jl_renewal.proofs.MovedRetiring.{retirement_follows, retirements_follow}

module _ (k : Flags) (w : World) (rests : Rests k w) (names : Names k w) (fit : IsFit w) (closed : IsClosed w.classes) (ordered : AreOrdered w.classes.rows)
    (limits more : Limits) (most : AreNoFewer limits more) where
  pub each_follows : (e f : Event) → event_there k e ≡ Some f → IsOk (verdict limits w e) → Follows more k w e f
  each_follows event.NewLoader f there accepted =
      subst (Follows more k w event.NewLoader) (same_Some event.NewLoader f there) (loader_follows k w rests limits more most accepted)
  each_follows (event.Define loader file) f there accepted =
      let m = inv_map (λ (l : ℕ). event.Define l file) (moved k.loaders loader) f there in
      subst (Follows more k w (event.Define loader file)) m.2 (definition_follows k w rests limits more most loader m.0 m.1 file accepted)
  each_follows (event.Delegate loader name to) f there accepted =
      let m = inv_then (λ (l : ℕ). option_map (event.Delegate l name) (moved k.loaders to)) (moved k.loaders loader) f there in
      let n = inv_map (event.Delegate m.0 name) (moved k.loaders to) f m.2 in
      subst (Follows more k w (event.Delegate loader name to)) n.2 (delegation_follows k w rests limits more most loader m.0 m.1 name to n.0 n.1 accepted)
  each_follows (event.Request place) f there accepted =
      let d = inv_map (λ (c : ℕ). event.Request (record place { class = c })) (moved k.classes place.class) f there in
      subst (Follows more k w (event.Request place)) d.2 (request_follows k w rests limits more most place d.0 d.1 accepted)
  each_follows (event.NewCallSite kind ty t) f there accepted =
      let u = inv_map (event.NewCallSite kind ty) (target_there k t) f there in
      subst (Follows more k w (event.NewCallSite kind ty t)) u.2 (call_site_follows k w rests limits more most kind ty t u.0 u.1 accepted)
  each_follows (event.SetTarget c t) f there accepted =
      let d = inv_then (λ (d : ℕ). option_map (event.SetTarget d) (target_there k t)) (moved k.call_sites c) f there in
      let u = inv_map (event.SetTarget d.0) (target_there k t) f d.2 in
      subst (Follows more k w (event.SetTarget c t)) u.2 (target_follows k w rests limits more most c d.0 t u.0 d.1 u.1 accepted)
  each_follows event.NewSwitch f there accepted =
      subst (Follows more k w event.NewSwitch) (same_Some event.NewSwitch f there) (switch_follows k w rests limits more most accepted)
  each_follows (event.Invalidate points) f there accepted =
      subst (Follows more k w (event.Invalidate points)) (same_Some (event.Invalidate (filter_map (moved k.switches) points)) f there)
      (invalidation_follows k w rests limits more most points accepted)
  each_follows (event.Bind s c) f there accepted =
      let t = inv_then (λ (t : ℕ). option_map (event.Bind t) (moved k.call_sites c)) (moved k.sites s) f there in
      let d = inv_map (event.Bind t.0) (moved k.call_sites c) f t.2 in
      subst (Follows more k w (event.Bind s c)) d.2
      (binding_follows k w rests limits more s c t.0 d.0 t.1 d.1 accepted
      (is_bound w fit s c (no_refusal (bind_fault w s c (slice_get w.places s)) made.Nothing accepted)))
  each_follows (event.Install rows) f there accepted = cc
  each_follows (event.Retire loader) f there accepted =
      let m = inv_map event.Retire (moved k.loaders loader) f there in
      subst (Follows more k w (event.Retire loader)) m.2 (retirement_follows k w rests fit closed ordered loader m.0 m.1 limits more accepted)
  each_follows (event.RetireAll loaders) f there accepted =
      subst (Follows more k w (event.RetireAll loaders)) (same_Some (event.RetireAll (filter_map (moved k.loaders) loaders)) f there)
      (retirements_follow k w rests fit closed ordered loaders limits more accepted)
  each_follows (event.Release call_sites points) f there accepted =
      subst (Follows more k w (event.Release call_sites points))
      (same_Some (event.Release (filter_map (moved k.call_sites) call_sites) (filter_map (moved k.switches) points)) f there)
      (release_follows k w rests names call_sites points limits more accepted)
