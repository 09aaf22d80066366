-- What an accepted event finds there.
use Rattle.std.specs.Prelude.{◌≡◌, ℕ, ◌<◌, ◌^◌, true, false, nat_le, List, [], ◌∷◌, length, slice_get, Option, None, option_map, Ok, IsOk}
use Rattle.std.specs.Bool.{then_some}
use Rattle.std.specs.List.{list_any}
use Rattle.std.proofs.Common.{refl, ap, sym, ◌∙◌, arith}
use Rattle.jl_class.specs.Class.{ClassFile}
use Rattle.jl_types.specs.declared.event.EventOf.TheVariants as event
use Rattle.jl_types.specs.declared.event.Made.{Made}
use Rattle.jl_types.specs.declared.event.Made.TheVariants as made
use Rattle.jl_types.specs.declared.link.Link.{Link}
use Rattle.jl_types.specs.declared.target.CallSiteKind.{CallSiteKind}
use Rattle.jl_types.specs.declared.refusal.CallSiteFault.TheVariants.{Full}
use Rattle.jl_types.specs.declared.refusal.Refusal.{Refusal}
use Rattle.jl_types.specs.declared.refusal.Refusal.TheVariants as refusal
use Rattle.jl_types.specs.Values.Target.{Target}
use Rattle.jl_types.specs.Values.World.{World, unreleased, is_missing}
use Rattle.jl_types.specs.Events.Definitions.{define_fault, delegate_fault}
use Rattle.jl_types.specs.Events.Retirement.{MayRetire}
use Rattle.jl_types.specs.Events.Release.{release_fault}
use Rattle.jl_types.proofs.Retiring.{may_retire}
use Rattle.jl_types.proofs.Releasing.{may_release}
use Rattle.jl_relink.proofs.Closing.{free_loader, free_loaders}
use Rattle.jl_types.specs.Events.Verdict.{unless, new_call_site_fault, set_target_fault, invalidate_fault, bind_fault, install_fault}
use Rattle.jl_types.proofs.Within.{room_below, definition_has_room}
use Rattle.jl_hierarchy.specs.Constancy.{MayDefine}
use Rattle.jl_callsites.specs.Known.{is_known}
use Rattle.jl_callsites.proofs.Accepted as free
use Rattle.jl_events.specs.Changes.{IsAcceptable}
use Rattle.jl_events.proofs.CallSiteLaws.{no_fault, given_so, none_of}

-- what the event is answered is what it makes, at each limit at which it is accepted
pub made_so : (o : Option Refusal) (m n : Made) → n ≡ m → IsOk (unless o m) → unless o m ≡ Ok n
made_so o m n same ok = given_so o m ok ∙ ap (λ (k : Made). Ok k) (sym same)

module _ (w : World) where
  pub loader_room : IsAcceptable w event.NewLoader → length w.classes.loaders < 2 ^ 20
  loader_room ok =
      let most = ok.limits.loaders in
      let room = room_below most (length w.classes.loaders) refusal.LoadersFull
      (no_fault (then_some (nat_le most (length w.classes.loaders)) refusal.LoadersFull) (made.Loader (length w.classes.loaders)) ok.accepted) in
      let few = ok.allowed.few_loaders in
      omega (arith, room, few)

  module _ (loader : ℕ) (file : ClassFile) (ok : IsAcceptable w (event.Define loader file)) where
    none : define_fault ok.limits.classes w.classes loader file ≡ None
    none =
        let fault = define_fault ok.limits.classes w.classes loader file in
        none_of refusal.Define fault (no_fault (option_map refusal.Define fault) (made.Class (length w.classes.rows)) ok.accepted)

    pub definition_free : MayDefine w.classes loader file
    definition_free = record { most_classes = ok.limits.classes; accepted = none }

    pub definition_room : length w.classes.rows < 2 ^ 20
    definition_room =
        let room = definition_has_room ok.limits.classes w.classes loader file none in
        let few = ok.allowed.few_classes in
        omega (arith, room, few)

  pub delegation_free : (loader : ℕ) (name : List ℕ) (to : ℕ) → IsAcceptable w (event.Delegate loader name to) → delegate_fault w.classes loader name to ≡ None
  delegation_free loader name to ok =
      none_of refusal.Delegate (delegate_fault w.classes loader name to)
      (no_fault (option_map refusal.Delegate (delegate_fault w.classes loader name to)) made.Nothing ok.accepted)

  module _ (kind : CallSiteKind) (ty : List ℕ) (t : Target) (ok : IsAcceptable w (event.NewCallSite kind ty t)) where
    site_free : new_call_site_fault ok.limits.call_sites w ty t ≡ None
    site_free =
        none_of refusal.CallSite (new_call_site_fault ok.limits.call_sites w ty t)
        (no_fault (option_map refusal.CallSite (new_call_site_fault ok.limits.call_sites w ty t)) (made.CallSite (length w.sites.call_sites)) ok.accepted)

    pub site_room : length w.sites.call_sites < 2 ^ 20
    site_room =
        let room = free.site_room ok.limits.call_sites w ty t site_free in
        let few = ok.allowed.few_call_sites in
        omega (arith, room, few)

    pub site_points : is_known (length w.sites.switches) (length w.sites.call_sites) t ≡ true
    site_points = free.site_points ok.limits.call_sites w ty t site_free

  module _ (c : ℕ) (t : Target) (ok : IsAcceptable w (event.SetTarget c t)) where
    target_free : set_target_fault w c (unreleased w.sites.call_sites c) t ≡ None
    target_free =
        none_of refusal.CallSite (set_target_fault w c (unreleased w.sites.call_sites c) t)
        (no_fault (option_map refusal.CallSite (set_target_fault w c (unreleased w.sites.call_sites c) t)) made.Nothing ok.accepted)

    pub target_there : is_missing w.sites.call_sites c ≡ false
    target_there = free.target_there w c t (unreleased w.sites.call_sites c) refl target_free

    pub target_points : is_known (length w.sites.switches) c t ≡ true
    target_points = free.target_points w c t (unreleased w.sites.call_sites c) target_free

  pub switch_room : IsAcceptable w event.NewSwitch → length w.sites.switches < 2 ^ 20
  switch_room ok =
      let most = ok.limits.switches in
      let room = room_below most (length w.sites.switches) (refusal.CallSite Full)
      (no_fault (then_some (nat_le most (length w.sites.switches)) (refusal.CallSite Full)) (made.Switch (length w.sites.switches)) ok.accepted) in
      let few = ok.allowed.few_switches in
      omega (arith, room, few)

  pub points_there : (points : List ℕ) → IsAcceptable w (event.Invalidate points) → list_any (nat_le (length w.sites.switches)) points ≡ false
  points_there points ok =
      free.points_there w points
      (none_of refusal.CallSite (invalidate_fault w points)
      (no_fault (option_map refusal.CallSite (invalidate_fault w points)) made.Nothing ok.accepted))

  pub binding_free : (s c : ℕ) → IsAcceptable w (event.Bind s c) → bind_fault w s c (slice_get w.places s) ≡ None
  binding_free s c ok = no_fault (bind_fault w s c (slice_get w.places s)) made.Nothing ok.accepted

  pub rows_free : (rows : List (ℕ × Link)) → IsAcceptable w (event.Install rows) → install_fault w rows ≡ None
  rows_free rows ok = no_fault (install_fault w rows) made.Nothing ok.accepted

  pub retirement_free : (loader : ℕ) → IsAcceptable w (event.Retire loader) → MayRetire w.classes (loader ∷ [])
  retirement_free loader ok = may_retire w (loader ∷ []) (free_loader ok.limits w loader ok.accepted)

  pub retirements_free : (loaders : List ℕ) → IsAcceptable w (event.RetireAll loaders) → MayRetire w.classes loaders
  retirements_free loaders ok = may_retire w loaders (free_loaders ok.limits w loaders ok.accepted)

  module _ (call_sites points : List ℕ) (ok : IsAcceptable w (event.Release call_sites points)) where
    release_free : release_fault w.sites call_sites points ≡ None
    release_free =
        none_of refusal.Release (release_fault w.sites call_sites points)
        (no_fault (option_map refusal.Release (release_fault w.sites call_sites points)) made.Nothing ok.accepted)

    pub released_there : list_any (is_missing w.sites.call_sites) call_sites ≡ false
    released_there = (may_release w.sites call_sites points release_free).call_sites

    pub released_points : list_any (is_missing w.sites.switches) points ≡ false
    released_points = (may_release w.sites call_sites points release_free).switches
