-- The verdicts on events of call sites, switch points and bindings.
use Rattle.std.specs.Prelude.{◌≡◌, ℕ, Bool, true, false, if◌then◌else◌, List, Option, Some, None, option_map, Result, Ok, IsOk, slice_get, length}
use Rattle.std.proofs.Common.{refl, ap, sym, subst, ◌∙◌}
use Rattle.jl_types.specs.declared.limits.Limits.{Limits}
use Rattle.jl_class.specs.declared.site.Operand.{Operand}
use Rattle.jl_class.specs.declared.site.Operand.TheVariants as operand
use Rattle.jl_class.specs.Site.{Site}
use Rattle.jl_types.specs.declared.ids.Place.{Place}
use Rattle.jl_types.specs.Events.Event.{Event}
use Rattle.jl_types.specs.declared.event.EventOf.TheVariants as event
use Rattle.jl_types.specs.declared.event.Made.{Made}
use Rattle.jl_types.specs.declared.event.Made.TheVariants as made
use Rattle.jl_types.specs.declared.target.CallSiteKind.{CallSiteKind}
use Rattle.jl_types.specs.declared.refusal.CallSiteFault.{CallSiteFault}
use Rattle.jl_types.specs.declared.refusal.Refusal.{Refusal}
use Rattle.jl_types.specs.declared.refusal.Refusal.TheVariants.{AlreadyBound, CallSite, UnknownSite}
use Rattle.jl_types.specs.Values.Target.{Target}
use Rattle.jl_types.specs.Values.World.{World}
use Rattle.jl_types.specs.Values.Members.{is_present}
use Rattle.jl_types.specs.Linkage.Stages.{bound_to, invocation_at}
use Rattle.jl_types.specs.Events.Verdict.{unless, verdict, operand_fault, bind_at, bind_fault}
use Rattle.jl_types.proofs.Firsts.{first_none}
use Rattle.jl_callsites.specs.Faults.{new_site_fault, set_target_fault}
use Rattle.jl_callsites.proofs.Worlds.{new_site_comes_to, set_target_comes_to}
use Rattle.jl_events.specs.Judging.{IsJudged}

module _ (limits : Limits) (w : World) (kind : CallSiteKind) (ty : List ℕ) (t : Target) where
  pub new_site_verdict : (o : Option CallSiteFault) → new_site_fault limits.call_sites w.classes w.sites ty t ≡ o
      → verdict limits w (event.NewCallSite kind ty t) ≡ unless (option_map CallSite o) (made.CallSite (length w.sites.call_sites))
  new_site_verdict o e = (new_site_comes_to limits w kind ty t).verdict ∙ ap (λ f. unless (option_map CallSite f) (made.CallSite (length w.sites.call_sites))) e

pub set_target_verdict : (limits : Limits) (w : World) (c : ℕ) (t : Target) (o : Option CallSiteFault) → set_target_fault w.classes w.sites c t ≡ o
    → verdict limits w (event.SetTarget c t) ≡ unless (option_map CallSite o) made.Nothing
set_target_verdict limits w c t o e = (set_target_comes_to limits w c t).verdict ∙ ap (λ f. unless (option_map CallSite f) made.Nothing) e

no_number : (F : ℕ → Refusal) (o : Option ℕ) → option_map F o ≡ None → o ≡ None
no_number F None e = refl
no_number F (Some c) e = cc

-- a site that may be bound is not bound
pub free_to_bind : (w : World) (s c : ℕ) → bind_fault w s c (slice_get w.places s) ≡ None → bound_to w s ≡ None
free_to_bind w s c = by_place (slice_get w.places s)
  where
    by_operand : (o : Operand (List ℕ)) → operand_fault w s c o ≡ None → bound_to w s ≡ None
    by_operand (operand.Method ref) e = cc
    by_operand (operand.CallSite specifier) e = no_number AlreadyBound (bound_to w s) (first_none _ _ e).0

    by_invocation : (o : Option Site) → bind_at w s c o ≡ None → bound_to w s ≡ None
    by_invocation None e = cc
    by_invocation (Some site) e = by_operand site.operand e

    by_place : (o : Option Place) → bind_fault w s c o ≡ None → bound_to w s ≡ None
    by_place None e = cc
    by_place (Some place) e = by_class (is_present w.classes place.class) e
      where
        by_class : (b : Bool) → (if b then bind_at w s c (invocation_at w.classes place) else Some (UnknownSite s)) ≡ None → bound_to w s ≡ None
        by_class true e = by_invocation (invocation_at w.classes place) e
        by_class false e = cc

-- what is accepted has no fault
pub no_fault : (o : Option Refusal) (m : Made) → IsOk (unless o m) → o ≡ None
no_fault None m is = refl
no_fault (Some r) m is = cc

-- and is answered so
pub given_so : (o : Option Refusal) (m : Made) → IsOk (unless o m) → unless o m ≡ Ok m
given_so None m is = refl
given_so (Some r) m is = cc

pub none_of : {F : Type 0} (R : F → Refusal) (o : Option F) → option_map R o ≡ None → o ≡ None
none_of R None e = refl
none_of R (Some f) e = cc

-- ---- what is judged

pub as_judged : (limits : Limits) (w : World) (asked e : Event) (o f : Option Refusal) (m : Made) (r : Result Event Refusal) → asked ≡ e
    → verdict limits w e ≡ unless f m → o ≡ f → IsJudged (unless o m) e r → IsJudged (verdict limits w asked) asked r
as_judged limits w asked e o f m r is given same judged =
    subst (λ (x : Event). IsJudged (verdict limits w x) x r) (sym is)
    (subst (λ (v : Result Made Refusal). IsJudged v e r) (sym given) (subst (λ (p : Option Refusal). IsJudged (unless p m) e r) same judged))
