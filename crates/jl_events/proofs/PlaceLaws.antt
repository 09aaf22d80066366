-- The request of a place.
use Rattle.std.specs.Prelude.{◌≡◌, ℕ, Bool, true, false, if◌then◌else◌, position, length, Option, Some, None, is_some, Ok, Err, IsOk}
use Rattle.std.proofs.Common.{refl, ap, sym, subst, ◌∙◌}
use Rattle.jl_types.specs.declared.limits.Limits.{Limits}
use Rattle.jl_class.specs.Site.{Site}
use Rattle.jl_types.specs.declared.ids.Place.{Place}
use Rattle.jl_types.specs.declared.event.Made.TheVariants as made
use Rattle.jl_types.specs.declared.refusal.Refusal.{Refusal}
use Rattle.jl_types.specs.declared.refusal.Refusal.TheVariants.{UnknownClass}
use Rattle.jl_types.specs.declared.event.EventOf.TheVariants as event
use Rattle.jl_types.specs.Values.Members.{is_present}
use Rattle.jl_types.specs.Events.Verdict.{same_place, new_place_fault, request_place, if_invoked, unless, verdict}
use Rattle.jl_types.specs.Values.World.{World}
use Rattle.jl_types.specs.Linkage.Stages.{invocation_at}
use Rattle.jl_events.proofs.CallSiteLaws.{given_so}

-- ---- one place more

pub accepted_so : (limits : Limits) (w : World) (place : Place) (site : Site) (o : Option ℕ) → is_present w.classes place.class ≡ true
    → invocation_at w.classes place ≡ Some site → position (same_place place) w.places ≡ o → (o ≡ None → new_place_fault limits w site ≡ None)
    → IsOk (verdict limits w (event.Request place))
accepted_so limits w place site o present e p free =
    subst IsOk
    (sym (ap (λ (b : Bool). if b then if_invoked limits w place (invocation_at w.classes place) else Err UnknownClass) present
    ∙ ap (if_invoked limits w place) e
    ∙ ap (λ (o : Option ℕ). request_place limits w o site) p))
    (by_number o free)
  where
    by_number : (o : Option ℕ) → (o ≡ None → new_place_fault limits w site ≡ None) → IsOk (request_place limits w o site)
    by_number (Some s) free = refl
    by_number None free = subst (λ (f : Option Refusal). IsOk (unless f (made.Site (length w.places)))) (sym (free refl)) refl

pub not_some : {A : Type 0} (o : Option A) → is_some o ≡ false → o ≡ None
not_some None e = refl
not_some (Some x) e = cc

pub some_not_none : (o : Option ℕ) → is_some o ≡ true → o ≡ None → ⊥
some_not_none None h e = cc
some_not_none (Some n) h e = cc

pub refused_new : (limits : Limits) (w : World) (place : Place) (site : Site) (r : Refusal) → is_present w.classes place.class ≡ true
    → invocation_at w.classes place ≡ Some site → position (same_place place) w.places ≡ None → new_place_fault limits w site ≡ Some r
    → verdict limits w (event.Request place) ≡ Err r
refused_new limits w place site r present e p f =
    ap (λ (b : Bool). if b then if_invoked limits w place (invocation_at w.classes place) else Err UnknownClass) present
    ∙ ap (if_invoked limits w place) e
    ∙ ap (λ (o : Option ℕ). request_place limits w o site) p
    ∙ ap (λ (o : Option Refusal). unless o (made.Site (length w.places))) f

-- ---- what an accepted request is answered

-- the number that the place has
pub known_so : (limits : Limits) (w : World) (place : Place) (s : ℕ) → position (same_place place) w.places ≡ Some s
    → IsOk (verdict limits w (event.Request place)) → verdict limits w (event.Request place) ≡ Ok (made.Site s)
known_so limits w place s at = by_cases (is_present w.classes place.class) (invocation_at w.classes place)
  where
    by_cases : (b : Bool) (o : Option Site) → IsOk (if b then if_invoked limits w place o else Err UnknownClass)
        → (if b then if_invoked limits w place o else Err UnknownClass) ≡ Ok (made.Site s)
    by_cases false o ok = cc
    by_cases true None ok = cc
    by_cases true (Some site) ok = ap (λ (o : Option ℕ). request_place limits w o site) at

-- the next number
pub new_so : (limits : Limits) (w : World) (place : Place) → position (same_place place) w.places ≡ None
    → IsOk (verdict limits w (event.Request place)) → verdict limits w (event.Request place) ≡ Ok (made.Site (length w.places))
new_so limits w place none = by_cases (is_present w.classes place.class) (invocation_at w.classes place)
  where
    by_cases : (b : Bool) (o : Option Site) → IsOk (if b then if_invoked limits w place o else Err UnknownClass)
        → (if b then if_invoked limits w place o else Err UnknownClass) ≡ Ok (made.Site (length w.places))
    by_cases false o ok = cc
    by_cases true None ok = cc
    by_cases true (Some site) ok =
        let so = ap (λ (o : Option ℕ). request_place limits w o site) none in
        so ∙ given_so (new_place_fault limits w site) (made.Site (length w.places)) (subst IsOk so ok)
