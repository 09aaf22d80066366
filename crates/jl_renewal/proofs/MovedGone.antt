-- An accepted event that names no call site names nothing that is gone.
use Rattle.std.specs.Prelude.{◌≡◌, ℕ, ◌||◌, not, nat_le, Bool, true, false, [], ◌∷◌, length, Option, Some, option_map, option_and_then, is_some, IsOk}
use Rattle.std.specs.Prelude.{Err, if◌then◌else◌}
use Rattle.std.specs.Bool.{then_some}
use Rattle.std.proofs.Common.{refl, ap, ◌∙◌}
use Rattle.std.proofs.lemmas.Bool.{leb-false, or_parts}
use Rattle.std.proofs.lemmas.Cmp.{nat_eq_equiv}
use Rattle.jl_types.specs.declared.limits.Limits.{Limits}
use Rattle.jl_types.specs.declared.ids.Place.{Place}
use Rattle.jl_types.specs.declared.event.EventOf.TheVariants as event
use Rattle.jl_types.specs.declared.refusal.Refusal.TheVariants as refusal
use Rattle.jl_types.specs.declared.refusal.DelegateFault.TheVariants as delegate
use Rattle.jl_types.specs.Values.World.{World, Classes}
use Rattle.jl_types.specs.Values.Members.{is_present, is_retired}
use Rattle.jl_types.specs.Linkage.Stages.{invocation_at}
use Rattle.jl_types.specs.Events.Event.{Event}
use Rattle.jl_types.specs.Events.Definitions.{define_fault, delegate_fault, is_unknown}
use Rattle.jl_types.specs.Events.Verdict.{verdict, if_invoked}
use Rattle.jl_types.proofs.Firsts.{first_none, test_none}
use Rattle.jl_types.proofs.Lists.{passes_within}
use Rattle.jl_types.proofs.Retiring.{listed_alone, may_retire, is_free as free_to_retire}
use Rattle.jl_relink.proofs.Closing.{no_fault, free_loader}
use Rattle.jl_renewal.specs.Numbers.{Numbers, new_number}
use Rattle.jl_renewal.specs.Carries.{carried}
use Rattle.jl_renewal.specs.Moved.{Flags, Rests, all_numbers, may_be_gone}
use Rattle.jl_renewal.proofs.ClassSteps.{is_free}
use Rattle.jl_renewal.proofs.MovedCarries.{number_at}
use Rattle.jl_renewal.proofs.MovedClasses.{live_stays, present_stays}

module _ (k : Flags) (w : World) (rests : Rests k w) where
  abbrev cs : Classes
  cs = w.classes

  abbrev n : Numbers
  n = all_numbers k w

  loader_number : (l : ℕ) → is_unknown cs l ≡ false → (m : ℕ) × (new_number n.loaders l ≡ Some m)
  loader_number l known =
      let parts = or_parts (nat_le (length cs.loaders) l) (is_retired cs l) known in
      let m = live_stays k w rests l parts.1 in
      (m.0, number_at k.loaders (length cs.loaders) l (leb-false (length cs.loaders) l parts.0) ∙ m.1)

  class_number : (c : ℕ) → is_present cs c ≡ true → (d : ℕ) × (new_number n.classes c ≡ Some d)
  class_number c present =
      let d = present_stays k w rests c present in
      (d.0, number_at k.classes (length cs.rows) c (passes_within (λ row. not (is_retired cs row.loader)) cs.rows c present) ∙ d.1)

  requested_present : (limits : Limits) (place : Place) (b : Bool) → is_present cs place.class ≡ b
      → IsOk (if b then if_invoked limits w place (invocation_at cs place) else Err refusal.UnknownClass) → is_present cs place.class ≡ true
  requested_present limits place true is ok = is
  requested_present limits place false is ok = cc

  pub is_there : (limits : Limits) (e : Event) → IsOk (verdict limits w e) → may_be_gone e ≡ false → is_some (carried n e) ≡ true
  is_there limits event.NewLoader ok e = refl
  is_there limits (event.Define loader file) ok e =
      let free = is_free limits.classes cs loader file (no_fault refusal.Define (define_fault limits.classes cs loader file) _ ok) in
      ap (λ (o : Option ℕ). is_some {T = Event} (option_map (λ (l : ℕ). event.Define l file) o)) (loader_number loader free.known).1
  is_there limits (event.Delegate loader name to) ok e =
      let none = no_fault refusal.Delegate (delegate_fault cs loader name to) _ ok in
      let unknown = first_none (then_some (is_unknown cs loader || is_unknown cs to) delegate.UnknownLoader) _ none in
      let both = or_parts (is_unknown cs loader) (is_unknown cs to) (test_none _ delegate.UnknownLoader unknown.0) in
      let l = loader_number loader both.0 in
      ap (λ (o : Option ℕ). is_some {T = Event} (option_and_then {U = Event} (λ (l : ℕ). option_map (event.Delegate l name) (new_number n.loaders to)) o)) l.1
      ∙ ap (λ (o : Option ℕ). is_some {T = Event} (option_map (event.Delegate l.0 name) o)) (loader_number to both.1).1
  is_there limits (event.Request place) ok e =
      let present = requested_present limits place (is_present cs place.class) refl ok in
      ap (λ (o : Option ℕ). is_some {T = Event} (option_map (λ (c : ℕ). event.Request (record place { class = c })) o)) (class_number place.class present).1
  is_there limits (event.NewCallSite kind ty target) ok e = cc
  is_there limits (event.SetTarget c target) ok e = cc
  is_there limits event.NewSwitch ok e = refl
  is_there limits (event.Invalidate points) ok e = refl
  is_there limits (event.Bind s c) ok e = cc
  is_there limits (event.Install rows) ok e = cc
  is_there limits (event.Retire loader) ok e =
      let one = free_to_retire cs (loader ∷ []) (may_retire w (loader ∷ []) (free_loader limits w loader ok)) in
      let known = one.known loader (listed_alone loader loader ∙ nat_eq_equiv.refl loader) in
      ap (λ (o : Option ℕ). is_some {T = Event} (option_map event.Retire o)) (loader_number loader known).1
  is_there limits (event.RetireAll loaders) ok e = refl
  is_there limits (event.Release call_sites points) ok e = refl
