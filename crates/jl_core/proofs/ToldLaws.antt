-- What a kept event tells of the event that it is of.
use Rattle.std.specs.Prelude.{◌≡◌, ℕ, Bool, false, List, Option, Some, None, option_map, slice_get}
use Rattle.std.proofs.Common.{refl, ap, sym, ◌∙◌}
use Rattle.std.proofs.lemmas.Option.{same_Some}
use Rattle.jl_types.specs.Events.Event.{Event}
use Rattle.jl_types.specs.declared.event.EventOf.TheVariants as event
use Rattle.jl_types.specs.Values.World.{Class}
use Rattle.jl_types.specs.Events.History.{installs}
use Rattle.jl_events.specs.Accepted.{Accepted, event_of}
use Rattle.jl_core.specs.ForProofs.Changes.{installs_at}

-- which sites it installs
module _ (rows : List Class) (e : Event) (s : ℕ) where
  as_event : (x : Event) (b : Bool) → Some x ≡ Some e → installs s x ≡ b → installs s e ≡ b
  as_event x b is none = ap (installs s) (sym (same_Some x e is)) ∙ none

  of_row : (loader : ℕ) (o : Option Class) → option_map (λ (row : Class). event.Define loader row.file) o ≡ Some e → installs s e ≡ false
  of_row loader None is = absurd (cc is)
  of_row loader (Some row) is = as_event (event.Define loader row.file) false is refl

  pub installs_so : (told : Accepted) → event_of rows told ≡ Some e → installs s e ≡ installs_at s told
  installs_so event.NewLoader is = as_event event.NewLoader false is refl
  installs_so (event.Define loader c) is = of_row loader (slice_get rows c) is
  installs_so (event.Delegate loader name to) is = as_event (event.Delegate loader name to) false is refl
  installs_so (event.Request place) is = as_event (event.Request place) false is refl
  installs_so (event.NewCallSite kind ty target) is = as_event (event.NewCallSite kind ty target) false is refl
  installs_so (event.SetTarget c target) is = as_event (event.SetTarget c target) false is refl
  installs_so event.NewSwitch is = as_event event.NewSwitch false is refl
  installs_so (event.Invalidate points) is = as_event (event.Invalidate points) false is refl
  installs_so (event.Bind site c) is = as_event (event.Bind site c) false is refl
  installs_so (event.Install links) is = as_event (event.Install links) (installs_at s (event.Install links)) is refl
  installs_so (event.Retire loader) is = as_event (event.Retire loader) false is refl
  installs_so (event.RetireAll loaders) is = as_event (event.RetireAll loaders) false is refl
  installs_so (event.Release call_sites points) is = as_event (event.Release call_sites points) false is refl
