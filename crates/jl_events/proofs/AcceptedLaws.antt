-- What is kept of an event tells the same as classes are added.
use Rattle.std.specs.Prelude.{◌≡◌, ℕ, true, List, length, slice_get, Option, Some, None, option_map, is_some}
use Rattle.std.proofs.Common.{refl, ap, ◌∙◌}
use Rattle.std.proofs.lemmas.Option.{slice_get_within}
use Rattle.jl_class.specs.Class.{ClassFile}
use Rattle.jl_types.specs.Events.Event.{Event}
use Rattle.jl_types.specs.declared.event.EventOf.TheVariants as event
use Rattle.jl_types.specs.Values.World.{Class, Classes, World}
use Rattle.jl_types.specs.Events.Verdict.{step}
use Rattle.jl_types.specs.Events.Definitions.{class_made, defined}
use Rattle.jl_types.proofs.Lists.{before_end, at_end}
use Rattle.jl_events.specs.Accepted.{Accepted, event_of}
use Rattle.jl_events.specs.Changes.{class_of}

-- a class stays where it is
pub rows_stay : (w : World) (e : Event) (c : ℕ) (row : Class) → slice_get w.classes.rows c ≡ Some row → slice_get (step w e).classes.rows c ≡ Some row
rows_stay w event.NewLoader c row is = is
rows_stay w (event.Define loader file) c row is = before_end w.classes.rows (class_made w.classes loader file) c (slice_get_within w.classes.rows c row is) ∙ is
rows_stay w (event.Delegate loader name to) c row is = is
rows_stay w (event.Request place) c row is = is
rows_stay w (event.NewCallSite kind ty target) c row is = is
rows_stay w (event.SetTarget site target) c row is = is
rows_stay w event.NewSwitch c row is = is
rows_stay w (event.Invalidate points) c row is = is
rows_stay w (event.Bind site call_site) c row is = is
rows_stay w (event.Install links) c row is = is
rows_stay w (event.Retire loader) c row is = is
rows_stay w (event.RetireAll loaders) c row is = is
rows_stay w (event.Release call_sites points) c row is = is

-- ---- where the classes stay

module _ (rows more : List Class) (stay : (c : ℕ) (row : Class) → slice_get rows c ≡ Some row → slice_get more c ≡ Some row) where
  abbrev told_definition : ℕ → Option Class → Option Event
  told_definition loader row = option_map (λ (r : Class). event.Define loader r.file) row

  definition_still : (loader c : ℕ) (o : Option Class) → slice_get rows c ≡ o → is_some (told_definition loader o) ≡ true
      → told_definition loader (slice_get more c) ≡ told_definition loader o
  definition_still loader c None is e = cc
  definition_still loader c (Some row) is e = ap (told_definition loader) (stay c row is)

  pub event_still : (a : Accepted) → is_some (event_of rows a) ≡ true → event_of more a ≡ event_of rows a
  event_still event.NewLoader e = refl
  event_still (event.Define loader c) e = definition_still loader c (slice_get rows c) refl e
  event_still (event.Delegate loader name to) e = refl
  event_still (event.Request place) e = refl
  event_still (event.NewCallSite kind ty target) e = refl
  event_still (event.SetTarget site target) e = refl
  event_still event.NewSwitch e = refl
  event_still (event.Invalidate points) e = refl
  event_still (event.Bind site call_site) e = refl
  event_still (event.Install links) e = refl
  event_still (event.Retire loader) e = refl
  event_still (event.RetireAll loaders) e = refl
  event_still (event.Release call_sites points) e = refl

-- a definition names the class that it made
pub defines : (cs : Classes) (loader : ℕ) (file : ClassFile)
    → event_of (defined cs loader file).rows (event.Define loader (length cs.rows)) ≡ Some (event.Define loader file)
defines cs loader file = ap (option_map (λ (row : Class). event.Define loader row.file)) (at_end cs.rows (class_made cs loader file))

-- ---- what it defines

pub no_class : (told : Accepted) → ((loader c : ℕ) → told ≡ event.Define loader c → ⊥) → class_of told ≡ None
no_class event.NewLoader other = refl
no_class (event.Define loader c) other = absurd (other loader c refl)
no_class (event.Delegate loader name to) other = refl
no_class (event.Request place) other = refl
no_class (event.NewCallSite kind ty target) other = refl
no_class (event.SetTarget c target) other = refl
no_class event.NewSwitch other = refl
no_class (event.Invalidate points) other = refl
no_class (event.Bind s c) other = refl
no_class (event.Install rows) other = refl
no_class (event.Retire loader) other = refl
no_class (event.RetireAll loaders) other = refl
no_class (event.Release call_sites points) other = refl
