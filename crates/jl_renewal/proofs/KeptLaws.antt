-- What a log keeps where it forgets is all that a renewal is told of it.
use Rattle.std.specs.Prelude.{◌≡◌, Bool, true, false, List, [], ◌∷◌, ◌++◌, filter, filter_map, Option, None, cond}
use Rattle.std.specs.List.{cons_option}
use Rattle.std.proofs.Common.{refl, sym, ap, ◌∙◌}
use Rattle.std.proofs.lemmas.List.Elements.{filter_map-append}
use Rattle.jl_types.specs.Events.Event.{Event}
use Rattle.jl_types.specs.declared.event.EventOf.TheVariants as event
use Rattle.jl_types.specs.Values.World.{World}
use Rattle.jl_events.specs.Accepted.{Accepted}
use Rattle.jl_core.specs.Logs.{Entry, is_kept, tells_classes}
use Rattle.jl_renewal.specs.Numbers.{Numbers}
use Rattle.jl_renewal.specs.Told.{accepted_event, told_events}

-- ---- a list without what comes to nothing

module _ {A B : Type 0} (f : A → Option B) (keeps : A → Bool) (nothing : (x : A) → keeps x ≡ false → f x ≡ None) where
  one : (b : Bool) (x : A) (kept rest : List A) → keeps x ≡ b → filter_map f kept ≡ filter_map f rest
      → filter_map f (cond b (x ∷ kept) kept) ≡ cons_option (f x) (filter_map f rest)
  one true x kept rest is same = ap (cons_option (f x)) same
  one false x kept rest is same = same ∙ ap (λ (o : Option B). cons_option o (filter_map f rest)) (sym (nothing x is))

  pub by_kept : (xs : List A) → filter_map f (filter keeps xs) ≡ filter_map f xs
  by_kept [] = refl
  by_kept (x ∷ xs) = one (keeps x) x (filter keeps xs) xs refl (by_kept xs)

-- ---- a log

-- what a log need not keep tells a renewal nothing
untold : (w : World) (n : Numbers) (e : Accepted) → tells_classes e ≡ false → accepted_event w n e ≡ None
untold w n event.NewLoader f = refl
untold w n (event.Define loader c) f = absurd (cc f)
untold w n (event.Delegate loader name to) f = absurd (cc f)
untold w n (event.Request place) f = refl
untold w n (event.NewCallSite kind ty target) f = refl
untold w n (event.SetTarget c target) f = refl
untold w n event.NewSwitch f = refl
untold w n (event.Invalidate points) f = refl
untold w n (event.Bind s c) f = refl
untold w n (event.Install links) f = refl
untold w n (event.Retire loader) f = refl
untold w n (event.RetireAll loaders) f = refl
untold w n (event.Release call_sites points) f = refl

pub told_by_kept : (w : World) (n : Numbers) (log kept : List Entry)
    → (front back : List Entry) × (front ++ back ≡ log) × (kept ≡ filter is_kept front ++ back)
    → told_events w n kept ≡ told_events w n log
told_by_kept w n log kept parts =
    let f = λ (entry : Entry). accepted_event w n entry.event in
    let front = parts.0 in
    let back = parts.1 in
    ap (filter_map f) parts.3
    ∙ (filter_map-append f (filter is_kept front) back
    ∙ (ap (λ (es : List Event). es ++ filter_map f back) (by_kept f is_kept (λ entry unkept. untold w n entry.event unkept) front)
    ∙ (sym (filter_map-append f front back) ∙ ap (filter_map f) parts.2)))
