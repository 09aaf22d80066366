-- How many classes a list of events makes.
use Rattle.std.specs.Prelude.{◌≡◌, ℕ, ◌+◌, Bool, cond, true, false, List, [], ◌∷◌, filter, length, fold}
use Rattle.std.proofs.Common.{arith, length-append}
use Rattle.jl_types.specs.Events.Event.{Event}
use Rattle.jl_types.specs.declared.event.EventOf.TheVariants as event
use Rattle.jl_types.specs.Values.World.{World, nothing_yet}
use Rattle.jl_types.specs.Events.Definitions.{class_made}
use Rattle.jl_types.specs.Events.Verdict.{step}
use Rattle.jl_types.specs.Events.History.{world_after}
use Rattle.jl_types.specs.Events.Entries.{defines}

abbrev as_count : Bool → ℕ
as_count b = cond b 1 0

class_step : (w : World) (e : Event) → length (step w e).classes.rows ≡ length w.classes.rows + as_count (defines e)
class_step w event.NewLoader = omega arith
class_step w (event.Define loader file) = length-append w.classes.rows (class_made w.classes loader file ∷ [])
class_step w (event.Delegate loader name to) = omega arith
class_step w (event.Request place) = omega arith
class_step w (event.NewCallSite kind ty t) = omega arith
class_step w (event.SetTarget c t) = omega arith
class_step w event.NewSwitch = omega arith
class_step w (event.Invalidate points) = omega arith
class_step w (event.Bind s c) = omega arith
class_step w (event.Install rows) = omega arith
class_step w (event.Retire loader) = omega arith
class_step w (event.RetireAll loaders) = omega arith
class_step w (event.Release call_sites points) = omega arith

first_counts : (b : Bool) (e : Event) (h : List Event) → length (cond b (e ∷ filter defines h) (filter defines h)) ≡ as_count b + length (filter defines h)
first_counts true e h = omega arith
first_counts false e h = omega arith

classes_from : (h : List Event) (w : World) → length (fold step w h).classes.rows ≡ length w.classes.rows + length (filter defines h)
classes_from [] w = omega arith
classes_from (e ∷ h) w =
    let one = class_step w e in
    let first = first_counts (defines e) e h in
    let rest = classes_from h (step w e) in
    omega (arith, one, first, rest)

pub classes_defined : (h : List Event) → length (world_after h).classes.rows ≡ length (filter defines h)
classes_defined h = let all = classes_from h nothing_yet in omega (arith, all)
