-- Each event leaves the classes that are there as they are.
use Rattle.std.specs.Prelude.{ℕ, List, [], ◌∷◌, ◌++◌, Option, Some, None}
use Rattle.std.specs.Option.{option_map_or}
use Rattle.std.proofs.Common.{refl, sym, subst}
use Rattle.jl_types.specs.Events.Event.{Event}
use Rattle.jl_types.specs.declared.event.EventOf.TheVariants as event
use Rattle.jl_types.specs.Values.World.{Classes, World}
use Rattle.jl_types.specs.Values.Members.{lookup}
use Rattle.jl_types.specs.Events.Definitions.{with_record, delegated}
use Rattle.jl_types.specs.Events.Verdict.{step}
use Rattle.jl_types.specs.Events.History.{world_after}
use Rattle.jl_types.proofs.Places.{world_more}
use Rattle.jl_types.proofs.Orders.{IsGood, world_good}
use Rattle.jl_hierarchy.specs.Constancy.{Stays}
use Rattle.jl_hierarchy.proofs.Constancy.{stays_defined, stays_with_record, stays_with_loader, stays_retired}

stays_itself : (cs : Classes) → Stays cs cs
stays_itself cs = record { rows = λ c row e. e; records = λ l name c alive h. h; ancestors = λ c lt. refl; hosts = λ c host present h. h }

delegated_stays : (cs : Classes) → IsGood cs → (loader : ℕ) (name : List ℕ) (to : ℕ) → Stays cs (delegated cs loader name to)
delegated_stays cs good loader name to = by_found (lookup cs to name)
  where
    by_found : (o : Option ℕ) → Stays cs (record cs { loaders = option_map_or (with_record cs.loaders loader name) o cs.loaders })
    by_found None = stays_itself cs
    by_found (Some c) = stays_with_record cs good loader name c

-- what an event makes of the classes leaves those that are there
pub step_stays : (w : World) → IsGood w.classes → (e : Event) → Stays w.classes (step w e).classes
step_stays w good event.NewLoader = stays_with_loader w.classes good
step_stays w good (event.Define loader file) = stays_defined w.classes good loader file
step_stays w good (event.Delegate loader name to) = delegated_stays w.classes good loader name to
step_stays w good (event.Request place) = stays_itself w.classes
step_stays w good (event.NewCallSite kind ty t) = stays_itself w.classes
step_stays w good (event.SetTarget c t) = stays_itself w.classes
step_stays w good event.NewSwitch = stays_itself w.classes
step_stays w good (event.Invalidate points) = stays_itself w.classes
step_stays w good (event.Bind s c) = stays_itself w.classes
step_stays w good (event.Install rows) = stays_itself w.classes
step_stays w good (event.Retire loader) = stays_retired w.classes good (loader ∷ [])
step_stays w good (event.RetireAll loaders) = stays_retired w.classes good loaders
step_stays w good (event.Release call_sites points) = stays_itself w.classes

pub later_stays : (h : List Event) (e : Event) → Stays (world_after h).classes (world_after (h ++ e ∷ [])).classes
later_stays h e =
    subst (λ (w : World). Stays (world_after h).classes w.classes) (sym (world_more h e)) (step_stays (world_after h) (world_good h) e)
