-- Why call sites and switch points aren't made or changed, and what they are afterwards. No fault looks at requested places or
-- at bindings, so a world of these classes and sites stands for each that has them.
use Rattle.std.specs.Prelude.{ℕ, true, not, nat_le, List, [], ◌∷◌, ◌++◌, length, Option, Some}
use Rattle.std.specs.Bool.{then_some}
use Rattle.jl_types.specs.declared.ids.MethodId.{MethodId}
use Rattle.jl_types.specs.declared.target.CallSiteKind.{CallSiteKind}
use Rattle.jl_types.specs.declared.refusal.CallSiteFault.{CallSiteFault}
use Rattle.jl_types.specs.declared.refusal.CallSiteFault.TheVariants.{Full, UnknownCallSite, UnknownMethod, NotStatic, WrongType, InvokerOrder}
use Rattle.jl_types.specs.Values.Target.{Target}
use Rattle.jl_types.specs.Values.World.{World, Classes, Sites, unreleased, is_missing}
use Rattle.jl_types.specs.Values.Members.{is_static}
use Rattle.jl_types.specs.Linkage.Resolution.{first_of}
use Rattle.jl_types.specs.Linkage.Targets.{may_be_named, is_of_type, invokes_type}
use Rattle.jl_types.specs.Events.Verdict.{new_call_site_fault, retargeted, invalidated}
use Rattle.jl_types.specs.Events.Verdict as events

-- a world of these classes and sites, with no requested place and no binding
abbrev pub world_of : Classes → Sites → World
world_of cs sites = record { classes = cs; places = []; bindings = []; sites = sites }

-- ---- faults

-- why a call site isn't made, if there may be at most so many
abbrev pub new_site_fault : ℕ → Classes → Sites → List ℕ → Target → Option CallSiteFault
new_site_fault most_call_sites cs sites ty t = new_call_site_fault most_call_sites (world_of cs sites) ty t

abbrev pub set_target_fault : Classes → Sites → ℕ → Target → Option CallSiteFault
set_target_fault cs sites c t = events.set_target_fault (world_of cs sites) c (unreleased sites.call_sites c) t

-- why a switch point isn't made, if there may be at most so many
abbrev pub new_switch_fault : ℕ → Sites → Option CallSiteFault
new_switch_fault most_switches sites = then_some (nat_le most_switches (length sites.switches)) Full

abbrev pub invalidate_fault : Sites → List ℕ → Option CallSiteFault
invalidate_fault sites points = events.invalidate_fault (world_of (record { loaders = []; rows = []; retired = [] }) sites) points

-- the fault of a method alone
abbrev pub method_fault : Classes → List ℕ → MethodId → Option CallSiteFault
method_fault cs ty m = first_of (
    then_some (not (may_be_named cs m)) UnknownMethod
    ∷ then_some (not (is_static cs m)) NotStatic
    ∷ then_some (not (is_of_type cs ty m)) WrongType
    ∷ [])

-- the fault of an invoker alone, in a target of call site c
abbrev pub invoker_fault : Sites → ℕ → List ℕ → ℕ → Option CallSiteFault
invoker_fault sites c ty d = first_of (
    then_some (nat_le c d) (InvokerOrder d)
    ∷ then_some (is_missing sites.call_sites d) UnknownCallSite
    ∷ then_some (not (invokes_type sites ty d)) WrongType
    ∷ [])

-- ---- the call sites and switch points afterwards

-- one call site more
abbrev pub with_site : Sites → CallSiteKind → List ℕ → Target → Sites
with_site sites kind ty t =
    record sites { call_sites = sites.call_sites ++ Some (record { kind = kind; ty = ty; target = t }) ∷ [] }

-- another target
abbrev pub with_target : Sites → ℕ → Target → Sites
with_target sites c t = record sites { call_sites = retargeted sites.call_sites c t }

-- one switch point more, which is valid
abbrev pub with_switch : Sites → Sites
with_switch sites = record sites { switches = sites.switches ++ Some true ∷ [] }

-- none of these is valid
abbrev pub with_invalid : Sites → List ℕ → Sites
with_invalid sites points = record sites { switches = invalidated sites.switches points }
