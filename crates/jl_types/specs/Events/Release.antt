-- The release of call sites and switch points (java.lang.invoke: CallSite, SwitchPoint). No call site that stays may need them.
use Rattle.std.specs.Prelude.{ℕ, Bool, false, not, ◌&&◌, ◌||◌, List, [], ◌∷◌, find, fold, length, slice_set, Option, None, option_map}
use Rattle.std.specs.List.{range_with_len}
use Rattle.jl_types.specs.declared.refusal.ReleaseFault.{ReleaseFault}
use Rattle.jl_types.specs.declared.refusal.ReleaseFault.TheVariants.{UnknownCallSite, UnknownSwitch, Invoked, Guarded}
use Rattle.jl_types.specs.Values.Target.{Target, Method, Guard, Invoker}
use Rattle.jl_types.specs.Values.World.{Sites, unreleased, is_missing}
use Rattle.jl_types.specs.Linkage.Resolution.{first_of}
use Rattle.jl_types.specs.Events.Retirement.{is_listed, has_target}

-- ---- why they aren't released, if all of these go at once

-- the target invokes one of these call sites, even if only on a side that isn't taken
abbrev pub invokes_one : List ℕ → Target → Bool
invokes_one call_sites (Method m) = false
invokes_one call_sites (Guard p first fallback) = invokes_one call_sites first || invokes_one call_sites fallback
invokes_one call_sites (Invoker c) = is_listed call_sites c

-- the target guards by one of these switch points, even if only on a side that isn't taken
abbrev pub guards_by_one : List ℕ → Target → Bool
guards_by_one points (Method m) = false
guards_by_one points (Guard p first fallback) =
    is_listed points p || (guards_by_one points first || guards_by_one points fallback)
guards_by_one points (Invoker c) = false

-- call site c isn't among those that go, and the test holds of its target
abbrev pub stays_with : Sites → List ℕ → (Target → Bool) → ℕ → Bool
stays_with sites going test c = not (is_listed going c) && has_target test (unreleased sites.call_sites c)

-- the least call site that stays and whose target passes the test
abbrev pub first_with : Sites → List ℕ → (Target → Bool) → Option ℕ
first_with sites going test = find (stays_with sites going test) (range_with_len 0 (length sites.call_sites))

-- the first fault: the call sites in order, the switch points in order, and then what stays
abbrev pub release_fault : Sites → List ℕ → List ℕ → Option ReleaseFault
release_fault sites call_sites points = first_of (
    option_map UnknownCallSite (find (is_missing sites.call_sites) call_sites)
    ∷ option_map UnknownSwitch (find (is_missing sites.switches) points)
    ∷ option_map Invoked (first_with sites call_sites (invokes_one call_sites))
    ∷ option_map Guarded (first_with sites call_sites (guards_by_one points))
    ∷ [])

-- ---- what is left

-- these have nothing any more, and keep their numbers
abbrev pub without : {A : Type 0} → List (Option A) → List ℕ → List (Option A)
without rows going = fold (λ left k. slice_set left k None) rows going

abbrev pub released_from : Sites → List ℕ → List ℕ → Sites
released_from sites call_sites points =
    record { call_sites = without sites.call_sites call_sites; switches = without sites.switches points }
