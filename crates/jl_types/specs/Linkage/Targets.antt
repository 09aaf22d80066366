-- What call sites run (java.lang.invoke: CallSite, SwitchPoint), and why a target isn't taken.
use Rattle.std.specs.Prelude.{ℕ, zero, suc, ◌+◌, Bool, false, not, ◌&&◌, ◌||◌, ◌==◌, nat_lt, nat_le, List, [], ◌∷◌, Option, Some}
use Rattle.std.specs.Prelude.{None, option_and_then, if◌then◌else◌}
use Rattle.std.specs.Bool.{then_some}
use Rattle.std.specs.Option.{option_map_or}
use Rattle.std.specs.Str.{bytes_eq}
use Rattle.jl_class.specs.Special.{begins_special}
use Rattle.jl_types.specs.declared.ids.MethodId.{MethodId}
use Rattle.jl_types.specs.declared.refusal.CallSiteFault.{CallSiteFault}
use Rattle.jl_types.specs.declared.refusal.CallSiteFault.TheVariants.{UnknownCallSite, UnknownMethod, NotStatic, WrongType, UnknownSwitch}
use Rattle.jl_types.specs.declared.refusal.CallSiteFault.TheVariants.{TooDeep, InvokerOrder}
use Rattle.jl_types.specs.Values.Target.{Target, Method, Guard, Invoker, depth}
use Rattle.jl_types.specs.Values.World.{World, Classes, Sites, unreleased, is_missing}
use Rattle.jl_types.specs.Values.Members.{is_present, method_test, is_static}
use Rattle.jl_types.specs.Linkage.Resolution.{first_of}

abbrev pub is_valid : Sites → ℕ → Bool
is_valid sites p = option_map_or (λ valid. valid) (unreleased sites.switches p) false

-- the method that a target stands for now, if call sites run these
abbrev pub run_by : Sites → (ℕ → Option MethodId) → Target → Option MethodId
run_by sites runs (Method m) = Some m
run_by sites runs (Guard p first fallback) = if is_valid sites p then run_by sites runs first else run_by sites runs fallback
run_by sites runs (Invoker c) = runs c

-- what call site c runs now, if it is one of the first n; its target is evaluated over what the call sites before it run
abbrev pub run_below : Sites → ℕ → ℕ → Option MethodId
run_below sites zero c = None
run_below sites (suc n) c =
    if n == c then option_and_then (λ site. run_by sites (run_below sites n) site.target) (unreleased sites.call_sites c)
    else run_below sites n c

-- the method that a target of call site c stands for now; an invoker in it stands for what an earlier call site runs
abbrev pub evaluated : Sites → ℕ → Target → Option MethodId
evaluated sites c t = run_by sites (run_below sites c) t

-- the method that call site c runs now, if there is such a call site
abbrev pub method_of : Sites → ℕ → Option MethodId
method_of sites c = option_and_then (λ site. evaluated sites c site.target) (unreleased sites.call_sites c)

-- ---- why a target isn't taken

abbrev pub parts : Target → ℕ
parts (Method m) = 1
parts (Guard p first fallback) = parts first + parts fallback + 1
parts (Invoker c) = 1

-- there is such a method, and its name doesn't begin with `<`
abbrev pub may_be_named : Classes → MethodId → Bool
may_be_named cs m = is_present cs m.class && method_test (λ method. not (begins_special method.name)) cs m

abbrev pub is_of_type : Classes → List ℕ → MethodId → Bool
is_of_type cs ty m = method_test (λ method. bytes_eq method.ty ty) cs m

-- there is such a call site, and it is of this type
abbrev pub invokes_type : Sites → List ℕ → ℕ → Bool
invokes_type sites ty c = option_map_or (λ site. bytes_eq site.ty ty) (unreleased sites.call_sites c) false

-- The first fault of the parts of a target of call site c, which has this type. A guard is looked at before its parts, and its first
-- part before the second. An invoker's call site has to come before c.
abbrev pub part_fault : World → ℕ → List ℕ → Target → Option CallSiteFault
part_fault w c ty (Method m) = first_of (
    then_some (not (may_be_named w.classes m)) UnknownMethod
    ∷ then_some (not (is_static w.classes m)) NotStatic
    ∷ then_some (not (is_of_type w.classes ty m)) WrongType
    ∷ [])
part_fault w c ty (Guard p first fallback) = first_of (
    then_some (is_missing w.sites.switches p) UnknownSwitch
    ∷ part_fault w c ty first
    ∷ part_fault w c ty fallback
    ∷ [])
part_fault w c ty (Invoker d) = first_of (
    then_some (nat_le c d) (InvokerOrder d)
    ∷ then_some (is_missing w.sites.call_sites d) UnknownCallSite
    ∷ then_some (not (invokes_type w.sites ty d)) WrongType
    ∷ [])

abbrev pub target_fault : World → ℕ → List ℕ → Target → Option CallSiteFault
target_fault w c ty t = first_of (
    then_some (nat_lt 64 (depth t) || nat_lt 255 (parts t)) TooDeep
    ∷ part_fault w c ty t
    ∷ [])
