-- What there is room for, and places that are never linked.
use Rattle.std.specs.Prelude.{◌≡◌, ℕ, ◌+◌, List, [], ◌∷◌, ◌++◌, Option, Some, None, Ok, Err, length, replicate, codes, refl}
use Rattle.std.proofs.Common.{arith}
use Rattle.jl_types.specs.declared.limits.Limits.{Limits}
use Rattle.jl_types.specs.Events.Limits.{fixed, AreAllowed, IsWithin, AreNoFewer}
use Rattle.jl_class.specs.declared.site.Kind.TheVariants.{Virtual, Static}
use Rattle.jl_types.specs.declared.ids.Place.{Place}
use Rattle.jl_types.specs.declared.event.EventOf.TheVariants.{NewLoader, NewSwitch, NewCallSite, Request}
use Rattle.jl_types.specs.declared.event.Made.TheVariants as made
use Rattle.jl_types.specs.declared.refusal.Refusal.TheVariants as refusal
use Rattle.jl_types.specs.declared.refusal.NotLinkable.TheVariants.{ArrayReceiver, PolymorphicSignature}
use Rattle.jl_types.specs.declared.refusal.CallSiteFault.TheVariants as fault
use Rattle.jl_types.specs.declared.refusal.PrepareFault.TheVariants as prepare
use Rattle.jl_types.specs.declared.target.CallSiteKind.TheVariants.{Mutable}
use Rattle.jl_types.specs.Values.Target.{Target, Method}
use Rattle.jl_types.specs.Values.World.{World, CallSite}
use Rattle.jl_types.specs.Events.Verdict.{verdict}
use Rattle.jl_types.specs.Events.History.{world_after}
use Rattle.jl_types.specs.Events.Preparation.{prepare_fault}
use Rattle.jl_types.proofs.Rows.Sketch.{object, class, world, calling, class_ref}
use Rattle.jl_types.proofs.Rows.Statics.{called}
use Rattle.jl_types.proofs.Rows.CallSites.{begun, m}

-- ---- loaders, call sites, switch points

last_loader : (sites : ℕ) (w : World) → length w.classes.loaders ≡ 1023 → verdict (fixed sites) w NewLoader ≡ Ok (made.Loader 1023)
last_loader sites w e = rw e refl

too_many_loaders : (sites : ℕ) (w : World) → length w.classes.loaders ≡ 1024 → verdict (fixed sites) w NewLoader ≡ Err refusal.LoadersFull
too_many_loaders sites w e = rw e refl

-- whatever the target is
too_many_call_sites : (sites : ℕ) (w : World) (ty : List ℕ) (t : Target) → length w.sites.call_sites ≡ 65536
    → verdict (fixed sites) w (NewCallSite Mutable ty t) ≡ Err (refusal.CallSite fault.Full)
too_many_call_sites sites w ty t e = rw e refl

-- with these call sites
abbrev with_call_sites : List (Option CallSite) → World
with_call_sites call_sites =
    let w = world_after begun in
    record w { sites = record w.sites { call_sites = call_sites } }

last_call_site : (call_sites : List (Option CallSite)) → length call_sites ≡ 65535
    → verdict (fixed 65536) (with_call_sites call_sites) (NewCallSite Mutable (codes "()V") (Method m)) ≡ Ok (made.CallSite 65535)
last_call_site call_sites e = rw e refl

last_switch : (sites : ℕ) (w : World) → length w.sites.switches ≡ 65535 → verdict (fixed sites) w NewSwitch ≡ Ok (made.Switch 65535)
last_switch sites w e = rw e refl

too_many_switches : (sites : ℕ) (w : World) → length w.sites.switches ≡ 65536 → verdict (fixed sites) w NewSwitch ≡ Err (refusal.CallSite fault.Full)
too_many_switches sites w e = rw e refl

-- ---- limits of a linker's own

abbrev wide : Limits
wide = record { sites = 7; loaders = 2000; classes = 70000; call_sites = 80000; switches = 90000 }

past_the_fixed_loaders : (w : World) → length w.classes.loaders ≡ 1024 → verdict wide w NewLoader ≡ Ok (made.Loader 1024)
past_the_fixed_loaders w e = rw e refl

last_wide_loader : (w : World) → length w.classes.loaders ≡ 1999 → verdict wide w NewLoader ≡ Ok (made.Loader 1999)
last_wide_loader w e = rw e refl

too_many_wide_loaders : (w : World) → length w.classes.loaders ≡ 2000 → verdict wide w NewLoader ≡ Err refusal.LoadersFull
too_many_wide_loaders w e = rw e refl

last_wide_call_site : (call_sites : List (Option CallSite)) → length call_sites ≡ 79999
    → verdict wide (with_call_sites call_sites) (NewCallSite Mutable (codes "()V") (Method m)) ≡ Ok (made.CallSite 79999)
last_wide_call_site call_sites e = rw e refl

too_many_wide_call_sites : (w : World) (ty : List ℕ) (t : Target) → length w.sites.call_sites ≡ 80000
    → verdict wide w (NewCallSite Mutable ty t) ≡ Err (refusal.CallSite fault.Full)
too_many_wide_call_sites w ty t e = rw e refl

last_wide_switch : (w : World) → length w.sites.switches ≡ 89999 → verdict wide w NewSwitch ≡ Ok (made.Switch 89999)
last_wide_switch w e = rw e refl

too_many_wide_switches : (w : World) → length w.sites.switches ≡ 90000 → verdict wide w NewSwitch ≡ Err (refusal.CallSite fault.Full)
too_many_wide_switches w e = rw e refl

-- ---- places

-- M 1 calls f of this owner; its place is requested already as site 0, and so is no other
abbrev calls : List ℕ → World
calls owner =
    let ref = class_ref owner (codes "f") in
    let methods = calling 9 (codes "run") Virtual ref ∷ calling 9 (codes "too") Virtual ref ∷ [] in
    world (object ∷ class (codes "M") 33 (Some 0) [] methods ∷ []) 1

abbrev other : Place
other = record { class = 1; method = 1; pc = 0 }

room_for_one_more : verdict (fixed 2) (calls (codes "A")) (Request other) ≡ Ok (made.Site 1)
room_for_one_more = refl

no_room : verdict (fixed 1) (calls (codes "A")) (Request other) ≡ Err refusal.SitesFull
no_room = refl

of_an_array : verdict (fixed 1) (calls (codes "[LColor;")) (Request other) ≡ Err (refusal.NotLinkable ArrayReceiver)
of_an_array = refl

of_method_handles : verdict (fixed 1) (calls (codes "java/lang/invoke/MethodHandle")) (Request other) ≡ Err (refusal.NotLinkable PolymorphicSignature)
of_method_handles = refl

of_var_handles : verdict (fixed 1) (calls (codes "java/lang/invoke/VarHandle")) (Request other) ≡ Err (refusal.NotLinkable PolymorphicSignature)
of_var_handles = refl

-- a place that is requested keeps its number, linkable or not
requested_before : verdict (fixed 1) (calls (codes "[LColor;")) (Request (record { class = 1; method = 0; pc = 0 })) ≡ Ok (made.Site 0)
requested_before = refl

-- ---- preparations: site 0 isn't ready, since A isn't there

not_ready : prepare_fault (calls (codes "A")) (0 ∷ []) ≡ Some (prepare.NotReady 0)
not_ready = refl

unknown_before_not_ready : prepare_fault (calls (codes "A")) (0 ∷ 9 ∷ []) ≡ Some (prepare.UnknownSite 9)
unknown_before_not_ready = refl

unknown_before_later_repeat : prepare_fault (calls (codes "A")) (0 ∷ 9 ∷ 0 ∷ []) ≡ Some (prepare.UnknownSite 9)
unknown_before_later_repeat = refl

repeated_before_later_unknown : prepare_fault (calls (codes "A")) (0 ∷ 0 ∷ 9 ∷ []) ≡ Some (prepare.Repeated 0)
repeated_before_later_unknown = refl

no_sites : prepare_fault (calls (codes "A")) [] ≡ Some prepare.BatchSize
no_sites = refl

too_many_sites : prepare_fault (calls (codes "A")) (replicate 257 9) ≡ Some prepare.BatchSize
too_many_sites = refl

as_many_as_may_be : prepare_fault (calls (codes "A")) (replicate 256 9) ≡ Some (prepare.UnknownSite 9)
as_many_as_may_be = refl

-- site 1 isn't ready either
abbrev two_waiting : World
two_waiting =
    let w = calls (codes "A") in
    record w { places = w.places ++ other ∷ [] }

first_of_two : prepare_fault two_waiting (0 ∷ 1 ∷ []) ≡ Some (prepare.NotReady 0)
first_of_two = refl

first_in_the_batch : prepare_fault two_waiting (1 ∷ 0 ∷ []) ≡ Some (prepare.NotReady 1)
first_in_the_batch = refl

-- a site is ready if it has a link, which may be a fault
ready : prepare_fault (called 33 9 Static class_ref) (0 ∷ []) ≡ None
ready = refl

faulty_is_ready : prepare_fault (called 33 1 Static class_ref) (0 ∷ []) ≡ None
faulty_is_ready = refl

-- ---- which limits there may be

least_are_allowed : AreAllowed (record { sites = 1; loaders = 1; classes = 0; call_sites = 0; switches = 0 })
least_are_allowed = record {
  some_sites = omega arith;
  some_loaders = omega arith;
  few_loaders = omega arith;
  few_classes = omega arith;
  few_call_sites = omega arith;
  few_switches = omega arith;
}

no_sites_are_not_allowed : (limits : Limits) → limits.sites ≡ 0 → AreAllowed limits → ⊥
no_sites_are_not_allowed limits none allowed = let some = allowed.some_sites in omega (arith, none, some)

no_loaders_are_not_allowed : (limits : Limits) → limits.loaders ≡ 0 → AreAllowed limits → ⊥
no_loaders_are_not_allowed limits none allowed = let some = allowed.some_loaders in omega (arith, none, some)

-- a world has as many as it has, and not one less
abbrev exactly : World → Limits
exactly w = record {
  sites = length w.places;
  loaders = length w.classes.loaders;
  classes = length w.classes.rows;
  call_sites = length w.sites.call_sites;
  switches = length w.sites.switches;
}

is_within_exactly : (w : World) → IsWithin (exactly w) w
is_within_exactly w = record {
  sites = omega arith;
  loaders = omega arith;
  classes = omega arith;
  call_sites = omega arith;
  switches = omega arith;
}

one_site_more : (limits : Limits) (w : World) → length w.places ≡ limits.sites + 1 → IsWithin limits w → ⊥
one_site_more limits w more within = let few = within.sites in omega (arith, more, few)

one_loader_more : (limits : Limits) (w : World) → length w.classes.loaders ≡ limits.loaders + 1 → IsWithin limits w → ⊥
one_loader_more limits w more within = let few = within.loaders in omega (arith, more, few)

one_class_more : (limits : Limits) (w : World) → length w.classes.rows ≡ limits.classes + 1 → IsWithin limits w → ⊥
one_class_more limits w more within = let few = within.classes in omega (arith, more, few)

one_call_site_more : (limits : Limits) (w : World) → length w.sites.call_sites ≡ limits.call_sites + 1 → IsWithin limits w → ⊥
one_call_site_more limits w more within = let few = within.call_sites in omega (arith, more, few)

one_switch_more : (limits : Limits) (w : World) → length w.sites.switches ≡ limits.switches + 1 → IsWithin limits w → ⊥
one_switch_more limits w more within = let few = within.switches in omega (arith, more, few)

-- limits are no fewer than themselves, and one less of a kind is fewer
no_fewer_than_themselves : (limits : Limits) → AreNoFewer limits limits
no_fewer_than_themselves limits = record {
  sites = omega arith;
  loaders = omega arith;
  classes = omega arith;
  call_sites = omega arith;
  switches = omega arith;
}

a_site_fewer : (old new : Limits) → old.sites ≡ new.sites + 1 → AreNoFewer old new → ⊥
a_site_fewer old new less no_fewer = let no_less = no_fewer.sites in omega (arith, less, no_less)

a_loader_fewer : (old new : Limits) → old.loaders ≡ new.loaders + 1 → AreNoFewer old new → ⊥
a_loader_fewer old new less no_fewer = let no_less = no_fewer.loaders in omega (arith, less, no_less)

a_class_fewer : (old new : Limits) → old.classes ≡ new.classes + 1 → AreNoFewer old new → ⊥
a_class_fewer old new less no_fewer = let no_less = no_fewer.classes in omega (arith, less, no_less)

a_call_site_fewer : (old new : Limits) → old.call_sites ≡ new.call_sites + 1 → AreNoFewer old new → ⊥
a_call_site_fewer old new less no_fewer = let no_less = no_fewer.call_sites in omega (arith, less, no_less)

a_switch_fewer : (old new : Limits) → old.switches ≡ new.switches + 1 → AreNoFewer old new → ⊥
a_switch_fewer old new less no_fewer = let no_less = no_fewer.switches in omega (arith, less, no_less)
