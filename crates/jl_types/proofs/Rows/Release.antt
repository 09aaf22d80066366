-- Releases, over the whole history, and one after another.
use Rattle.std.specs.Prelude.{◌≡◌, true, false, List, [], ◌∷◌, ◌++◌, map, Some, None, Result, Ok, Err, codes, refl}
use Rattle.jl_types.specs.Events.Limits.{fixed}
use Rattle.jl_types.specs.declared.answer.Recv.TheVariants.{Null}
use Rattle.jl_types.specs.declared.answer.Answer.TheVariants as answer
use Rattle.jl_types.specs.declared.answer.Unlinked.TheVariants.{Unbound, Gone}
use Rattle.jl_types.specs.declared.link.Link.TheVariants.{Plain}
use Rattle.jl_types.specs.declared.target.CallSiteKind.TheVariants.{Constant, Mutable}
use Rattle.jl_types.specs.declared.key.Key.TheVariants as key
use Rattle.jl_types.specs.Values.Target.{Guard, Invoker}
use Rattle.jl_types.specs.Values.Target as target
use Rattle.jl_types.specs.Values.World.{is_missing}
use Rattle.jl_types.specs.Events.Event.{Event}
use Rattle.jl_types.specs.declared.event.EventOf.TheVariants.{NewLoader, Define, Delegate, NewCallSite, SetTarget, NewSwitch, Invalidate}
use Rattle.jl_types.specs.declared.event.EventOf.TheVariants.{Bind, Install, Retire, Release}
use Rattle.jl_types.specs.declared.event.Made.{Made}
use Rattle.jl_types.specs.declared.event.Made.TheVariants as made
use Rattle.jl_types.specs.declared.event.Reply.{Reply}
use Rattle.jl_types.specs.declared.refusal.Refusal.{Refusal}
use Rattle.jl_types.specs.declared.refusal.Refusal.TheVariants as refusal
use Rattle.jl_types.specs.declared.refusal.CallSiteFault.TheVariants as fault
use Rattle.jl_types.specs.declared.refusal.ReleaseFault.TheVariants as release
use Rattle.jl_types.specs.declared.refusal.RetireFault.TheVariants as retire
use Rattle.jl_types.specs.Linkage.Targets.{is_valid, method_of}
use Rattle.jl_types.specs.Linkage.Links.{scratch}
use Rattle.jl_types.specs.Linkage.Calls.{dispatch}
use Rattle.jl_types.specs.Events.Verdict.{verdict}
use Rattle.jl_types.specs.Events.History.{world_after, installed_links, reply}
use Rattle.jl_types.specs.Events.Footprints.{bound, footprint, keys, path, touched}
use Rattle.jl_types.proofs.Rows.Sketch.{method, file}
use Rattle.jl_types.proofs.Rows.CallSites.{begun, m, n}

-- ---- two sites of call sites that invoke one another

-- site 0 is bound to call site 1, which invokes call site 0 if point 0 is invalid; call site 2 stands alone; point 1 is free
abbrev tied : List Event
tied = begun
    ++ NewSwitch
    ∷ NewCallSite Mutable (codes "()V") (target.Method m)
    ∷ NewCallSite Constant (codes "()V") (Guard 0 (target.Method n) (Invoker 0))
    ∷ NewCallSite Mutable (codes "()V") (target.Method n)
    ∷ Bind 0 1
    ∷ Install ((0, Plain n) ∷ [])
    ∷ []

abbrev told : List Event → Event → Result Reply Refusal
told events e = reply (fixed 65536) (tied ++ events) e

abbrev accepted : Result Reply Refusal
accepted = Ok (record { made = made.Nothing; dropped = [] })

-- ---- refusals

unknown_call_site : told [] (Release (0 ∷ 7 ∷ 9 ∷ []) (8 ∷ [])) ≡ Err (refusal.Release (release.UnknownCallSite 7))
unknown_call_site = refl

-- call sites come before points
unknown_point : told [] (Release (0 ∷ []) (1 ∷ 2 ∷ 3 ∷ [])) ≡ Err (refusal.Release (release.UnknownSwitch 2))
unknown_point = refl

-- even if only on a side that isn't taken
invoked : told [] (Release (2 ∷ 0 ∷ []) []) ≡ Err (refusal.Release (release.Invoked 1))
invoked = refl

guarded : told [] (Release [] (1 ∷ 0 ∷ [])) ≡ Err (refusal.Release (release.Guarded 1))
guarded = refl

-- one that is invoked comes before one that is guarded by
invoked_first : told [] (Release (0 ∷ []) (0 ∷ [])) ≡ Err (refusal.Release (release.Invoked 1))
invoked_first = refl

guarded_on_the_other_side : told (SetTarget 2 (Guard 1 (target.Method m) (Guard 0 (target.Method m) (target.Method n))) ∷ [])
    (Release (1 ∷ []) (0 ∷ [])) ≡ Err (refusal.Release (release.Guarded 2))
guarded_on_the_other_side = refl

-- on the side that is taken
invoked_on_the_first_side : told (SetTarget 2 (Guard 1 (Invoker 0) (target.Method n)) ∷ []) (Release (0 ∷ 1 ∷ []) [])
    ≡ Err (refusal.Release (release.Invoked 2))
invoked_on_the_first_side = refl

guarded_on_the_first_side : told (SetTarget 2 (Guard 1 (Guard 0 (target.Method m) (target.Method n)) (target.Method n)) ∷ [])
    (Release (1 ∷ []) (0 ∷ [])) ≡ Err (refusal.Release (release.Guarded 2))
guarded_on_the_first_side = refl

-- the least is told
least_invoker : told (NewCallSite Mutable (codes "()V") (Invoker 2) ∷ NewCallSite Mutable (codes "()V") (Invoker 2) ∷ [])
    (Release (2 ∷ []) []) ≡ Err (refusal.Release (release.Invoked 3))
least_invoker = refl

-- ---- what is accepted

none_at_all : told [] (Release [] []) ≡ accepted
none_at_all = refl

-- the one that invokes goes with the one that it invokes, and the point with the one that guards by it
together : told [] (Release (0 ∷ 1 ∷ []) (0 ∷ [])) ≡ Ok (record { made = made.Nothing; dropped = 0 ∷ [] })
together = refl

in_any_order_and_twice : told [] (Release (1 ∷ 0 ∷ 1 ∷ []) (0 ∷ 0 ∷ [])) ≡ Ok (record { made = made.Nothing; dropped = 0 ∷ [] })
in_any_order_and_twice = refl

-- no site is bound to it
alone : told [] (Release (2 ∷ []) (1 ∷ [])) ≡ accepted
alone = refl

-- the one that invoked it is gone already
one_after_another : told (Release (1 ∷ []) [] ∷ []) (Release (0 ∷ []) (0 ∷ [])) ≡ accepted
one_after_another = refl

-- another target doesn't invoke it any more
once_retargeted : told (NewCallSite Mutable (codes "()V") (Invoker 2) ∷ SetTarget 3 (target.Method m) ∷ []) (Release (2 ∷ []) []) ≡ accepted
once_retargeted = refl

-- ---- what is left

abbrev left : List Event
left = tied ++ Release (1 ∷ 2 ∷ []) (0 ∷ []) ∷ []

left_rows : map (is_missing (world_after left).sites.call_sites) (0 ∷ 1 ∷ 2 ∷ 3 ∷ []) ≡ false ∷ true ∷ true ∷ true ∷ []
left_rows = refl

left_points : (world_after left).sites.switches ≡ None ∷ Some true ∷ []
left_points = refl

nothing_runs : map (method_of (world_after left).sites) (0 ∷ 1 ∷ 2 ∷ []) ≡ Some m ∷ None ∷ None ∷ []
nothing_runs = refl

no_link : installed_links left ≡ []
no_link = refl

gone : scratch (world_after left) 0 ≡ Err Gone
gone = refl

gone_call : dispatch (world_after left) 0 Null ≡ answer.Unlinked Gone
gone_call = refl

-- one that isn't bound waits as before
unbound_before : scratch (world_after (begun ++ NewCallSite Mutable (codes "()V") (target.Method m) ∷ Release (0 ∷ []) [] ∷ [])) 0 ≡ Err Unbound
unbound_before = refl

-- numbers aren't given again
next_number : verdict (fixed 65536) (world_after left) (NewCallSite Mutable (codes "()V") (target.Method m)) ≡ Ok (made.CallSite 3)
next_number = refl

next_point : verdict (fixed 65536) (world_after left) NewSwitch ≡ Ok (made.Switch 2)
next_point = refl

-- they count
full : verdict (record (fixed 65536) { call_sites = 3 }) (world_after left) (NewCallSite Mutable (codes "()V") (target.Method m))
    ≡ Err (refusal.CallSite fault.Full)
full = refl

-- ---- whatever names one later

abbrev later : Event → Result Made Refusal
later e = verdict (fixed 65536) (world_after left) e

new_target : later (SetTarget 2 (target.Method m)) ≡ Err (refusal.CallSite fault.UnknownCallSite)
new_target = refl

-- before its kind is looked at
constant_too : later (SetTarget 1 (target.Method m)) ≡ Err (refusal.CallSite fault.UnknownCallSite)
constant_too = refl

-- after the order, and before the type
invoker : later (NewCallSite Mutable (codes "()I") (Invoker 2)) ≡ Err (refusal.CallSite fault.UnknownCallSite)
invoker = refl

invoker_order : later (SetTarget 0 (Invoker 1)) ≡ Err (refusal.CallSite (fault.InvokerOrder 1))
invoker_order = refl

guard : later (NewCallSite Mutable (codes "()V") (Guard 0 (target.Method m) (target.Method n))) ≡ Err (refusal.CallSite fault.UnknownSwitch)
guard = refl

invalidation : later (Invalidate (1 ∷ 0 ∷ [])) ≡ Err (refusal.CallSite fault.UnknownSwitch)
invalidation = refl

-- the binding stays
bound_already : later (Bind 0 0) ≡ Err (refusal.AlreadyBound 1)
bound_already = refl

binding : verdict (fixed 65536) (world_after (begun ++ NewCallSite Mutable (codes "()V") (target.Method m) ∷ Release (0 ∷ []) [] ∷ [])) (Bind 0 0)
    ≡ Err (refusal.CallSite fault.UnknownCallSite)
binding = refl

release_again : later (Release (0 ∷ 2 ∷ []) []) ≡ Err (refusal.Release (release.UnknownCallSite 2))
release_again = refl

release_of_a_point_again : later (Release [] (1 ∷ 0 ∷ [])) ≡ Err (refusal.Release (release.UnknownSwitch 0))
release_of_a_point_again = refl

-- ---- an invalid point

invalid_point_goes : (world_after (tied ++ Invalidate (1 ∷ []) ∷ Release [] (1 ∷ []) ∷ [])).sites.switches ≡ Some true ∷ None ∷ []
invalid_point_goes = refl

not_valid : map (is_valid (world_after left).sites) (0 ∷ 1 ∷ []) ≡ false ∷ true ∷ []
not_valid = refl

-- ---- loaders

-- loader 1 has class 2 with a static method, which call site 0 runs
abbrev held : List Event
held = begun
    ++ NewLoader
    ∷ Delegate 1 (codes "java/lang/Object") 0
    ∷ Define 1 (record (file (codes "U") 33 (method 9 (codes "m") ∷ [])) { superclass = Some (codes "java/lang/Object") })
    ∷ NewCallSite Constant (codes "()V") (target.Method (record { class = 2; index = 0 }))
    ∷ Bind 0 0
    ∷ []

loader_is_held : verdict (fixed 65536) (world_after held) (Retire 1) ≡ Err (refusal.Retire (retire.Targeted 0))
loader_is_held = refl

loader_is_free : verdict (fixed 65536) (world_after (held ++ Release (0 ∷ []) [] ∷ [])) (Retire 1) ≡ Ok made.Nothing
loader_is_free = refl

-- ---- what it touches

keys_are_targets : keys (world_after tied) (Release (0 ∷ 1 ∷ []) (0 ∷ [])) ≡ key.Target 0 ∷ key.Target 1 ∷ []
keys_are_targets = refl

touches_what_is_bound : touched tied (Release (1 ∷ []) []) ≡ 0 ∷ []
touches_what_is_bound = refl

-- the points alone touch nothing
points_touch_none : touched tied (Release [] (1 ∷ [])) ≡ []
points_touch_none = refl

takes_one_look : bound tied (Release (1 ∷ []) []) ≡ 1
takes_one_look = refl

way_of_a_released_one : path (world_after left).sites 1 ≡ key.Target 1 ∷ []
way_of_a_released_one = refl

rests_on_it_still : footprint (world_after left) 0 ≡ key.Target 1 ∷ []
rests_on_it_still = refl
