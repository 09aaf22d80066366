-- Targets that run whatever another call site runs (java.lang.invoke: CallSite.dynamicInvoker), over the whole history.
use Rattle.std.specs.Prelude.{◌≡◌, ℕ, zero, suc, true, List, [], ◌∷◌, ◌++◌, Some, None, Result, Ok, Err, codes, refl}
use Rattle.jl_types.specs.Events.Limits.{fixed}
use Rattle.jl_types.specs.declared.answer.Recv.TheVariants.{Null}
use Rattle.jl_types.specs.declared.answer.Answer.TheVariants as answer
use Rattle.jl_types.specs.declared.link.Link.TheVariants.{Plain}
use Rattle.jl_types.specs.declared.target.CallSiteKind.{CallSiteKind}
use Rattle.jl_types.specs.declared.target.CallSiteKind.TheVariants.{Constant, Mutable}
use Rattle.jl_types.specs.Values.Target.{Target, Method as Of, Guard, Invoker}
use Rattle.jl_types.specs.Events.Event.{Event}
use Rattle.jl_types.specs.declared.event.EventOf.TheVariants.{NewCallSite, SetTarget, NewSwitch, Invalidate, Bind, Install}
use Rattle.jl_types.specs.declared.event.Made.{Made}
use Rattle.jl_types.specs.declared.event.Made.TheVariants as made
use Rattle.jl_types.specs.declared.refusal.Refusal.{Refusal}
use Rattle.jl_types.specs.declared.refusal.Refusal.TheVariants.{CallSite}
use Rattle.jl_types.specs.declared.refusal.CallSiteFault.TheVariants.{Constant as KeepsIts, WrongType, UnknownSwitch, TooDeep, InvokerOrder}
use Rattle.jl_types.specs.declared.key.Key.TheVariants.{Target as Retarget, Valid}
use Rattle.jl_types.specs.Values.World.{World, Sites}
use Rattle.jl_types.specs.Linkage.Targets.{method_of}
use Rattle.jl_types.specs.Linkage.Links.{scratch}
use Rattle.jl_types.specs.Linkage.Calls.{dispatch}
use Rattle.jl_types.specs.Events.Verdict.{verdict}
use Rattle.jl_types.specs.Events.History.{world_after, installed_links, dropped}
use Rattle.jl_types.specs.Events.Footprints.{path, footprint, touched, bound}
use Rattle.jl_types.proofs.Rows.CallSites.{begun, m, n}

abbrev site : CallSiteKind → Target → Event
site kind t = NewCallSite kind (codes "()V") t

-- ---- call site 0 runs m, and 1, which is constant and to which site 0 is bound, whatever 0 runs

abbrev constant : List Event
constant = begun ++ site Mutable (Of m) ∷ site Constant (Invoker 0) ∷ Bind 0 1 ∷ []

prepared : scratch (world_after constant) 0 ≡ Ok (Plain m)
prepared = refl

abbrev linked : List Event
linked = constant ++ Install ((0, Plain m) ∷ []) ∷ []

invoked_retarget : dropped linked (SetTarget 0 (Of n)) ≡ 0 ∷ []
invoked_retarget = refl

runs_its_target_now : dispatch (world_after (linked ++ SetTarget 0 (Of n) ∷ [])) 0 Null ≡ answer.Run n
runs_its_target_now = refl

stays_pending : installed_links (linked ++ SetTarget 0 (Of n) ∷ SetTarget 0 (Of m) ∷ []) ≡ []
stays_pending = refl

same_target : dropped linked (SetTarget 0 (Of m)) ≡ []
same_target = refl

rests_on_both : footprint (world_after linked) 0 ≡ Retarget 0 ∷ Retarget 1 ∷ []
rests_on_both = refl

comes_by_both : path (world_after linked).sites 1 ≡ Retarget 1 ∷ Retarget 0 ∷ []
comes_by_both = refl

one_evaluation : bound linked (SetTarget 0 (Of n)) ≡ 1
one_evaluation = refl

of_a_later_one : verdict (fixed 65536) (world_after linked) (SetTarget 0 (Invoker 1)) ≡ Err (CallSite (InvokerOrder 1))
of_a_later_one = refl

of_itself : verdict (fixed 65536) (world_after linked) (SetTarget 0 (Invoker 0)) ≡ Err (CallSite (InvokerOrder 0))
of_itself = refl

constant_before_its_target : verdict (fixed 65536) (world_after linked) (SetTarget 1 (Invoker 9)) ≡ Err (CallSite KeepsIts)
constant_before_its_target = refl

-- ---- an invoker as a part of a guard

-- call site 1 is a guard on point 0 of what 0 runs and of m
abbrev guarded : List Event
guarded = begun ++ site Mutable (Of m) ∷ site Mutable (Guard 0 (Invoker 0) (Of m)) ∷ Bind 0 1 ∷ Install ((0, Plain m) ∷ []) ∷ []

rests_on_the_point : footprint (world_after guarded) 0 ≡ Retarget 0 ∷ Retarget 1 ∷ Valid 0 ∷ []
rests_on_the_point = refl

same_fallback : dropped guarded (Invalidate (0 ∷ [])) ≡ []
same_fallback = refl

abbrev fallen_back : List Event
fallen_back = guarded ++ Invalidate (0 ∷ []) ∷ []

rests_on_less : footprint (world_after fallen_back) 0 ≡ Retarget 1 ∷ []
rests_on_less = refl

off_the_way : dropped fallen_back (SetTarget 0 (Of n)) ≡ []
off_the_way = refl

untouched : touched fallen_back (SetTarget 0 (Of n)) ≡ []
untouched = refl

still_linked : installed_links (fallen_back ++ SetTarget 0 (Of n) ∷ []) ≡ (0, Plain m) ∷ []
still_linked = refl

-- ---- several ways to one call site, and points on the way of an invoked one

-- 0 runs m while point 0 is valid, and then n; 1 runs what 0 runs; 2 what 1 runs while point 1 is valid, and then what 0 runs
abbrev diamond : List Event
diamond = begun
    ++ NewSwitch
    ∷ site Mutable (Guard 0 (Of m) (Of n))
    ∷ site Mutable (Invoker 0)
    ∷ site Mutable (Guard 1 (Invoker 1) (Invoker 0))
    ∷ Bind 0 2
    ∷ Install ((0, Plain m) ∷ [])
    ∷ []

whole_way : path (world_after diamond).sites 2 ≡ Retarget 2 ∷ Valid 1 ∷ Retarget 1 ∷ Retarget 0 ∷ Valid 0 ∷ []
whole_way = refl

rising : footprint (world_after diamond) 0 ≡ Retarget 0 ∷ Retarget 1 ∷ Retarget 2 ∷ Valid 0 ∷ Valid 1 ∷ []
rising = refl

point_of_an_invoked_one : dropped diamond (Invalidate (0 ∷ [])) ≡ 0 ∷ []
point_of_an_invoked_one = refl

-- the other way to the same call site
other_way : dropped diamond (Invalidate (1 ∷ [])) ≡ []
other_way = refl

past_the_middle : footprint (world_after (diamond ++ Invalidate (1 ∷ []) ∷ [])) 0 ≡ Retarget 0 ∷ Retarget 2 ∷ Valid 0 ∷ []
past_the_middle = refl

middle_off_the_way : bound (diamond ++ Invalidate (1 ∷ []) ∷ []) (SetTarget 1 (Of n)) ≡ 0
middle_off_the_way = refl

middle_on_the_way : dropped diamond (SetTarget 1 (Of n)) ≡ 0 ∷ []
middle_on_the_way = refl

-- ---- targets that aren't taken

-- 0 and 1 of ()V, and 2 of ()I
abbrev three : World
three = record (world_after (begun ++ site Mutable (Of m) ∷ site Mutable (Of m) ∷ [])) {
  sites = record {
    call_sites = Some (record { kind = Mutable; ty = codes "()V"; target = Of m })
        ∷ Some (record { kind = Mutable; ty = codes "()V"; target = Of m })
        ∷ Some (record { kind = Mutable; ty = codes "()I"; target = Of m })
        ∷ [];
    switches = Some true ∷ [];
  };
}

abbrev answers : Event → Result Made Refusal
answers e = verdict (fixed 65536) three e

of_an_earlier_one : answers (SetTarget 1 (Invoker 0)) ≡ Ok made.Nothing
of_an_earlier_one = refl

of_another_type : answers (SetTarget 2 (Invoker 0)) ≡ Err (CallSite WrongType)
of_another_type = refl

order_before_type : answers (SetTarget 1 (Invoker 2)) ≡ Err (CallSite (InvokerOrder 2))
order_before_type = refl

of_none : answers (SetTarget 1 (Invoker 9)) ≡ Err (CallSite (InvokerOrder 9))
of_none = refl

new_one : answers (site Constant (Invoker 1)) ≡ Ok (made.CallSite 3)
new_one = refl

new_one_of_itself : answers (site Constant (Invoker 3)) ≡ Err (CallSite (InvokerOrder 3))
new_one_of_itself = refl

new_one_of_another_type : answers (site Constant (Invoker 2)) ≡ Err (CallSite WrongType)
new_one_of_another_type = refl

point_before_its_parts : answers (SetTarget 0 (Guard 9 (Invoker 0) (Of m))) ≡ Err (CallSite UnknownSwitch)
point_before_its_parts = refl

first_before_fallback : answers (SetTarget 0 (Guard 0 (Invoker 0) (Of (record { class = 9; index = 0 })))) ≡ Err (CallSite (InvokerOrder 0))
first_before_fallback = refl

untaken_part : answers (SetTarget 0 (Guard 0 (Of m) (Invoker 1))) ≡ Err (CallSite (InvokerOrder 1))
untaken_part = refl

-- ---- size: an invoker is one part of depth one, whatever its call site's target is

abbrev deep : ℕ → Target → Target
deep zero t = t
deep (suc k) t = Guard 0 (deep k t) (Of n)

deepest : answers (site Mutable (deep 63 (Invoker 0))) ≡ Ok (made.CallSite 3)
deepest = refl

too_deep : answers (site Mutable (deep 64 (Invoker 0))) ≡ Err (CallSite TooDeep)
too_deep = refl

abbrev tree : ℕ → Target
tree zero = Invoker 0
tree (suc k) = Guard 0 (tree k) (tree k)

many_parts : answers (SetTarget 1 (tree 7)) ≡ Ok made.Nothing
many_parts = refl

size_before_order : answers (SetTarget 0 (Guard 0 (tree 7) (Of m))) ≡ Err (CallSite TooDeep)
size_before_order = refl

of_a_deep_one : verdict (fixed 65536) (world_after (begun ++ site Mutable (deep 63 (Of m)) ∷ [])) (site Mutable (Guard 0 (Invoker 0) (Of m)))
    ≡ Ok (made.CallSite 1)
of_a_deep_one = refl

-- ---- what no event leaves: an invoker of no earlier call site stands for nothing, and ends the way

abbrev of_targets : Target → Target → Sites
of_targets t u = record {
  call_sites = Some (record { kind = Mutable; ty = codes "()V"; target = t }) ∷ Some (record { kind = Mutable; ty = codes "()V"; target = u }) ∷ [];
  switches = Some true ∷ [];
}

itself : method_of (of_targets (Invoker 0) (Of m)) 0 ≡ None
itself = refl

later : method_of (of_targets (Invoker 1) (Of m)) 0 ≡ None
later = refl

absent : method_of (of_targets (Of m) (Invoker 7)) 1 ≡ None
absent = refl

earlier : method_of (of_targets (Of m) (Invoker 0)) 1 ≡ Some m
earlier = refl

no_call_site : method_of (of_targets (Of m) (Of n)) 2 ≡ None
no_call_site = refl

way_of_later : path (of_targets (Guard 0 (Invoker 1) (Of m)) (Of m)) 0 ≡ Retarget 0 ∷ Valid 0 ∷ []
way_of_later = refl

way_of_none : path (of_targets (Of m) (Of n)) 2 ≡ Retarget 2 ∷ []
way_of_none = refl
